-- What a block stands for, byte by byte; and that no two blocks stand for the same recipe, so that what a block stands for tells each of
-- its bytes.
-- Assumes nothing.
use mathlib.Core.Path.{◌≡◌, refl, sym, ap, ap₂, ◌∙◌}
use mathlib.Core.List.{List, [], ◌∷◌, ◌++◌, append-nil}
use Prim.Native.Nat.{ℕ, suc, ◌+◌, ◌-◌, ◌≤◌, ◌<◌}
use native.Mathlib.Decide.{dec_lt}
use native.Mathlib.Omega.{arith}
use lib.ListN.{length, get_or, take, drop, set, length-drop, drop_of_length-le, get_or-append}
use borrow.Rule.Slice.PartMut.{put_mid}
use lib.Seq.{ext_get_or, take_at, drop_at, get_or-take, get_or-drop, get_or-append-add, drop-length, take_all}
use Rattle.spec.specs.declared.Cascade.{Cascade}
use Rattle.spec.specs.declared.Filter.{Filter}
use Rattle.spec.specs.Words.{tab, part}
use native.Mathlib.Nat.{add-zero}
use native.Mathlib.Numerals.{one-add}
use Rattle.laws.proofs.Lists.{tab_agree, tab_get_d, get_d_tab, part_take, part_within}
use Rattle.blocks.specs.Given.{list_at, given, block_of}

-- a list whose count and widths stand at a place
list_stands : (at : ℕ) (block : List ℕ) (list : Cascade) → length list.widths ≡ 48 → get_or block at 0 ≡ list.count
    → ((k : ℕ) → k < 48 → get_or block (at + 1 + k) 0 ≡ get_or list.widths k 0) → list_at at block ≡ list
unfolding list_at part
list_stands at block list size first rest =
    let all : tab 48 (λ k. get_or block (at + 1 + k) 0) ≡ list.widths =
    tab_agree 48 _ _ rest ∙ ap (λ n. tab n (λ k. get_or list.widths k 0)) (sym size) ∙ tab_get_d 0 list.widths in
    λ i. record { count = first i; widths = all i }

-- the list of a count and the bytes after it
pub list_read : (bytes widths : List ℕ) → length bytes ≡ 49 → widths ≡ take (length bytes - 1) (drop 1 bytes)
    → record { count = get_or bytes 0 0; widths = widths } ≡ list_at 0 bytes
unfolding list_at
list_read bytes widths size e =
    let all : widths ≡ part 1 48 bytes = e ∙ ap (λ n. take (n - 1) (drop 1 bytes)) size ∙ sym (part_within 1 48 bytes (omega arith)) in
    λ i. record { count = get_or bytes 0 0; widths = all i }

-- the list of a part of a block that was lent
pub list_lent : (at : ℕ) (block lent : List ℕ) → lent ≡ take 49 (drop at block) → list_at 0 lent ≡ list_at at block
unfolding list_at part
list_lent at block lent e =
    let same : (k : ℕ) → k < 49 → get_or lent k 0 ≡ get_or block (at + k) 0 =
    λ k h. ap (λ l. get_or l k 0) e ∙ get_or-take 49 (drop at block) k 0 h ∙ get_or-drop at block k 0 in
    let all : part 1 48 lent ≡ part (at + 1) 48 block =
    tab_agree 48 _ _ (λ k h. let n : at + (1 + k) ≡ at + 1 + k = omega arith in same (1 + k) (omega arith) ∙ ap (λ j. get_or block j 0) n) in
    let first : get_or lent 0 0 ≡ get_or block at 0 = same 0 (omega arith) ∙ ap (λ j. get_or block j 0) (add-zero at) in
    λ i. record { count = first i; widths = all i }

-- a count and widths that are put into a list's bytes
pub list_put : (count : ℕ) (widths bytes : List ℕ) → length bytes ≡ 49
    → put_mid 1 (length (set bytes 0 count) - 1) (set bytes 0 count) widths ≡ count ∷ widths
list_put count widths [] size = absurd (omega arith)
list_put count widths (b ∷ bs) size =
    let rest : suc (length bs) - 1 ≡ length bs = omega arith in
    ap (λ n. count ∷ (widths ++ drop n bs)) rest ∙ ap (λ l. count ∷ (widths ++ l)) (drop-length bs) ∙ ap (λ l. count ∷ l) (append-nil widths)

-- the two parts of a block that were lent
pub both_put : (rows columns old : List ℕ) → length rows ≡ 49 → length columns ≡ 49 → length old ≡ 98
    → put_mid 49 49 (rows ++ drop 49 old) columns ≡ rows ++ columns
both_put rows columns old r s l =
    let rest : drop 49 (drop 49 (rows ++ drop 49 old)) ≡ [] =
    ap (drop 49) (drop_at rows (drop 49 old) 49 r) ∙ drop_of_length-le (drop 49 old) {i = 49} (omega (arith, length-drop 49 old)) in
    ap₂ (λ a b. a ++ (columns ++ b)) (take_at rows (drop 49 old) 49 r) rest ∙ ap (λ l. rows ++ l) (append-nil columns)

-- the block of a recipe stands for it
pub given_block : (f : Filter) → length f.rows.widths ≡ 48 → length f.columns.widths ≡ 48 → given (block_of f) ≡ f
unfolding given block_of
given_block f r s =
    let rows = f.rows.count ∷ f.rows.widths in
    let columns = f.columns.count ∷ f.columns.widths in
    let size : length rows ≡ 49 = omega arith in
    let front : (k : ℕ) → k < 48 → get_or (rows ++ columns) (1 + k) 0 ≡ get_or f.rows.widths k 0 =
    λ k h. get_or-append rows columns 0 (1 + k) (omega arith) ∙ ap (λ j. get_or rows j 0) (one-add k) in
    let back : (k : ℕ) → get_or (rows ++ columns) (49 + k) 0 ≡ get_or columns k 0 =
    λ k. ap (λ n. get_or (rows ++ columns) (n + k) 0) (sym size) ∙ get_or-append-add rows columns k 0 in
    let later : (k : ℕ) → k < 48 → get_or (rows ++ columns) (50 + k) 0 ≡ get_or f.columns.widths k 0 =
    λ k h.
    let n : 50 + k ≡ 49 + suc k = omega arith in
    ap (λ j. get_or (rows ++ columns) j 0) n ∙ back (suc k) in
    let first = list_stands 0 (rows ++ columns) f.rows r refl front in
    let second = list_stands 49 (rows ++ columns) f.columns s (back 0) later in
    λ i. record { rows = first i; columns = second i }

-- the bytes of a list, from what it stands for
list_bytes : (at : ℕ) (a b : List ℕ) → list_at at a ≡ list_at at b → (k : ℕ) → at ≤ k → k < at + 49 → get_or a k 0 ≡ get_or b k 0
unfolding list_at part
list_bytes at a b e k h g =
    elim (dec_lt at k) [
      | yes v ↦
          let j = k - (at + 1) in
          let here : at + 1 + j ≡ k = omega arith in
          let small : j < 48 = omega arith in
          ap (λ n. get_or a n 0) (sym here)
          ∙ sym (get_d_tab 48 (λ i. get_or a (at + 1 + i) 0) j 0 small)
          ∙ ap (λ (c : Cascade). get_or c.widths j 0) e
          ∙ get_d_tab 48 (λ i. get_or b (at + 1 + i) 0) j 0 small
          ∙ ap (λ n. get_or b n 0) here
      | no v ↦
          let here : k ≡ at = omega arith in
          ap (λ n. get_or a n 0) here ∙ ap (λ (c : Cascade). c.count) e ∙ ap (λ n. get_or b n 0) (sym here)
    ]

-- two blocks that stand for the same recipe are the same
pub given_one : (a b : List ℕ) → length a ≡ 98 → length b ≡ 98 → given a ≡ given b → a ≡ b
unfolding given
given_one a b la lb e =
    ext_get_or 0 a b (la ∙ sym lb)
    (λ k h.
    elim (dec_lt k 49) [
      | yes v ↦ list_bytes 0 a b (ap (λ (f : Filter). f.rows) e) k (omega arith) (omega arith)
      | no v ↦ list_bytes 49 a b (ap (λ (f : Filter). f.columns) e) k (omega arith) (omega arith)
    ])

-- a block is that of the recipe that it stands for
pub own_block : (block : List ℕ) → length block ≡ 98 → block ≡ block_of (given block)
unfolding given list_at block_of part tab
own_block block size = sym (part_take 98 block (omega arith) ∙ take_all 98 block (omega arith))

-- two blocks of three words that have the same words are the same
pub words_one : (a b : List ℕ) → length a ≡ 3 → length b ≡ 3 → get_or a 0 0 ≡ get_or b 0 0 → get_or a 1 0 ≡ get_or b 1 0 → get_or a 2 0 ≡ get_or b 2 0
    → a ≡ b
words_one a b la lb p q r =
    ext_get_or 0 a b (la ∙ sym lb)
    (λ k h.
    elim (dec_lt k 1) [
      | yes u ↦ here k 0 (omega arith) p
      | no u ↦ elim (dec_lt k 2) [
        | yes v ↦ here k 1 (omega arith) q
        | no v ↦ here k 2 (omega arith) r
      ]
    ])
  where
    here : (k n : ℕ) → k ≡ n → get_or a n 0 ≡ get_or b n 0 → get_or a k 0 ≡ get_or b k 0
    here k n e s = ap (λ m. get_or a m 0) e ∙ s ∙ ap (λ m. get_or b m 0) (sym e)
