-- A stage down the columns works each column by itself, by its value and two of its cells: so on some columns and then on those next
-- to them is on all of these, and on a part of the cells is on all of them. And blocks of columns that were lent.
-- Assumes nothing.
use Rattle.std.proofs.Common.{◌≡◌, ℕ, zero, suc, ◌+◌, ◌-◌, ◌<◌, ◌≤◌, ◌⊎◌, List, [], ◌∷◌, ◌++◌, length, get_or, take, drop, sym, refl, ap, ◌∙◌, ap₂, ⊎_elim, append_assoc, add-zero, arith, length-append, length-drop, take-append-drop, length-take-le, get_or-drop, get_or-take, take-take, drop-drop, take_at, get_or-append-add, take-add, drop_at}
use lib.ListN.{get_or-append}
use lib.Seq.{drop-append-le}
use Rattle.spec.specs.Words.{tab}
use Rattle.laws.proofs.Lists.{length_tab, get_d_tab, tab_agree, tab_get_d}
use Rattle.laws.proofs.Slices.{patched, patched_before, patched_after, length_patched}
use Rattle.stream.specs.Stages.{Worked, plus, minus, slot_total, column_pair, column_slot}
use Rattle.stream.specs.Private.{pair_at, Kept}

tab_append : (n m : ℕ) (f : ℕ → ℕ) → tab (n + m) f ≡ tab n f ++ tab m (λ j. f (n + j))
unfolding tab
tab_append zero m f =
    let e : (j : ℕ) → j ≡ 0 + j = λ j. omega arith in
    ap (λ k. tab k f) (sym (e m)) ∙ tab_agree m f (λ j. f (0 + j)) (λ j h. ap f (e j))
tab_append (suc n) m f =
    let e : (j : ℕ) → suc (n + j) ≡ suc n + j = λ j. omega arith in
    ap (λ k. tab k f) (sym (e m))
    ∙ ap (λ l. f 0 ∷ l) (tab_append n m (λ k. f (suc k)))
    ∙ ap (λ l. f 0 ∷ (tab n (λ k. f (suc k)) ++ l)) (tab_agree m (λ j. f (suc (n + j))) (λ j. f (suc n + j)) (λ j h. ap f (e j)))

-- a value for each column, by a rule on the value and on two cells of the column, the first of them at b and o
unfoldable pub vals : (ℕ → ℕ → ℕ → ℕ) → ℕ → ℕ → List ℕ → List ℕ → List ℕ
vals f b o x own = tab (length x) (λ j. f (get_or x j 0) (get_or own (b + j) 0) (get_or own (o + j) 0))

length_vals : (f : ℕ → ℕ → ℕ → ℕ) (b o : ℕ) (x own : List ℕ) → length (vals f b o x own) ≡ length x
unfolding vals
length_vals f b o x own = length_tab (length x) (λ j. f (get_or x j 0) (get_or own (b + j) 0) (get_or own (o + j) 0))

-- by the same cells in another list, from other places on
vals_same : (f : ℕ → ℕ → ℕ → ℕ) (b o c p : ℕ) (x own other : List ℕ)
    → ((j : ℕ) → j < length x → (get_or own (b + j) 0 ≡ get_or other (c + j) 0) × (get_or own (o + j) 0 ≡ get_or other (p + j) 0))
    → vals f b o x own ≡ vals f c p x other
unfolding vals
vals_same f b o c p x own other h =
    tab_agree (length x) (λ j. f (get_or x j 0) (get_or own (b + j) 0) (get_or own (o + j) 0)) (λ j. f (get_or x j 0) (get_or other (c + j) 0) (get_or other (p + j) 0))
    (λ j l. ap₂ (λ u v. f (get_or x j 0) u v) (h j l).0 (h j l).1)

vals_append : (f : ℕ → ℕ → ℕ → ℕ) (b o : ℕ) (x y own : List ℕ)
    → vals f b o (x ++ y) own ≡ vals f b o x own ++ vals f (b + length x) (o + length x) y own
unfolding vals
vals_append f b o x y own =
    let g : ℕ → ℕ = λ j. f (get_or (x ++ y) j 0) (get_or own (b + j) 0) (get_or own (o + j) 0) in
    ap (λ n. tab n g) (length-append x y)
    ∙ tab_append (length x) (length y) g
    ∙ ap₂ ◌++◌
    (tab_agree (length x) g (λ j. f (get_or x j 0) (get_or own (b + j) 0) (get_or own (o + j) 0))
    (λ j h. ap (λ v. f v (get_or own (b + j) 0) (get_or own (o + j) 0)) (get_or-append x y 0 j h)))
    (tab_agree (length y) (λ j. g (length x + j)) (λ j. f (get_or y j 0) (get_or own (b + length x + j) 0) (get_or own (o + length x + j) 0))
    (λ j h.
    let p : b + (length x + j) ≡ b + length x + j = omega arith in
    let q : o + (length x + j) ≡ o + length x + j = omega arith in
    ap (λ v. f v (get_or own (b + (length x + j)) 0) (get_or own (o + (length x + j)) 0)) (get_or-append-add x y j 0)
    ∙ ap₂ (λ u v. f (get_or y j 0) (get_or own u 0) (get_or own v 0)) p q))

-- Values made by one rule, and by another those that the cells from o on keep.
module _ (made kept : ℕ → ℕ → ℕ → ℕ) where
  unfoldable pub acting : ℕ → ℕ → List ℕ → List ℕ → Worked
  acting b o x own =
      record { row = vals made b o x own; cells = take o own ++ (vals kept b o x own ++ drop (o + length x) own) }

  module _ (b o : ℕ) (x own : List ℕ) (h : o + length x ≤ length own) where
    mine : List ℕ
    mine = vals kept b o x own

    fits : o + length mine ≤ length own
    unfolding mine
    fits = omega (arith, length_vals kept b o x own)

    acted : (acting b o x own).cells ≡ patched o mine own fits
    unfolding acting patched mine
    acted = ap (λ n. take o own ++ (vals kept b o x own ++ drop (o + n) own)) (sym (length_vals kept b o x own))

    pub acting_keeps : Kept (length x) (length own) (acting b o x own)
    unfolding acting
    acting_keeps = record { row = length_vals made b o x own; cells = ap length acted ∙ length_patched o mine own fits }

    -- what stands before and after the columns that were worked
    acted-before : (k : ℕ) → k < o → get_or (acting b o x own).cells k 0 ≡ get_or own k 0
    acted-before k l = ap (λ c. get_or c k 0) acted ∙ patched_before o mine own fits 0 k l

    acted-after : (k : ℕ) → o + length x ≤ k → get_or (acting b o x own).cells k 0 ≡ get_or own k 0
    unfolding mine
    acted-after k l = ap (λ c. get_or c k 0) acted ∙ patched_after o mine own fits 0 k (omega (arith, length_vals kept b o x own))

    front : length (take o own ++ vals kept b o x own) ≡ o + length x
    front =
        omega (arith, length-append (take o own) (vals kept b o x own), length-take-le o own (omega arith), length_vals kept b o x own)

    acted-take : take (o + length x) (acting b o x own).cells ≡ take o own ++ vals kept b o x own
    unfolding acting
    acted-take =
        ap (take (o + length x)) (sym (append_assoc (take o own) (vals kept b o x own) (drop (o + length x) own)))
        ∙ take_at (take o own ++ vals kept b o x own) (drop (o + length x) own) (o + length x) front

    acted-drop : drop (o + length x) (acting b o x own).cells ≡ drop (o + length x) own
    unfolding acting
    acted-drop =
        ap (drop (o + length x)) (sym (append_assoc (take o own) (vals kept b o x own) (drop (o + length x) own)))
        ∙ drop_at (take o own ++ vals kept b o x own) (drop (o + length x) own) (o + length x) front

  -- some columns, and then those next to them
  pub acting_append : (b o : ℕ) (x y own : List ℕ) → o + (length x + length y) ≤ length own
      → (b + (length x + length y) ≤ o) ⊎ (o ≤ b)
      → acting b o (x ++ y) own
      ≡ record {
        row = (acting b o x own).row ++ (acting (b + length x) (o + length x) y (acting b o x own).cells).row;
        cells = (acting (b + length x) (o + length x) y (acting b o x own).cells).cells;
      }
  unfolding acting
  acting_append b o x y own h d =
      let g : o + length x ≤ length own = omega arith in
      let first = (acting b o x own).cells in
      let same : (f : ℕ → ℕ → ℕ → ℕ) → vals f (b + length x) (o + length x) y own ≡ vals f (b + length x) (o + length x) y first =
      λ f. vals_same f (b + length x) (o + length x) (b + length x) (o + length x) y own first
      (λ j l. (
        sym (⊎_elim
            (λ u. acted-before b o x own g (b + length x + j) (omega arith))
            (λ u. acted-after b o x own g (b + length x + j) (omega arith))
            d),
        sym (acted-after b o x own g (o + length x + j) (omega arith)),
      )) in
      let row = vals_append made b o x y own ∙ ap (λ l. vals made b o x own ++ l) (same made) in
      let keep = vals_append kept b o x y own ∙ ap (λ l. vals kept b o x own ++ l) (same kept) in
      let n : o + length (x ++ y) ≡ o + length x + length y = omega (arith, length-append x y) in
      let back : drop (o + length (x ++ y)) own ≡ drop (o + length x + length y) first =
      ap (λ k. drop k own) n
      ∙ sym (drop-drop (length y) (o + length x) own)
      ∙ ap (drop (length y)) (sym (acted-drop b o x own g))
      ∙ drop-drop (length y) (o + length x) first in
      let cells : take o own ++ (vals kept b o (x ++ y) own ++ drop (o + length (x ++ y)) own)
      ≡ take (o + length x) first ++ (vals kept (b + length x) (o + length x) y first ++ drop (o + length x + length y) first) =
      ap₂ (λ u v. take o own ++ (u ++ v)) keep back
      ∙ ap (λ l. take o own ++ l) (append_assoc (vals kept b o x own) (vals kept (b + length x) (o + length x) y first) (drop (o + length x + length y) first))
      ∙ sym (append_assoc (take o own) (vals kept b o x own) (vals kept (b + length x) (o + length x) y first ++ drop (o + length x + length y) first))
      ∙ ap (λ l. l ++ (vals kept (b + length x) (o + length x) y first ++ drop (o + length x + length y) first)) (sym (acted-take b o x own g)) in
      ap₂ (λ u v. record { row = u; cells = v }) row cells

  -- no columns
  pub acting_none : (b o : ℕ) (own : List ℕ) → acting b o [] own ≡ record { row = []; cells = own }
  unfolding acting vals tab
  acting_none b o own =
      ap (λ l. record { row = []; cells = l }) (ap (λ k. take o own ++ drop k own) (add-zero o) ∙ take-append-drop o own)

  -- on a part of the cells that starts at t, and on all cells
  pub acting_within : (t size b o : ℕ) (x cells : List ℕ) → t + size ≤ length cells → b + length x ≤ size → o + length x ≤ size
      → acting (t + b) (t + o) x cells
      ≡ record {
        row = (acting b o x (take size (drop t cells))).row;
        cells = take t cells ++ ((acting b o x (take size (drop t cells))).cells ++ drop size (drop t cells));
      }
  unfolding acting
  acting_within t size b o x cells h p q =
      let own = take size (drop t cells) in
      let back = drop size (drop t cells) in
      let at : (a j : ℕ) → a + length x ≤ size → j < length x → get_or cells (t + a + j) 0 ≡ get_or own (a + j) 0 =
      λ a j u l.
      let n : t + a + j ≡ t + (a + j) = omega arith in
      ap (λ k. get_or cells k 0) n ∙ sym (get_or-take size (drop t cells) (a + j) 0 (omega arith) ∙ get_or-drop t cells (a + j) 0) in
      let same : (f : ℕ → ℕ → ℕ → ℕ) → vals f (t + b) (t + o) x cells ≡ vals f b o x own =
      λ f. vals_same f (t + b) (t + o) b o x cells own (λ j l. (at b j p l, at o j q l)) in
      let size-own : length own ≡ size = length-take-le size (drop t cells) (omega (arith, length-drop t cells)) in
      let fore : take (t + o) cells ≡ take t cells ++ take o own =
      take-add t o cells ∙ ap (λ l. take t cells ++ l) (sym (take-take o size (drop t cells) (omega arith))) in
      let n : t + o + length x ≡ t + (o + length x) = omega arith in
      let inside : o + length x ≤ length own = omega arith in
      let rest : drop (t + o + length x) cells ≡ drop (o + length x) own ++ back =
      ap (λ k. drop k cells) n
      ∙ sym (drop-drop (o + length x) t cells)
      ∙ ap (drop (o + length x)) (sym (take-append-drop size (drop t cells)))
      ∙ drop-append-le (o + length x) own back inside in
      let k = vals kept b o x own in
      let whole : take (t + o) cells ++ (vals kept (t + b) (t + o) x cells ++ drop (t + o + length x) cells)
      ≡ take t cells ++ ((take o own ++ (k ++ drop (o + length x) own)) ++ back) =
      ap₂ (λ u v. u ++ v) fore (ap₂ ◌++◌ (same kept) rest)
      ∙ append_assoc (take t cells) (take o own) (k ++ (drop (o + length x) own ++ back))
      ∙ ap (λ l. take t cells ++ (take o own ++ l)) (sym (append_assoc k (drop (o + length x) own) back))
      ∙ ap (λ l. take t cells ++ l) (sym (append_assoc (take o own) (k ++ drop (o + length x) own) back)) in
      ap₂ (λ u v. record { row = u; cells = v }) (same made) whole

-- a stage of width 2, and a wider one
abbrev pub pair_made : ℕ → ℕ → ℕ → ℕ
pair_made v above old = plus v old

abbrev pub pair_kept : ℕ → ℕ → ℕ → ℕ
pair_kept v above old = v

abbrev pub slot_made : ℕ → ℕ → ℕ → ℕ
slot_made v above old = minus (plus above v) old

abbrev pub slot_kept : ℕ → ℕ → ℕ → ℕ
slot_kept v above old = plus above v

pub pair_acts : (at : ℕ) (x own : List ℕ) → pair_at at x own ≡ acting pair_made pair_kept at at x own
unfolding pair_at acting vals
pair_acts at x own =
    ap (λ l. record { row = tab (length x) (λ j. plus (get_or x j 0) (get_or own (at + j) 0)); cells = take at own ++ (l ++ drop (at + length x) own) })
    (sym (tab_get_d 0 x))

-- lent its own cells
pub pair_lent : (at to : ℕ) (x own : List ℕ) → to ≡ at + length x → to ≤ length own
    → let part = take (to - at) (drop at own) in
    ((column_pair x part).row ≡ (pair_at at x own).row)
    × (take at own ++ ((column_pair x part).cells ++ drop (to - at) (drop at own)) ≡ (pair_at at x own).cells)
unfolding column_pair pair_at
pair_lent at to x own p h =
    let n : to - at ≡ length x = omega arith in (
      tab_agree (length x) (λ j. plus (get_or x j 0) (get_or (take (to - at) (drop at own)) j 0)) (λ j. plus (get_or x j 0) (get_or own (at + j) 0))
          (λ j l. ap (plus (get_or x j 0)) (get_or-take (to - at) (drop at own) j 0 (omega arith) ∙ get_or-drop at own j 0)),
      ap (λ l. take at own ++ (x ++ l)) (ap (λ k. drop k (drop at own)) n ∙ drop-drop (length x) at own),
    )

-- the totals in the front of an array, and what is left of them; both slots are lent
pub slot_lent : (b o : ℕ) (x own totals rest kept made : List ℕ) → b + length x ≤ length own → o + length x ≤ length own
    → totals ≡ tab (length x) (λ j. plus (get_or (take (b + length x - b) (drop b own)) j 0) (get_or x j 0))
    → kept ≡ take (length x) (totals ++ rest)
    → made ≡ tab (length x) (λ j. minus (get_or (take (length x) (totals ++ rest)) j 0) (get_or (take (o + length x - o) (drop o own)) j 0))
    → (made ≡ (column_slot b o x own).row)
    × (take o own ++ (kept ++ drop (o + length x - o) (drop o own)) ≡ (column_slot b o x own).cells)
unfolding column_slot slot_total
slot_lent b o x own totals rest kept made p q t l m =
    let n = length x in
    let at : (a j : ℕ) → j < n → get_or (take (a + n - a) (drop a own)) j 0 ≡ get_or own (a + j) 0 =
    λ a j g. get_or-take (a + n - a) (drop a own) j 0 (omega arith) ∙ get_or-drop a own j 0 in
    let so : totals ≡ tab n (slot_total b x own) =
    t ∙ tab_agree n (λ j. plus (get_or (take (b + n - b) (drop b own)) j 0) (get_or x j 0)) (slot_total b x own) (λ j g. ap (λ v. plus v (get_or x j 0)) (at b j g)) in
    let k : length totals ≡ n = ap length so ∙ length_tab n (slot_total b x own) in
    let lent = take n (totals ++ rest) in
    let all : lent ≡ tab n (slot_total b x own) = take_at totals rest n k ∙ so in
    let d : o + n - o ≡ n = omega arith in (
      m
          ∙ tab_agree n (λ j. minus (get_or lent j 0) (get_or (take (o + n - o) (drop o own)) j 0)) (λ j. minus (slot_total b x own j) (get_or own (o + j) 0))
          (λ j g. ap₂ minus (ap (λ u. get_or u j 0) all ∙ get_d_tab n (slot_total b x own) j 0 g) (at o j g)),
      ap₂ (λ u v. take o own ++ (u ++ v)) (l ∙ all) (ap (λ i. drop i (drop o own)) d ∙ drop-drop n o own),
    )

pub slot_acts : (b o : ℕ) (x own : List ℕ) → column_slot b o x own ≡ acting slot_made slot_kept b o x own
unfolding column_slot slot_total acting vals
slot_acts b o x own = refl
