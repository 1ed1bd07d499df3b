-- The stages of the column list on honest cells: rows and cells that hold, modulo 2^64, what exact running sums over all rows so far would.
-- Assumes nothing.
use mathlib.Core.Path.{◌≡◌, refl, sym, ap, ap₂, subst, ◌∙◌}
use mathlib.Core.List.{List, [], ◌∷◌, ◌++◌}
use mathlib.Core.Logic.{◌⊎◌, inl, inr}
use Prim.Native.Nat.{ℕ, suc, ◌+◌, ◌-◌, ◌*◌, ◌%◌, ◌^◌, ◌≤◌, ◌<◌}
use native.Mathlib.Nat.{mul_comm, mul-one, le_trans, le_of_eq}
use native.Mathlib.Numerals.{add-one}
use native.Mathlib.Decide.{dec_lt}
use native.Mathlib.Omega.{arith}
use lib.ListN.{length, get_or, take, drop, length-append, length-drop}
use lib.Seq.{length-take-le, take-append_seam, drop-append_seam, get_or-take, get_or-drop}
use Rattle.spec.specs.Words.{sum, total, product}
use Rattle.spec.specs.Recipe.{weight}
use Rattle.spec.specs.Stream.{box_cells}
use Rattle.laws.proofs.Numbers.{row_fits}
use Rattle.laws.proofs.Lists.{length_tab, get_d_tab, factor_pos}
use Rattle.laws.proofs.Sequences.{behind, boxed, behind_zero, behind_suc, behind_start}
use Rattle.laws.proofs.Kernels.{at}
use Rattle.laws.proofs.Cascades.{spread, cascaded, spread_one, spread_unit}
use Rattle.stream.specs.Stages.{Worked, plus, minus, covered, slot_before, slot_total, column_pair, column_slot, column_stage, stages}
use Rattle.stream.proofs.Wrapping.{plus_exact, minus_exact}
use Rattle.stream.proofs.Rings.{covered_none, covered_oldest, covered_latest, covered_next, covered_other, slot_inside, slot_less, before_less}
use Rattle.stream.proofs.Boxes.{boxed_two, boxed_total, cells_two, cells_wide, column_one, column_two, column_wide}
use Rattle.stream.proofs.Slots.{new, new_is, size, at_new, beside}
use Rattle.stream.proofs.Following.{Follows, widths_are}

-- ---- down the columns: f j i is the value of row j in column i

-- the cells of one stage after e rows
pub record Kept (w n : ℕ) (f : ℕ → ℕ → ℕ) (e : ℕ) (own : List ℕ) : Type 0 where
  pub pair : n ≡ 2 → (i : ℕ) → i < w → at own i ≡ behind (λ j. f j i) 1 e % 2 ^ 64
  pub slots : 2 < n → (s i : ℕ) → s < n → i < w → at own (s * w + i) ≡ sum (covered n e s) (λ j. f j i) % 2 ^ 64

module _ (w n : ℕ) (f : ℕ → ℕ → ℕ) (e : ℕ) (row own : List ℕ) (r : Follows w (f e) row) (k : Kept w n f e own) where
  abbrev through : ℕ → ℕ
  through i = spread 1 n (λ j. f j i) e

  -- width 1
  one_row : n < 2 → 0 < n → Follows w through row
  one_row h pos =
      let u : n ≡ 1 = omega arith in
      record { wide = r.wide; values = λ i l. r.values i l ∙ ap (λ x. x % 2 ^ 64) (sym (ap (λ m. spread 1 m (λ j. f j i) e) u ∙ spread_unit 1 (λ j. f j i) e)) }

  -- width 2
  two_row : n ≡ 2 → Follows w through (column_pair row own).row
  unfolding column_pair at
  two_row u =
      record {
        wide = length_tab (length row) (λ i. plus (get_or row i 0) (get_or own i 0)) ∙ r.wide;
        values =
            λ i l.
            get_d_tab (length row) (λ i. plus (get_or row i 0) (get_or own i 0)) i 0 (omega (arith, r.wide))
            ∙ ap₂ plus (r.values i l) (k.pair u i l)
            ∙ plus_exact (f e i) (behind (λ j. f j i) 1 e)
            ∙ ap (λ x. x % 2 ^ 64) (sym (boxed_two (λ j. f j i) e) ∙ sym (spread_one 2 (λ j. f j i) e) ∙ ap (λ m. spread 1 m (λ j. f j i) e) (sym u));
      }

  two_kept : n ≡ 2 → Kept w n f (e + 1) (column_pair row own).cells
  unfolding column_pair
  two_kept u =
      record {
        pair =
            λ v i l.
            r.values i l
            ∙ ap (λ x. x % 2 ^ 64) (sym (ap (behind (λ j. f j i) 1) (add-one e) ∙ behind_suc (λ j. f j i) 0 e ∙ behind_zero (λ j. f j i) e));
        slots = λ v. absurd (omega arith);
      }

  -- wider
  module _ (h : 2 < n) (s : length own ≡ n * w) where
    pos : 0 < n
    pos = omega arith

    before : ℕ
    before = slot_before n e

    total-is : (i : ℕ) → i < w → slot_total (before * w) row own i ≡ sum (suc e) (λ j. f j i) % 2 ^ 64
    unfolding slot_total sum at before
    total-is i l =
        ap₂ plus
        (k.slots h (slot_before n e) i (before_less n e w (omega arith)) l ∙ ap (λ c. sum c (λ j. f j i) % 2 ^ 64) (covered_latest n pos e))
        (r.values i l)
        ∙ plus_exact (sum e (λ j. f j i)) (f e i)

    made : Worked
    made = column_slot (before * w) (e % n * w) row own

    wide_row : Follows w through made.row
    unfolding made column_slot at
    wide_row =
        let new : ℕ → ℕ = λ i. minus (slot_total (before * w) row own i) (get_or own (e % n * w + i) 0) in
        record {
          wide = length_tab (length row) new ∙ r.wide;
          values =
              λ i l.
              get_d_tab (length row) new i 0 (omega (arith, r.wide))
              ∙ ap₂ minus (total-is i l)
              (k.slots h (e % n) i (slot_less n e w (omega arith)) l ∙ ap (λ c. sum c (λ j. f j i) % 2 ^ 64) (covered_oldest n pos e))
              ∙ minus_exact (sum (suc e) (λ j. f j i)) (sum (suc e - n) (λ j. f j i)) (boxed n (λ j. f j i) e) (boxed_total n (λ j. f j i) e pos)
              ∙ ap (λ x. x % 2 ^ 64) (sym (spread_one n (λ j. f j i) e));
        }

    fits : e % n * w + length row ≤ length own
    fits = omega (arith, slot_inside n e w (omega arith), r.wide)

    cells_are : made.cells ≡ new (before * w) (e % n * w) row own fits
    unfolding made column_slot
    cells_are = new_is (before * w) (e % n * w) row own fits

    wide-size : length made.cells ≡ length own
    wide-size = ap length cells_are ∙ size (before * w) (e % n * w) row own fits

    wide-kept : Kept w n f (e + 1) made.cells
    unfolding at
    wide-kept =
        record {
          pair = λ v. absurd (omega arith);
          slots =
              λ v t i a b.
              ap (λ l. get_or l (t * w + i) 0) cells_are
              ∙ elim (dec_lt t (e % n)) [
                | yes g ↦
                    beside (before * w) (e % n * w) row own fits (t * w + i) (inl (omega (arith, row_fits w t (e % n) g)))
                    ∙ k.slots h t i a b
                    ∙ ap (λ c. sum c (λ j. f j i) % 2 ^ 64) (sym (covered_other n pos e t a (λ q. omega arith)))
                | no g ↦
                    elim (dec_lt (e % n) t) [
                      | yes d ↦
                          beside (before * w) (e % n * w) row own fits (t * w + i) (inr (omega (arith, row_fits w (e % n) t d, r.wide)))
                          ∙ k.slots h t i a b
                          ∙ ap (λ c. sum c (λ j. f j i) % 2 ^ 64) (sym (covered_other n pos e t a (λ q. omega arith)))
                      | no d ↦
                          let same : t ≡ e % n = omega arith in
                          let next : suc e ≡ e + 1 = omega arith in
                          ap (λ u. get_or (new (before * w) (e % n * w) row own fits) (u * w + i) 0) same
                          ∙ at_new (before * w) (e % n * w) row own fits i (omega (arith, r.wide))
                          ∙ total-is i b
                          ∙ ap (λ c. sum c (λ j. f j i) % 2 ^ 64) (next ∙ sym (covered_next n pos e) ∙ ap (covered n (e + 1)) (sym same))
                    ]
              ];
        }

  -- the stage, whatever its width
  pub column_follows : 0 < n → length own ≡ w * box_cells n
      → Follows w through (column_stage e n row own).row × Kept w n f (e + 1) (column_stage e n row own).cells
      × (length (column_stage e n row own).cells ≡ length own)
  unfolding column_pair made before
  column_follows p s = go (widths_are n)
    where
      so : (x : Worked) → column_stage e n row own ≡ x → Follows w through x.row → Kept w n f (e + 1) x.cells → length x.cells ≡ length own
          → Follows w through (column_stage e n row own).row × Kept w n f (e + 1) (column_stage e n row own).cells
          × (length (column_stage e n row own).cells ≡ length own)
      so x d a b c = (
        subst (λ (y : Worked). Follows w through y.row) (sym d) a,
        subst (λ (y : Worked). Kept w n f (e + 1) y.cells) (sym d) b,
        ap (λ (y : Worked). length y.cells) d ∙ c,
      )

      none : n < 2 → Kept w n f (e + 1) own
      none h = record { pair = λ v. absurd (omega arith); slots = λ v. absurd (omega arith) }

      go : (n < 2) ⊎ ((n ≡ 2) ⊎ (2 < n))
          → Follows w through (column_stage e n row own).row × Kept w n f (e + 1) (column_stage e n row own).cells
          × (length (column_stage e n row own).cells ≡ length own)
      go (inl h) = so _ (column_one n row own e h) (one_row h p) (none h) refl
      go (inr (inl u)) =
          so _ (column_two n row own e u) (two_row u) (two_kept u) (r.wide ∙ sym (s ∙ ap (λ x. w * x) (cells_two n u) ∙ mul-one w))
      go (inr (inr h)) =
          let q : length own ≡ n * w = s ∙ ap (λ x. w * x) (cells_wide n h) ∙ mul_comm w n in
          so (made h q) (column_wide n row own e h ∙ ap (λ m. column_slot (slot_before n e * m) (e % n * m) row own) r.wide) (wide_row h q) (wide-kept h q)
          (wide-size h q)

-- the cells of all stages after e rows
abbrev pub KeptAll : ℕ → List ℕ → (ℕ → ℕ → ℕ) → ℕ → List ℕ → Type 0
KeptAll w [] f e cells = Unit {0}
KeptAll w (n ∷ ns) f e cells =
    Kept w n f e (take (w * box_cells n) cells) × KeptAll w ns (λ j i. spread 1 n (λ v. f v i) j) e (drop (w * box_cells n) cells)

-- all stages of the column list: the row follows the cascade, and the cells are those of one row more
pub columns_follow : (w : ℕ) (ns : List ℕ) (f : ℕ → ℕ → ℕ) (e : ℕ) (row cells : List ℕ) → 0 < weight ns → total (λ n. w * box_cells n) ns ≤ length cells
    → Follows w (f e) row → KeptAll w ns f e cells
    → let made = stages (λ n. w * box_cells n) (column_stage e) ns row cells in
    Follows w (λ i. cascaded 1 ns (λ j. f j i) e) made.row × KeptAll w ns f (e + 1) made.cells × (length made.cells ≡ length cells)
unfolding stages total weight product cascaded
columns_follow w [] f e row cells p s r k = (r, tt, refl)
columns_follow w (n ∷ ns) f e row cells p s r k =
    let pos : 0 < n = factor_pos (product ns) n (le_trans p (le_of_eq (mul_comm n (product ns)))) in
    let m = w * box_cells n in
    let own = take m cells in
    let size : length own ≡ m = length-take-le m cells (omega arith) in
    let one = column_follows w n f e row own r k.0 pos size in
    let first = column_stage e n row own in
    let rest =
    columns_follow w ns (λ j i. spread 1 n (λ v. f v i) j) e first.row (drop m cells) (factor_pos n (product ns) p)
    (omega (arith, length-drop m cells)) one.0 k.1 in
    let second = stages (λ n. w * box_cells n) (column_stage e) ns first.row (drop m cells) in
    let long : length first.cells ≡ m = one.2 ∙ size in
    let took : take m (first.cells ++ second.cells) ≡ first.cells =
    ap (λ x. take x (first.cells ++ second.cells)) (sym long) ∙ take-append_seam first.cells second.cells in
    let left : drop m (first.cells ++ second.cells) ≡ second.cells =
    ap (λ x. drop x (first.cells ++ second.cells)) (sym long) ∙ drop-append_seam first.cells second.cells in (
      rest.0,
      (subst (Kept w n f (e + 1)) (sym took) one.1, subst (KeptAll w ns (λ j i. spread 1 n (λ v. f v i) j) (e + 1)) (sym left) rest.1),
      omega (arith, length-append first.cells second.cells, long, rest.2, length-drop m cells),
    )

-- cells of zeros are those of no row
zero_kept : (w n : ℕ) (f : ℕ → ℕ → ℕ) (own : List ℕ) → 0 < n → ((k : ℕ) → k < length own → at own k ≡ 0) → length own ≡ w * box_cells n → Kept w n f 0 own
unfolding sum
zero_kept w n f own pos z s =
    record {
      pair =
          λ u i l.
          z i (omega (arith, s, ap (λ x. w * x) (cells_two n u), mul-one w)) ∙ sym (ap (λ x. x % 2 ^ 64) (behind_start (λ j. f j i) 0));
      slots =
          λ u t i a b.
          z (t * w + i) (omega (arith, s, ap (λ x. w * x) (cells_wide n u), mul_comm w n, row_fits w t n a))
          ∙ sym (ap (λ c. sum c (λ j. f j i) % 2 ^ 64) (covered_none n pos t a));
    }

pub zeros_kept : (w : ℕ) (ns : List ℕ) (f : ℕ → ℕ → ℕ) (cells : List ℕ) → 0 < weight ns → total (λ n. w * box_cells n) ns ≤ length cells
    → ((k : ℕ) → k < total (λ n. w * box_cells n) ns → at cells k ≡ 0) → KeptAll w ns f 0 cells
unfolding total weight product at
zeros_kept w [] f cells p s z = tt
zeros_kept w (n ∷ ns) f cells p s z =
    let pos : 0 < n = factor_pos (product ns) n (le_trans p (le_of_eq (mul_comm n (product ns)))) in
    let m = w * box_cells n in
    let size : length (take m cells) ≡ m = length-take-le m cells (omega arith) in (
      zero_kept w n f (take m cells) pos (λ k h. front k (omega arith)) size,
      zeros_kept w ns (λ j i. spread 1 n (λ v. f v i) j) (drop m cells) (factor_pos n (product ns) p) (omega (arith, length-drop m cells)) (λ k h. back k h),
    )
  where
    front : (k : ℕ) → k < w * box_cells n → at (take (w * box_cells n) cells) k ≡ 0
    front k h = get_or-take (w * box_cells n) cells k 0 h ∙ z k (omega arith)

    back : (k : ℕ) → k < total (λ n. w * box_cells n) ns → at (drop (w * box_cells n) cells) k ≡ 0
    back k h = get_or-drop (w * box_cells n) cells k 0 ∙ z (w * box_cells n + k) (omega arith)
