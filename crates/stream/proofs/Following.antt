-- Rows that follow a sequence modulo 2^64, and the stages of the row list on them.
-- Assumes nothing.
use Rattle.std.proofs.Common.{◌≡◌, ℕ, zero, suc, ◌%◌, ◌^◌, ◌<◌, ◌≤◌, ◌⊎◌, List, [], ◌∷◌, length, get_or, take, drop, sym, refl, ap, ◌∙◌, subst, inl, inr, arith, length-append, length-drop, length-take-le}
use native.Mathlib.Decide.{dec_lt}
use Rattle.spec.specs.Words.{sum, tab, total}
use Rattle.spec.specs.Recipe.{weight}
use Rattle.spec.specs.Stream.{box_cells}
use Rattle.laws.proofs.Sums.{sum_agree}
use Rattle.laws.proofs.Lists.{length_tab, get_d_tab, first_pos, rest_pos}
use Rattle.laws.proofs.Sequences.{behind, boxed, behind_within, behind_before, behind_agree}
use Rattle.laws.proofs.Kernels.{at}
use Rattle.laws.proofs.Cascades.{spread, cascaded, spread_one, spread_unit}
use Rattle.stream.specs.Stages.{Worked, covered, row_boxed, row_stage, stages}
use Rattle.stream.proofs.Boxes.{row_boxed_lem, ring, cells_two, cells_wide, row_one, row_two, row_wide}

-- a row that follows a sequence modulo 2^64
pub record Follows (w : ℕ) (g : ℕ → ℕ) (row : List ℕ) : Type 0 where
  pub wide : length row ≡ w
  pub values : (k : ℕ) → k < w → at row k ≡ g k % 2 ^ 64

-- a width is below 2, 2 or more
pub widths_are : (n : ℕ) → (n < 2) ⊎ ((n ≡ 2) ⊎ (2 < n))
widths_are n =
    elim (dec_lt n 2) [
      | yes g ↦ inl g
      | no g ↦ elim (dec_lt 2 n) [ yes i ↦ inr (inr i) | no i ↦ inr (inl (omega arith)) ]
    ]

-- the lengths that a stage keeps
pub row_keeps : (w n : ℕ) (row own : List ℕ) → length row ≡ w → length own ≡ box_cells n
    → (length (row_stage n row own).row ≡ w) × (length (row_stage n row own).cells ≡ box_cells n)
unfolding ring
row_keeps w n row own e s = go (widths_are n)
  where
    long : (m : ℕ) → length (row_boxed m row) ≡ w
    long m = ap length (row_boxed_lem m row) ∙ length_tab (length row) (λ k. boxed m (at row) k % 2 ^ 64) ∙ e

    go : (n < 2) ⊎ ((n ≡ 2) ⊎ (2 < n)) → (length (row_stage n row own).row ≡ w) × (length (row_stage n row own).cells ≡ box_cells n)
    go (inl h) =
        let d = row_one n row own h in
        (ap (λ (x : Worked). length x.row) d ∙ e, ap (λ (x : Worked). length x.cells) d ∙ s)
    go (inr (inl u)) =
        let d = row_two n row own u in
        (ap (λ (x : Worked). length x.row) d ∙ long 2, ap (λ (x : Worked). length x.cells) d ∙ sym (cells_two n u))
    go (inr (inr h)) =
        let d = row_wide n row own h in (
          ap (λ (x : Worked). length x.row) d ∙ long n,
          ap (λ (x : Worked). length x.cells) d ∙ length_tab n (λ p. sum (covered n (length row) p) (at row) % 2 ^ 64) ∙ sym (cells_wide n h),
        )

pub sum_modulo : (h : ℕ → ℕ) (n : ℕ) → sum n (λ a. h a % 2 ^ 64) % 2 ^ 64 ≡ sum n h % 2 ^ 64
unfolding sum
sum_modulo h zero = refl
sum_modulo h (suc n) = omega (arith, sum_modulo h n)

behind_modulo : (g : ℕ → ℕ) (a k : ℕ) → behind (λ j. g j % 2 ^ 64) a k ≡ behind g a k % 2 ^ 64
behind_modulo g a k =
    elim (dec_lt k a) [
      | yes h ↦ behind_before (λ j. g j % 2 ^ 64) a k h ∙ sym (ap (λ x. x % 2 ^ 64) (behind_before g a k h))
      | no h ↦
          let l : a ≤ k = omega arith in
          behind_within (λ j. g j % 2 ^ 64) a k l ∙ sym (ap (λ x. x % 2 ^ 64) (behind_within g a k l))
    ]

-- a box filter on such a row follows the box filter on the sequence
boxed_follows : (w n : ℕ) (g : ℕ → ℕ) (row : List ℕ) → Follows w g row → (k : ℕ) → k < w → boxed n (at row) k % 2 ^ 64 ≡ spread 1 n g k % 2 ^ 64
unfolding boxed
boxed_follows w n g row f k h =
    ap (λ x. x % 2 ^ 64)
    (sum_agree (λ a. behind (at row) a k) (λ a. behind g a k % 2 ^ 64) n
    (λ a l. behind_agree (at row) (λ j. g j % 2 ^ 64) k (λ j i. f.values j (omega arith)) a ∙ behind_modulo g a k))
    ∙ sum_modulo (λ a. behind g a k) n
    ∙ ap (λ x. x % 2 ^ 64) (sym (spread_one n g k))

-- the stage of one width
module _ (w n : ℕ) (pos : 0 < n) (g : ℕ → ℕ) (row own : List ℕ) (f : Follows w g row) where
  made_row : (v : List ℕ) → v ≡ tab (length row) (λ k. boxed n (at row) k % 2 ^ 64) → Follows w (spread 1 n g) v
  unfolding at
  made_row v e =
      let size : length v ≡ length row = ap length e ∙ length_tab (length row) (λ k. boxed n (at row) k % 2 ^ 64) in
      record {
        wide = size ∙ f.wide;
        values =
            λ k h.
            ap (λ l. get_or l k 0) e
            ∙ get_d_tab (length row) (λ k. boxed n (at row) k % 2 ^ 64) k 0 (omega (arith, f.wide))
            ∙ boxed_follows w n g row f k h;
      }

  pub row_follows : Follows w (spread 1 n g) (row_stage n row own).row
  row_follows =
      go (widths_are n)
    where
      go : (n < 2) ⊎ ((n ≡ 2) ⊎ (2 < n)) → Follows w (spread 1 n g) (row_stage n row own).row
      go (inl h) =
          let e : n ≡ 1 = omega arith in
          subst (Follows w (spread 1 n g)) (sym (ap (λ (x : Worked). x.row) (row_one n row own h)))
          (record { wide = f.wide; values = λ k l. f.values k l ∙ ap (λ x. x % 2 ^ 64) (sym (ap (λ m. spread 1 m g k) e ∙ spread_unit 1 g k)) })
      go (inr (inl e)) =
          made_row (row_stage n row own).row
          (ap (λ (x : Worked). x.row) (row_two n row own e) ∙ row_boxed_lem 2 row ∙ ap (λ m. tab (length row) (λ k. boxed m (at row) k % 2 ^ 64)) (sym e))
      go (inr (inr h)) =
          made_row (row_stage n row own).row (ap (λ (x : Worked). x.row) (row_wide n row own h) ∙ row_boxed_lem n row)

-- all stages of the row list, on as many cells as they have
pub rows_follow : (w : ℕ) (ns : List ℕ) (g : ℕ → ℕ) (row cells : List ℕ) → 0 < weight ns → length cells ≡ total box_cells ns → Follows w g row
    → Follows w (cascaded 1 ns g) (stages box_cells row_stage ns row cells).row
    × (length (stages box_cells row_stage ns row cells).cells ≡ length cells)
unfolding stages total weight cascaded
rows_follow w [] g row cells p s f = (f, refl)
rows_follow w (n ∷ ns) g row cells p s f =
    let pos : 0 < n = first_pos n ns p in
    let own = take (box_cells n) cells in
    let size : length own ≡ box_cells n = length-take-le (box_cells n) cells (omega arith) in
    let one = row_follows w n pos g row own f in
    let kept = (row_keeps w n row own f.wide size).1 in
    let rest =
    rows_follow w ns (spread 1 n g) (row_stage n row own).row (drop (box_cells n) cells) (rest_pos n ns p)
    (omega (arith, length-drop (box_cells n) cells)) one in (
      rest.0,
      omega (arith, length-append (row_stage n row own).cells (stages box_cells row_stage ns (row_stage n row own).row (drop (box_cells n) cells)).cells, kept, size, rest.1, length-drop (box_cells n) cells),
    )
