-- The stages of specs/Stages.antt as box filters on sequences.
-- Assumes nothing.
use Rattle.std.proofs.Common.{◌≡◌, ℕ, suc, ◌+◌, ◌-◌, ◌*◌, ◌%◌, ◌^◌, ◌<◌, ◌≤◌, List, [], ◌∷◌, length, get_or, refl, ap, mul-le-mul, arith, le-ltb, lt-ltb, ne_eqb}
use native.Mathlib.Decide.{dec_le, dec_lt}
use Rattle.spec.specs.Words.{sum, tab, total}
use Rattle.laws.proofs.Lists.{total_most}
use Rattle.laws.proofs.Sequences.{behind, boxed, running, behind_zero, behind_within, behind_before, boxed_running}
use Rattle.laws.proofs.Kernels.{at}
use Rattle.spec.specs.Stream.{box_cells, box_cost}
use Rattle.stream.specs.Stages.{covered, row_boxed, row_kept, row_stage, slot_before, column_pair, column_slot, column_stage}

-- a stage along the row is the box filter modulo 2^64
pub row_boxed_lem : (n : ℕ) (row : List ℕ) → row_boxed n row ≡ tab (length row) (λ k. boxed n (at row) k % 2 ^ 64)
unfolding row_boxed boxed behind at
row_boxed_lem n row = refl

-- a box of width 2
pub boxed_two : (f : ℕ → ℕ) (k : ℕ) → boxed 2 f k ≡ f k + behind f 1 k
unfolding boxed sum
boxed_two f k = omega (arith, behind_zero f k)

-- the sum of n values as the difference of two running totals
pub boxed_total : (n : ℕ) (f : ℕ → ℕ) (k : ℕ) → 0 < n → boxed n f k + sum (suc k - n) f ≡ sum (suc k) f
unfolding running sum
boxed_total n f k pos =
    elim (dec_le n k) [
      | yes h ↦
          let e : suc (k - n) ≡ suc k - n = omega arith in
          omega (arith, boxed_running f n k, behind_within (running f) n k h, ap (λ m. sum m f) e)
      | no h ↦
          let e : suc k - n ≡ 0 = omega arith in
          omega (arith, boxed_running f n k, behind_before (running f) n k (omega arith), ap (λ m. sum m f) e, nothing)
    ]
  where
    nothing : sum 0 f ≡ 0
    nothing = refl

-- the ring of a stage along the row, after k values of v
unfoldable pub ring : ℕ → (ℕ → ℕ) → ℕ → List ℕ
ring n v k = tab n (λ p. sum (covered n k p) v % 2 ^ 64)

-- how many cells a box has, what it costs, and what its stage makes, by its width
module _ (n : ℕ) where
  cells_one : n < 2 → box_cells n ≡ 0
  unfolding box_cells
  cells_one h = rw (lt-ltb n 2 h) refl

  pub cells_two : n ≡ 2 → box_cells n ≡ 1
  unfolding box_cells
  cells_two e = rw e refl

  pub cells_wide : 2 < n → box_cells n ≡ n
  unfolding box_cells
  cells_wide h = rw (le-ltb n 2 (omega arith), ne_eqb n 2 (λ e. omega arith)) refl

  pub cost_one : n < 2 → box_cost n ≡ 0
  unfolding box_cost
  cost_one h = rw (lt-ltb n 2 h) refl

  pub cost_two : n ≡ 2 → box_cost n ≡ 1
  unfolding box_cost
  cost_two e = rw e refl

  pub cost_wide : 2 < n → box_cost n ≡ 2
  unfolding box_cost
  cost_wide h = rw (le-ltb n 2 (omega arith), ne_eqb n 2 (λ e. omega arith)) refl

  module _ (row own : List ℕ) where
    pub row_one : n < 2 → row_stage n row own ≡ record { row = row; cells = own }
    unfolding row_stage
    row_one h = rw (lt-ltb n 2 h) refl

    pub row_two : n ≡ 2 → row_stage n row own ≡ record { row = row_boxed 2 row; cells = get_or row (length row - 1) 0 ∷ [] }
    unfolding row_stage row_kept
    row_two e = rw e refl

    pub row_wide : 2 < n → row_stage n row own ≡ record { row = row_boxed n row; cells = ring n (at row) (length row) }
    unfolding row_stage row_kept ring at
    row_wide h = rw (le-ltb n 2 (omega arith), ne_eqb n 2 (λ e. omega arith)) refl

    module _ (e : ℕ) where
      pub column_one : n < 2 → column_stage e n row own ≡ record { row = row; cells = own }
      unfolding column_stage
      column_one h = rw (lt-ltb n 2 h) refl

      pub column_two : n ≡ 2 → column_stage e n row own ≡ column_pair row own
      unfolding column_stage
      column_two d = rw d refl

      pub column_wide : 2 < n → column_stage e n row own ≡ column_slot (slot_before n e * length row) (e % n * length row) row own
      unfolding column_stage
      column_wide h = rw (le-ltb n 2 (omega arith), ne_eqb n 2 (λ d. omega arith)) refl

pub cost_most : (n : ℕ) → box_cost n ≤ 2
cost_most n =
    elim (dec_lt n 2) [
      | yes h ↦ omega (arith, cost_one n h)
      | no h ↦
          elim (dec_lt 2 n) [
            | yes g ↦ omega (arith, cost_wide n g)
            | no g ↦ let e : n ≡ 2 = omega arith in omega (arith, cost_two n e)
          ]
    ]

-- the count of a cascade is small
pub cascade_small : (ns : List ℕ) (w : ℕ) → length ns ≤ 48 → w ≤ 1279 → w * total box_cost ns ≤ 1279 * 96
cascade_small ns w h k =
    let n : total box_cost ns ≤ 96 = omega (arith, total_most box_cost 2 cost_most ns) in
    mul-le-mul k n

-- so are the cells of widths that are bytes
cells_most : (n : ℕ) → n ≤ 255 → box_cells n ≤ 255
cells_most n h =
    elim (dec_lt n 2) [
      | yes g ↦ omega (arith, cells_one n g)
      | no g ↦
          elim (dec_lt 2 n) [
            | yes l ↦ omega (arith, cells_wide n l)
            | no l ↦ let e : n ≡ 2 = omega arith in omega (arith, cells_two n e)
          ]
    ]

pub cells_few : (ns : List ℕ) → ((k : ℕ) → get_or ns k 0 ≤ 255) → total box_cells ns ≤ 255 * length ns
unfolding total
cells_few [] h = omega arith
cells_few (n ∷ ns) h = omega (arith, cells_most n (h 0), cells_few ns (λ k. h (suc k)))
