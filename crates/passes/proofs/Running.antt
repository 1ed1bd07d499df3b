-- The running sum of a box filter from one slice to another: what is added and taken away at each place, and that it fits.
-- Assumes nothing.
use mathlib.Core.Path.{◌≡◌, sym, ap, ◌∙◌}
use mathlib.Core.List.{List}
use Prim.Native.Nat.{ℕ, ◌+◌, ◌-◌, ◌*◌, ◌^◌, ◌≤◌, ◌<◌}
use native.Mathlib.Nat.{le_trans, le_of_eq, mul_comm, mul-one, mul-le-mul_right, le-mul_of_pos_right}
use native.Mathlib.Decide.{dec_le, dec_lt}
use native.Mathlib.Omega.{arith}
use lib.ListN.{length}
use Rattle.laws.proofs.Sequences.{behind, behind_within, behind_before}
use Rattle.laws.proofs.Kernels.{at}
use Rattle.laws.proofs.Numbers.{row_fits}
use Rattle.laws.proofs.Cascades.{spread, spread_grows, slide}
use Rattle.passes.specs.Steps.{Below, Ready}

-- a width reaches over a row at least
pub row_within : (s n : ℕ) → 0 < n → s ≤ n * s
row_within s n h = le_trans (le-mul_of_pos_right s h) (le_of_eq (mul_comm s n))

module _ (s n : ℕ) (f : ℕ → ℕ) (k : ℕ) where
  -- the first places: nothing comes before them, and nothing goes out
  pub spread_first : 0 < n → k < s → spread s n f k ≡ f k
  spread_first h l =
      let m = row_within s n h in
      omega (arith, slide s n f k, behind_before f (n * s) k (omega (arith, m)), behind_before (spread s n f) s k l)

  -- nothing goes out yet
  pub spread_rise : k < n * s → spread s n f k ≡ behind (spread s n f) s k + f k
  spread_rise l = omega (arith, slide s n f k, behind_before f (n * s) k l)

  -- the running sum
  pub spread_slide : n * s ≤ k → spread s n f k + f (k - n * s) ≡ behind (spread s n f) s k + f k
  spread_slide l = omega (arith, slide s n f k, behind_within f (n * s) k l)

-- along a row
pub spread_along : (n : ℕ) (f : ℕ → ℕ) (k : ℕ) → n ≤ k → spread 1 n f k + f (k - n) ≡ behind (spread 1 n f) 1 k + f k
spread_along n f k h =
    ap (λ m. spread 1 n f k + f (k - m)) (sym (mul-one n)) ∙ spread_slide 1 n f k (omega (arith, mul-one n))

-- the value before the next place
pub behind_next : (g : ℕ → ℕ) (k : ℕ) → behind g 1 (k + 1) ≡ g k
behind_next g k =
    let e : k + 1 - 1 ≡ k = omega arith in
    behind_within g 1 (k + 1) (omega arith) ∙ ap g e

-- what is added up at a place fits
pub fits : (s n : ℕ) (src dst : List ℕ) → Ready s n src dst → (k : ℕ) → k < length src → behind (spread s n (at src)) s k + at src k ≤ 2 ^ 61
fits s n src dst r k h =
    let f = spread s n (at src) in
    let here : at src k ≤ 2 ^ 60 = le_trans (spread_grows s n (at src) k r.wide) (r.small k h) in
    elim (dec_le s k) [
      | yes g ↦ omega (arith, behind_within f s k g, r.small (k - s) (omega arith))
      | no g ↦ omega (arith, behind_before f s k (omega arith))
    ]

-- Row by row, with a spread s of a row: the sums stand in dst up to a row, and k is a place of that row.
module _ (s n : ℕ) (src dst : List ℕ) (here : ℕ) (r : Ready s n src dst) (e : s ≤ here) (b : Below here (spread s n (at src)) dst)
    (k : ℕ) (g : here ≤ k) (l : k < here + s) where
  above : at dst (k - s) ≡ behind (spread s n (at src)) s k
  above = b (k - s) (omega arith) ∙ sym (behind_within (spread s n (at src)) s k (omega arith))

  pub sum_fits : k < length src → at dst (k - s) + at src k ≤ 2 ^ 61
  sum_fits h = omega (arith, above, fits s n src dst r k h)

  pub sum_grows : k < n * s → at dst (k - s) + at src k ≡ spread s n (at src) k
  sum_grows h = omega (arith, above, spread_rise s n (at src) k h)

  pub sum_moves : n * s ≤ k → spread s n (at src) k + at src (k - n * s) ≡ at dst (k - s) + at src k
  sum_moves h = omega (arith, above, spread_slide s n (at src) k h)

-- a row that begins before so many rows end ends before they do
pub row_before : (s n j : ℕ) → j * s < n * s → j * s + s ≤ n * s
row_before s n j h =
    elim (dec_lt j n) [
      | yes l ↦ row_fits s j n l
      | no l ↦
          let g : n * s ≤ j * s = mul-le-mul_right s (omega arith) in
          absurd (omega arith)
    ]

-- what is needed is still there after the target is written
pub still_ready : (s n : ℕ) (src old new : List ℕ) → Ready s n src old → length new ≡ length old → Ready s n src new
still_ready s n src old new r e =
    record { apart = r.apart; wide = r.wide; offsets = r.offsets; size = e ∙ r.size; small = r.small }
