-- The rows of a picture put one by one into rows of W places, with black to their right, and black below them.
-- Assumes nothing.
use mathlib.Core.Path.{◌≡◌, sym, ap, ◌∙◌}
use mathlib.Core.List.{List, ◌++◌}
use Prim.Native.Nat.{ℕ, ◌+◌, ◌*◌, ◌/◌, ◌≤◌, ◌<◌}
use native.Mathlib.Nat.{mul_comm, mul-le-mul_right, le-div_iff_mul-le}
use native.Mathlib.Decide.{dec_lt}
use native.Mathlib.Omega.{arith}
use lib.ListN.{length, drop, length-append, length-drop, get_or-append, get_or-eq_default}
use lib.Seq.{get_or-drop, drop_at, drop-drop}
use Rattle.spec.specs.Picture.{Picture}
use Rattle.laws.proofs.Kernels.{at}
use Rattle.laws.proofs.Numbers.{row_fits}
use Rattle.laws.proofs.Flat.{flat, flat_at}
use Rattle.laws.proofs.Exact.{pixel_right, pixel_below, pixel_inside}

module _ (p : Picture) (size : length p.pixels ≡ p.width * p.height) (j : ℕ) where
  -- where less than a row is left all rows are through
  pub rows_end : length (drop (j * p.width) p.pixels) < p.width → p.height ≤ j
  rows_end h =
      elim (dec_lt j p.height) [
        | yes g ↦ absurd (omega (arith, length-drop (j * p.width) p.pixels, row_fits p.width j p.height g, mul_comm p.width p.height))
        | no g ↦ omega arith
      ]

  -- the row j comes off the front of what is left
  module _ (line rest : List ℕ) (is : drop (j * p.width) p.pixels ≡ line ++ rest) (long : length line ≡ p.width) (wide : 0 < p.width) where
    pub row_there : j < p.height
    row_there =
        elim (dec_lt j p.height) [
          | yes g ↦ g
          | no g ↦
              let past : p.height * p.width ≤ j * p.width = mul-le-mul_right p.width (omega arith) in
              absurd (omega (arith, ap length is, length-append line rest, length-drop (j * p.width) p.pixels, mul_comm p.width p.height))
        ]

    -- the rest of the pixels, and the row in the grown picture: its pixels, and black to their right
    pub rows_rest : rest ≡ drop (j * p.width + p.width) p.pixels
    rows_rest = sym (drop_at line rest p.width long) ∙ ap (drop p.width) (sym is) ∙ drop-drop p.width (j * p.width) p.pixels

    pub flat_row : (W k : ℕ) → k < W → at line k ≡ flat p W (j * W + k)
    unfolding at
    flat_row W k l =
        elim (dec_lt k p.width) [
          | yes g ↦
              sym (get_or-append line rest 0 k (omega arith))
              ∙ ap (λ xs. at xs k) (sym is)
              ∙ get_or-drop (j * p.width) p.pixels k 0
              ∙ sym (pixel_inside p k j g row_there)
              ∙ sym (flat_at W k l p j)
          | no g ↦
              get_or-eq_default line 0 (omega arith)
              ∙ sym (pixel_right p k j (omega arith))
              ∙ sym (flat_at W k l p j)
        ]

-- there is black below the last row
pub flat_black : (p : Picture) (W j : ℕ) → p.height ≤ j → 0 < W → (k : ℕ) → j * W ≤ k → 0 ≡ flat p W k
unfolding flat
flat_black p W j h w k l =
    let past : j ≤ k / W = (le-div_iff_mul-le w).1 l in
    sym (pixel_below p _ (k / W) (omega arith))
