-- The row widths and then the column widths of a recipe: what each cascade needs, and that over the grown picture they end with the
-- exact sums.
-- Assumes nothing.
use mathlib.Core.Path.{◌≡◌, sym, ap, ◌∙◌}
use mathlib.Core.List.{List}
use Prim.Native.Nat.{ℕ, ◌+◌, ◌*◌, ◌^◌, ◌≤◌, ◌<◌}
use native.Mathlib.Nat.{le_trans, le_of_eq, mul_comm, mul-le-mul, mul-le-mul_left, mul-le-mul_right}
use native.Mathlib.Omega.{arith}
use lib.ListN.{length, get_or}
use Rattle.spec.specs.Recipe.{Recipe, order, gain}
use Rattle.spec.specs.Picture.{Picture, full_width_of, full_height_of, full}
use Rattle.laws.proofs.Kernels.{at}
use Rattle.laws.proofs.Cascades.{cascaded, cascaded_agree, cascaded_grows}
use Rattle.laws.proofs.Exact.{columns_pos}
use Rattle.spec.specs.Refusals.{full_size}
use Rattle.laws.proofs.Refusals.{AcceptedPicture, grown_most}
use Rattle.laws.proofs.Flat.{flat, filtered, filtered_full, filtered_small}
use Rattle.laws.proofs.Joining.{filtered_agree}
use Rattle.passes.specs.Steps.{Below, Small}

-- over what stands in a list
module _ (r : Recipe) (W size : ℕ) (now : List ℕ) (small : Small size (filtered r W (at now))) where
  pub rows_small : 0 < gain r → Small size (cascaded 1 r.rows (at now))
  unfolding filtered
  rows_small g k h = le_trans (cascaded_grows W r.columns (cascaded 1 r.rows (at now)) k (columns_pos r g)) (small k h)

  module _ (mid : List ℕ) (b : Below size (cascaded 1 r.rows (at now)) mid) where
    pub columns_carry : (k : ℕ) → k < size → cascaded W r.columns (at mid) k ≡ filtered r W (at now) k
    unfolding filtered
    columns_carry k h = cascaded_agree W r.columns (at mid) (cascaded 1 r.rows (at now)) k (λ j l. b j (omega arith))

    pub columns_small : Small size (cascaded W r.columns (at mid))
    columns_small k h = le_trans (le_of_eq (columns_carry k h)) (small k h)

-- over an accepted picture, in rows of the grown width
module _ (r : Recipe) (p : Picture) (a : AcceptedPicture r p) (W size : ℕ) (wide : W ≡ full_width_of r p.width) (all : size ≡ full_size r p) where
  -- there is room for it, and a row is no longer than the offsets allow
  pub picture_room : (0 < W) × (p.width ≤ W) × (p.height * W ≤ size)
  unfolding full_width_of full_height_of full_size
  picture_room =
      let H = full_height_of r p.height in
      let tall : p.height * W ≤ H * W = mul-le-mul_right W (omega arith) in
      let whole : size ≡ H * W = all ∙ ap (λ w. w * H) (sym wide) ∙ mul_comm W H in
      (omega (arith, wide, a.sides.width.0), omega (arith, wide), le_trans tall (le_of_eq (sym whole)))

  pub row_short : 255 * W ≤ 2 ^ 32
  row_short =
      let most : W ≤ 1279 = omega (arith, wide, grown_most r p.width p.height a.recipe a.sides) in
      omega (arith, mul-le-mul_left 255 most)

  module _ (now : List ℕ) (b : Below size (flat p W) now) where
    room : p.width + order r.rows ≤ W
    unfolding full_width_of
    room = le_of_eq (sym wide)

    agrees : (k : ℕ) → k < size → filtered r W (at now) k ≡ filtered r W (flat p W) k
    agrees k h = filtered_agree r W (at now) (flat p W) k (λ j l. b j (omega arith))

    -- its sums fit, and then they are the exact sums
    pub picture_small : (most : ℕ) → most ≤ 65535 → ((k : ℕ) → get_or p.pixels k 0 ≤ most) → Small size (filtered r W (at now))
    picture_small most deep small k h =
        let light : most * gain r ≤ 65535 * 2 ^ 44 = mul-le-mul deep a.recipe.light in
        le_trans (le_of_eq (agrees k h)) (le_trans (filtered_small r p W room a.recipe.not_zero a.sides.width.0 most small k) (omega arith))

    pub picture_done : (new : List ℕ) → Below size (filtered r W (at now)) new → length new ≡ size → new ≡ full r p
    unfolding full_size
    picture_done new d l =
        filtered_full r p W room a.recipe.not_zero a.sides.width.0 wide new (l ∙ all ∙ ap (λ w. w * full_height_of r p.height) (sym wide))
        (λ k h. d k (omega arith) ∙ agrees k (omega arith))
