-- The inside weights of a picture row, from those along the two axes, and what is made of the sums that the same-size blur takes.
-- Assumes nothing.
use mathlib.Core.Path.{◌≡◌, sym, ap, ap₂, subst, ◌∙◌}
use mathlib.Core.Bool.{false, ◌||◌, cond}
use mathlib.Core.List.{List, []}
use Prim.Native.Nat.{ℕ, ◌*◌, ◌^◌, ◌≤◌, ◌<◌}
use native.Mathlib.Nat.{le_trans}
use native.Mathlib.Omega.{arith}
use lib.ListN.{length, get_or}
use borrow.Author.Tests.{ne_eqb, le-ltb}
use Rattle.spec.specs.Words.{tab}
use Rattle.spec.specs.Recipe.{Recipe}
use Rattle.spec.specs.Picture.{Picture, Within}
use Rattle.spec.specs.Gray.{inside_weight, place_weight, same_sum}
use Rattle.spec.specs.Refusals.{first, bad_side, alone, recipe_checks, cell_checks}
use Rattle.laws.proofs.Lists.{length_tab, get_d_tab, tab_agree}
use Rattle.laws.proofs.Refusals.{AcceptedPicture, first_then, first_rest, numbered_more, recipe_numbered, after_output, lent_accepted}
use Rattle.laws.proofs.Alone.{Light, light_alone}
use Rattle.laws.proofs.Inside.{inside_product, inside_pos, inside_most, sums_inside}
use Rattle.filter.specs.Axis.{axis_checks, axis_weights, AxisFilled}
use Rattle.blur.specs.Rims.{weight_at, Weighty, Dim, shaded}

pub length_axis : (ns : List ℕ) (n : ℕ) → length (axis_weights ns n) ≡ n
length_axis ns n = length_tab n (λ k. inside_weight (alone ns) n 1 k 0)

pub get_d_axis : (ns : List ℕ) (n k : ℕ) → k < n → get_or (axis_weights ns n) k 0 ≡ inside_weight (alone ns) n 1 k 0
get_d_axis ns n k h = get_d_tab n (λ k. inside_weight (alone ns) n 1 k 0) k 0 h

module _ (r : Recipe) (p : Picture) (ok : AcceptedPicture r p) (across down : List ℕ)
    (a : across ≡ axis_weights r.rows p.width) (d : down ≡ axis_weights r.columns p.height) where
  pub across_long : length across ≡ p.width
  across_long = ap length a ∙ length_axis r.rows p.width

  pub down_long : length down ≡ p.height
  down_long = ap length d ∙ length_axis r.columns p.height

  module _ (j : ℕ) (below : j < p.height) where
    -- the weight of the row down the columns
    abbrev own : ℕ
    own = get_or down j 0

    weight_is : (i : ℕ) → i < p.width → weight_at across own i ≡ place_weight r p i j
    unfolding place_weight
    weight_is i h =
        ap₂ ◌*◌ (ap (λ l. get_or l i 0) a ∙ get_d_axis r.rows p.width i h) (ap (λ l. get_or l j 0) d ∙ get_d_axis r.columns p.height j below)
        ∙ sym (inside_product r p.width p.height i j)

    pub row_weighty : Weighty across own
    unfolding place_weight
    row_weighty i h =
        let k : i < p.width = omega (arith, across_long) in
        let g = ok.recipe.not_zero in (
          subst (λ w. 0 < w) (sym (weight_is i k)) (inside_pos r g p.width p.height i j k below),
          subst (λ w. w ≤ 2 ^ 44) (sym (weight_is i k)) (le_trans (inside_most r g p.width p.height i j) ok.recipe.light),
        )

    -- a row of the sums that are taken
    module _ (sums : List ℕ) (taken : (i : ℕ) → i < p.width → get_or sums i 0 ≡ same_sum r p i j) where
      pub row_dim : (most : ℕ) → Within most p → Dim most across own sums
      row_dim most small i h =
          let k : i < p.width = omega (arith, across_long) in
          subst (λ s. s ≤ most * weight_at across own i) (sym (taken i k))
          (subst (λ w. same_sum r p i j ≤ most * w) (sym (weight_is i k)) (sums_inside most r p small i j))

      pub row_shaded : {A : Type 0} (f : ℕ → ℕ → A) → shaded f across own sums ≡ tab p.width (λ i. f (place_weight r p i j) (same_sum r p i j))
      row_shaded f =
          ap (λ n. tab n (λ i. f (weight_at across own i) (get_or sums i 0))) across_long
          ∙ tab_agree p.width (λ i. f (weight_at across own i) (get_or sums i 0)) (λ i. f (place_weight r p i j) (same_sum r p i j))
          (λ i h. ap₂ f (weight_is i h) (taken i h))

-- the weights that are filled in along an axis, for a list that is accepted as a recipe of its own
module _ (ns : List ℕ) (l : Light ns) (n : ℕ) (side : (0 < n) × (n ≤ 1024)) (old new : List ℕ) (number : ℕ) (size : length old ≡ n) (f : AxisFilled ns n old number new) where
  none : first (axis_checks ns n (length old)) ≡ 0
  unfolding axis_checks cell_checks bad_side first
  none =
      let good : bad_side n ≡ false = ap₂ ◌||◌ (ne_eqb n 0 (λ e. omega arith)) (le-ltb 1024 n side.1) in
      let five : first (cell_checks (alone ns) n) ≡ 0 =
      first_then (recipe_checks (alone ns)) (bad_side n) 5 (recipe_numbered (alone ns)) (light_alone ns l) ∙ ap (λ b. cond b 5 0) good in
      first_rest (cell_checks (alone ns) n) _ (numbered_more (recipe_checks (alone ns)) (bad_side n) 4 (recipe_numbered (alone ns))) five
      ∙ after_output [] (length old) n size

  pub axis_number : number ≡ 0
  axis_number = f.answer ∙ none

  pub axis_filled : new ≡ axis_weights ns n
  axis_filled = f.slice ∙ lent_accepted _ _ old none
