-- 2, 6, 6 and 3, 3, 8 are told apart, though reach, weight and count agree.
-- Assumes nothing.
use mathlib.Core.Path.{◌≡◌, refl, ap, subst, ◌∙◌}
use mathlib.Core.Bool.{false}
use Prim.Native.Nat.{ℕ}
use native.Mathlib.Omega.{arith}
use lib.ListN.{get_or}
use Rattle.spec.specs.Words.{sum, tab, part, total, product, somewhere, everywhere, keep, occurs}
use Rattle.spec.specs.Recipe.{recipe, widths, held, held_filter, box, convolve, kernel, box_order, order, weight, gain}
use Rattle.spec.specs.Picture.{full_width_of, full_height_of, full_row, exact, pixel_back, pixel}
use Rattle.spec.specs.Same.{struck, same_counts, equivalent}
use Rattle.spec.specs.Refusals.{alone, accepted, check, first, either, answer, recipe_checks, compare_checks, too_long, zero_width, too_far, too_heavy}
use Rattle.equivalence.specs.Yields.{AcceptedRecipe, Yields}
use Rattle.equivalence.specs.Example.{two_six_six, three_three_eight, dot, two_six_six_row, three_three_eight_row, ToldApart}
use Rattle.equivalence.proofs.Yielding.{yields_exactly}
use Rattle.equivalence.proofs.Agreeing.{told_so, dot_accepted}

first_accepted_lem : AcceptedRecipe (recipe two_six_six)
unfolding first check recipe_checks too_long zero_width too_far too_heavy recipe held_filter held alone widths part tab somewhere box_order order weight gain total product
first_accepted_lem = refl

second_accepted_lem : AcceptedRecipe (recipe three_three_eight)
unfolding first check recipe_checks too_long zero_width too_far too_heavy recipe held_filter held alone widths part tab somewhere box_order order weight gain total product
second_accepted_lem = refl

-- the grown rows, worked out
first_row : full_row (recipe two_six_six) dot 0 ≡ two_six_six_row
unfolding full_row full_width_of exact pixel_back pixel kernel box convolve recipe held_filter held alone widths part tab sum box_order order total
first_row = refl

second_row : full_row (recipe three_three_eight) dot 0 ≡ three_three_eight_row
unfolding full_row full_width_of exact pixel_back pixel kernel box convolve recipe held_filter held alone widths part tab sum box_order order total
second_row = refl

-- the call says no
not_equivalent : answer (compare_checks (recipe two_six_six) (recipe three_three_eight)) (equivalent (recipe two_six_six) (recipe three_three_eight)) ≡ accepted false
unfolding answer either first check compare_checks recipe_checks too_long zero_width too_far too_heavy recipe held_filter held alone widths part tab somewhere box_order order weight gain total product equivalent same_counts everywhere struck keep occurs
not_equivalent = refl

pub told_apart : ToldApart
unfolding recipe held_filter held alone widths part tab box_order order weight gain total product full_height_of
told_apart =
    let shown = dot_accepted (recipe two_six_six) first_accepted_lem in
    let other-shown = dot_accepted (recipe three_three_eight) second_accepted_lem in
    record {
      first_accepted = shown;
      second_accepted = other-shown;
      reaches = (refl, refl);
      weights = (refl, refl);
      counts = (refl, refl);
      said = λ told e. told_so told false (e ∙ not_equivalent);
      first_shown = λ m. subst (Yields m two_six_six dot 0) first_row ((yields_exactly two_six_six dot shown 0 m).yielded (omega arith));
      second_shown = λ m. subst (Yields m three_three_eight dot 0) second_row ((yields_exactly three_three_eight dot other-shown 0 m).yielded (omega arith));
      differ = λ e. let z : ◌≡◌ {A = ℕ} 5 6 = ap (λ row. get_or row 2 0) e in omega arith;
    }
