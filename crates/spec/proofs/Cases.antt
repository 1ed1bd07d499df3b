-- Each ◆ case of document 01 holds of the definitions: one equation that antt computes over the whole table, and from it the
-- equation of each case. And document 01's example of a job.
-- Assumes nothing.
use mathlib.Core.Path.{◌≡◌, refl, sym, ap, ◌∙◌}
use mathlib.Core.List.{List, [], ◌∷◌, map, tail, head_d, flatten, Memᴰ}
use mathlib.Core.Logic.{⊎_elim}
use lib.Ieee
use Rattle.spec.specs.Words.{sum, tab, part, total, product, somewhere, everywhere, keep, occurs}
use Rattle.spec.specs.Recipe.{box, convolve, kernel, box_order, order, weight, gain}
use Rattle.spec.specs.Picture.{pixel, pixel_back, exact, full_width_of, full_height_of, full_row, full}
use Rattle.spec.specs.Gray.{gray, places, same_column, same_row, same_sum, plain, inside_weight, place_weight, same_gray, nearest, nearest_difference, difference, float, ratio, same_quotient, box_square, squares, variance}
use Rattle.spec.specs.Same.{struck, same_counts, equivalent}
use Rattle.spec.specs.Stream.{box_cells, cascade_cells, stream_cells}
use Rattle.spec.specs.Job.{mark, version, read16, job_recipe, job_width, job_height, job_offset, job_length, job_picture}
use Rattle.spec.specs.Refusals.{too_long, zero_width, too_far, too_heavy, bad_side, bad_sides, too_few_cells, bad_head, cut_short, other_total, over_program, alone, check, first, either, recipe_checks, size_checks, job_checks, program_checks}
use Rattle.spec.specs.Program.{decimal_digits, decimal, line, sums_printed, printed}
use Rattle.spec.specs.Cases.{Case, numbers, output, table, example_job}

-- the test over the whole table
all : map (λ (c : Case). output c.question) table ≡ map (λ (c : Case). c.expected) table
unfolding sum tab total product everywhere keep occurs box convolve kernel box_order order weight gain pixel pixel_back exact full_width_of full_height_of full_row full flatten gray places same_column same_row same_sum plain inside_weight place_weight same_gray nearest nearest_difference difference float ratio same_quotient box_square squares variance struck same_counts equivalent numbers output alone table Ieee.to_bits Ieee.of_int Ieee.div Ieee.round Ieee.units Ieee.odd Ieee.size Ieee.climb Ieee.span
all = refl

-- where two functions agree over a list, they agree at each member
at_member : {A B : Type 0} (f g : A → B) (l : List A) → map f l ≡ map g l → (a : A) → Memᴰ a l → f a ≡ g a
unfolding head_d
at_member f g [] e a m = absurd (mathlib.Core.List.Memᴰ.not-nil m)
at_member f g (x ∷ xs) e a m =
    let rest : Memᴰ a xs → f a ≡ g a = at_member f g xs (ap tail e) a in
    ⊎_elim (λ h. ap f h ∙ ap (λ l. head_d l (f x)) e ∙ sym (ap g h)) rest (mathlib.Core.List.Memᴰ.cases_cons m)

-- every case of the table holds
pub holds : (c : Case) → Memᴰ c table → output c.question ≡ c.expected
holds = at_member (λ (c : Case). output c.question) (λ (c : Case). c.expected) table all

-- document 01's example of a job prints the two lines `3 1 4` and `4 8 4`
pub example_printed :
    printed example_job
    ≡ 51 ∷ 32 ∷ 49 ∷ 32 ∷ 52 ∷ 10 ∷ 52 ∷ 32 ∷ 56 ∷ 32 ∷ 52 ∷ 10 ∷ []
unfolding printed sums_printed line decimal decimal_digits first either program_checks check over_program job_checks bad_head mark version read16 too_long zero_width too_far too_heavy bad_side bad_sides cut_short other_total too_few_cells size_checks recipe_checks stream_cells cascade_cells box_cells job_recipe job_width job_height job_offset job_length job_picture sum tab part total product somewhere box convolve kernel box_order order weight gain pixel pixel_back exact full_width_of full_height_of full_row flatten
example_printed = refl
