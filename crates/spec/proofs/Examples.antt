-- Examples of definitions that no ◆ case reaches, each computed: the numbers of each call's checks in their order, each condition on both
-- sides of its limit, the cells and the cost of the one pass, the levels of the ladder, joined recipes, counts of widths, recipes that are
-- told apart, leftovers, inside weights, variances, and what filters hold.
-- Assumes nothing.
use mathlib.Core.Path.{◌≡◌, refl}
use mathlib.Core.Bool.{true, false}
use mathlib.Core.List.{List, [], ◌∷◌, ◌++◌, map, flatten}
use Prim.Native.Nat.{ℕ}
use lib.Ieee
use lib.Ieee.{binary64}
use lib.IntN.{pos, negsuc}
use lib.ListN.{replicate}
use Rattle.spec.specs.declared.Filter.{Filter}
use Rattle.spec.specs.Words.{sum, tab, part, total, product, somewhere, everywhere, keep, occurs}
use Rattle.spec.specs.Same.{struck, same_counts, equivalent}
use Rattle.spec.specs.Recipe.{Recipe, widths, recipe, held, held_filter, box, convolve, kernel, box_order, order, weight, gain, joined}
use Rattle.spec.specs.Picture.{Picture, picture, pixel, pixel_back, exact, full_width_of, full_height_of, grown}
use Rattle.spec.specs.Stream.{State, state_with, box_cells, cascade_cells, stream_cells, box_cost, cascade_cost, row_cost}
use Rattle.spec.specs.Ladder.{rungs, Axes, rows_only, both_axes, on_axes, ladder, rung}
use Rattle.spec.specs.Gray.{gray, leftover, places, same_column, same_row, same_sum, plain, inside_weight, float, ratio, box_square, squares, variance}
use Rattle.spec.specs.Job.{mark, version, read16, job_length, job_recipe, job_width, job_height}
use Rattle.spec.specs.Cases.{recipe_of, twos, example_job}
use Rattle.spec.specs.Refusals
use Rattle.spec.specs.Refusals.{Check, check}

-- the numbers that a call can answer, in the order in which it asks them
abbrev numbers : List Check → List ℕ
numbers cs = map (λ (c : Check). c.number) cs

module _ (r q : Recipe) (a : Axes) (p : Picture) (s : State) (xs : List ℕ) (k m n : ℕ) where
  pub orders :
      numbers (Refusals.recipe_checks r)
      ∷ numbers (Refusals.kernel_checks xs k)
      ∷ numbers (Refusals.size_checks r k m)
      ∷ numbers (Refusals.cell_checks r k)
      ∷ numbers (Refusals.start_checks r k m n)
      ∷ numbers (Refusals.row_checks s k m n)
      ∷ numbers (Refusals.drain_checks s k m)
      ∷ numbers (Refusals.pass_checks r p k m)
      ∷ numbers (Refusals.ladder_checks a k p m n)
      ∷ numbers (Refusals.direct_checks r p k m n)
      ∷ numbers (Refusals.round_checks r xs k m)
      ∷ numbers (Refusals.same_size_checks r p k m n)
      ∷ numbers (Refusals.difference_checks r q p k m)
      ∷ numbers (Refusals.reading_checks r p k m)
      ∷ numbers (Refusals.compare_checks r q)
      ∷ numbers (Refusals.job_checks xs)
      ∷ numbers (Refusals.write_checks r p k)
      ∷ numbers (Refusals.program_checks xs)
      ∷ []
      ≡ (1 ∷ 2 ∷ 3 ∷ 4 ∷ [])
      ∷ (1 ∷ 2 ∷ 3 ∷ 4 ∷ 7 ∷ [])
      ∷ (1 ∷ 2 ∷ 3 ∷ 4 ∷ 5 ∷ [])
      ∷ (1 ∷ 2 ∷ 3 ∷ 4 ∷ 5 ∷ [])
      ∷ (1 ∷ 2 ∷ 3 ∷ 4 ∷ 5 ∷ 8 ∷ [])
      ∷ (9 ∷ 10 ∷ 6 ∷ 7 ∷ 8 ∷ [])
      ∷ (9 ∷ 10 ∷ 7 ∷ 8 ∷ [])
      ∷ (1 ∷ 2 ∷ 3 ∷ 4 ∷ 5 ∷ 6 ∷ 7 ∷ 8 ∷ [])
      ∷ (16 ∷ 1 ∷ 2 ∷ 3 ∷ 4 ∷ 5 ∷ 6 ∷ 7 ∷ 8 ∷ [])
      ∷ (1 ∷ 2 ∷ 3 ∷ 4 ∷ 5 ∷ 6 ∷ 7 ∷ [])
      ∷ (1 ∷ 2 ∷ 3 ∷ 4 ∷ 7 ∷ 11 ∷ [])
      ∷ (1 ∷ 2 ∷ 3 ∷ 4 ∷ 5 ∷ 6 ∷ 7 ∷ 8 ∷ [])
      ∷ (1 ∷ 2 ∷ 3 ∷ 4 ∷ 1 ∷ 2 ∷ 3 ∷ 4 ∷ 5 ∷ 6 ∷ 7 ∷ 8 ∷ 12 ∷ 13 ∷ [])
      ∷ (1 ∷ 2 ∷ 3 ∷ 4 ∷ 5 ∷ 6 ∷ 15 ∷ [])
      ∷ (1 ∷ 2 ∷ 3 ∷ 4 ∷ 1 ∷ 2 ∷ 3 ∷ 4 ∷ [])
      ∷ (14 ∷ 1 ∷ 14 ∷ 1 ∷ 2 ∷ 3 ∷ 4 ∷ 5 ∷ 14 ∷ [])
      ∷ (1 ∷ 2 ∷ 3 ∷ 4 ∷ 5 ∷ 6 ∷ 7 ∷ [])
      ∷ (14 ∷ 14 ∷ 1 ∷ 14 ∷ 1 ∷ 2 ∷ 3 ∷ 4 ∷ 5 ∷ 14 ∷ 8 ∷ [])
      ∷ []
  unfolding check Refusals.recipe_checks Refusals.kernel_checks Refusals.size_checks Refusals.cell_checks Refusals.picture_checks Refusals.start_checks Refusals.row_checks Refusals.drain_checks Refusals.pass_checks Refusals.ladder_checks Refusals.direct_checks Refusals.round_checks Refusals.same_size_checks Refusals.difference_checks Refusals.reading_checks Refusals.compare_checks Refusals.job_checks Refusals.write_checks Refusals.program_checks
  orders = refl

-- a state of a recipe on a picture of 2 by 3
abbrev state_of : List ℕ → List ℕ → ℕ → State
state_of ns ms k = state_with (recipe_of ns ms) 2 3 k

-- each condition, first where it just does not hold, then where it just does
pub limits :
    -- 1, on each axis
    Refusals.too_long (recipe_of (twos 48) (twos 48)) ∷ Refusals.too_long (recipe_of (twos 49) []) ∷ Refusals.too_long (recipe_of [] (twos 49))
    -- 2
    ∷ Refusals.zero_width (recipe_of (1 ∷ 1 ∷ []) (1 ∷ [])) ∷ Refusals.zero_width (recipe_of (1 ∷ 0 ∷ []) []) ∷ Refusals.zero_width (recipe_of [] (1 ∷ 0 ∷ []))
    -- 3
    ∷ Refusals.too_far (recipe_of (255 ∷ 2 ∷ []) (255 ∷ 2 ∷ [])) ∷ Refusals.too_far (recipe_of (255 ∷ 3 ∷ []) []) ∷ Refusals.too_far (recipe_of [] (255 ∷ 3 ∷ []))
    -- 4
    ∷ Refusals.too_heavy (recipe_of (twos 22) (twos 22)) ∷ Refusals.too_heavy (recipe_of (twos 23) (twos 22))
    -- 5
    ∷ Refusals.bad_sides 1 1024 ∷ Refusals.bad_sides 0 1 ∷ Refusals.bad_sides 1 0 ∷ Refusals.bad_sides 1025 1 ∷ Refusals.bad_sides 1 1025
    -- 6, 7, 8
    ∷ Refusals.other_pixels 6 6 ∷ Refusals.other_pixels 5 6 ∷ Refusals.other_pixels 7 6
    ∷ Refusals.other_output 6 6 ∷ Refusals.other_output 5 6 ∷ Refusals.other_output 7 6
    ∷ Refusals.too_few_cells 6 6 ∷ Refusals.too_few_cells 5 6
    -- 9: 3 rows in and 1 drained is all
    ∷ Refusals.bad_state (state_of (twos 1) (twos 1) 4) ∷ Refusals.bad_state (state_of (twos 1) (twos 1) 5) ∷ Refusals.bad_state (state_of (0 ∷ []) [] 0)
    -- 10
    ∷ Refusals.row_not_due (state_of [] (twos 1) 2) ∷ Refusals.row_not_due (state_of [] (twos 1) 3)
    ∷ Refusals.drain_not_due (state_of [] (twos 1) 3) ∷ Refusals.drain_not_due (state_of [] (twos 1) 2) ∷ Refusals.drain_not_due (state_of [] (twos 1) 4)
    -- 11
    ∷ Refusals.too_bright 255 4 (1020 ∷ 0 ∷ []) ∷ Refusals.too_bright 255 4 (0 ∷ 1021 ∷ []) ∷ Refusals.too_bright 7 4 (0 ∷ 28 ∷ []) ∷ Refusals.too_bright 7 4 (29 ∷ 0 ∷ [])
    -- 12, 13
    ∷ Refusals.parity_differs (recipe_of (twos 1) (twos 2)) (recipe_of (twos 3) []) ∷ Refusals.parity_differs (recipe_of (twos 1) []) (recipe_of [] [])
    ∷ Refusals.parity_differs (recipe_of [] (twos 1)) (recipe_of [] [])
    ∷ Refusals.product_too_heavy (recipe_of (twos 22) []) (recipe_of [] (twos 22)) ∷ Refusals.product_too_heavy (recipe_of (twos 22) []) (recipe_of (twos 22) (twos 1))
    -- 14: the example, cut to 6 bytes, with another third byte, version 2, first byte, second byte, version 0, version 257; cut within the
    -- sides; a byte more and a byte less
    ∷ Refusals.bad_head example_job ∷ Refusals.bad_head (part 0 6 example_job) ∷ Refusals.bad_head (part 0 2 example_job ++ part 1 12 example_job) ∷ Refusals.bad_head (part 0 3 example_job ++ part 5 9 example_job)
    ∷ Refusals.bad_head (0x43 ∷ part 1 13 example_job) ∷ Refusals.bad_head (part 0 1 example_job ++ part 0 1 example_job ++ part 2 12 example_job)
    ∷ Refusals.bad_head (part 0 3 example_job ++ (0 ∷ 0 ∷ part 5 9 example_job)) ∷ Refusals.bad_head (part 0 4 example_job ++ (1 ∷ part 5 9 example_job))
    ∷ Refusals.cut_short (part 0 13 example_job) ∷ Refusals.cut_short (part 0 12 example_job)
    ∷ Refusals.other_total example_job ∷ Refusals.other_total (part 0 15 example_job) ∷ Refusals.other_total (part 0 13 example_job)
    ∷ Refusals.over_program (replicate 65536 0) ∷ Refusals.over_program (replicate 65537 0)
    -- 15
    ∷ Refusals.outside 2 3 1 2 ∷ Refusals.outside 2 3 2 2 ∷ Refusals.outside 2 3 1 3
    -- 16
    ∷ Refusals.bad_level 1 ∷ Refusals.bad_level 8 ∷ Refusals.bad_level 0 ∷ Refusals.bad_level 9
    ∷ []
    ≡ false ∷ true ∷ true
    ∷ false ∷ true ∷ true
    ∷ false ∷ true ∷ true
    ∷ false ∷ true
    ∷ false ∷ true ∷ true ∷ true ∷ true
    ∷ false ∷ true ∷ true
    ∷ false ∷ true ∷ true
    ∷ false ∷ true
    ∷ false ∷ true ∷ true
    ∷ false ∷ true
    ∷ false ∷ true ∷ true
    ∷ false ∷ true ∷ false ∷ true
    ∷ false ∷ true
    ∷ true
    ∷ false ∷ true
    ∷ false ∷ true ∷ true ∷ true
    ∷ true ∷ true
    ∷ true ∷ true
    ∷ false ∷ true
    ∷ false ∷ true ∷ true
    ∷ false ∷ true
    ∷ false ∷ true ∷ true
    ∷ false ∷ false ∷ true ∷ true
    ∷ []
unfolding sum tab part total product somewhere box_order order weight gain full_width_of full_height_of mark version read16 job_recipe job_width job_height job_length Refusals.too_long Refusals.zero_width Refusals.too_far Refusals.too_heavy Refusals.bad_side Refusals.bad_sides Refusals.other_pixels Refusals.other_output Refusals.too_few_cells Refusals.bad_state Refusals.row_not_due Refusals.drain_not_due Refusals.too_bright Refusals.odd_apart Refusals.parity_differs Refusals.product_too_heavy Refusals.bad_head Refusals.cut_short Refusals.other_total Refusals.over_program Refusals.outside Refusals.bad_level
limits = refl

-- rows 1,2,3, columns 2 on a width of 4: the grown width is 7, the rows need 4 cells and cost 3, the columns 1 and 1
pub one_pass : stream_cells (recipe_of (1 ∷ 2 ∷ 3 ∷ []) (2 ∷ [])) 4 ∷ row_cost (recipe_of (1 ∷ 2 ∷ 3 ∷ []) (2 ∷ [])) 4 ∷ [] ≡ 11 ∷ 28 ∷ []
unfolding total box_order order full_width_of box_cells cascade_cells stream_cells box_cost cascade_cost row_cost
one_pass = refl

-- the ladder: levels 1, 2 and 8 along the rows, level 1 on both axes, and the one new widths of levels 2 and 8
pub levels :
    ladder rows_only 1 ∷ ladder rows_only 2 ∷ ladder rows_only 8 ∷ ladder both_axes 1 ∷ rung rows_only 2 ∷ rung both_axes 8 ∷ []
    ≡ recipe_of (2 ∷ 3 ∷ 4 ∷ []) []
    ∷ recipe_of (2 ∷ 3 ∷ 4 ∷ 6 ∷ []) []
    ∷ recipe_of (2 ∷ 3 ∷ 4 ∷ 6 ∷ 8 ∷ 12 ∷ 16 ∷ 24 ∷ 32 ∷ 48 ∷ []) []
    ∷ recipe_of (2 ∷ 3 ∷ 4 ∷ []) (2 ∷ 3 ∷ 4 ∷ [])
    ∷ recipe_of (6 ∷ []) []
    ∷ recipe_of (48 ∷ []) (48 ∷ [])
    ∷ []
unfolding rungs on_axes ladder rung
levels = refl

-- what each level answers on a picture of 1 by 1 with an output and cells of the size of the level: level 0, levels 1 to 8, level 9
abbrev climbed : Axes → List ℕ
climbed a =
    map (λ k. Refusals.first (Refusals.ladder_checks a k (picture 1 1 (0 ∷ [])) (Refusals.full_size (ladder a k) (picture 1 1 (0 ∷ []))) (Refusals.full_size (ladder a k) (picture 1 1 (0 ∷ [])))))
    (tab 10 (λ k. k))

pub levels_accepted : climbed rows_only ∷ climbed both_axes ∷ []
    ≡ (16 ∷ 0 ∷ 0 ∷ 0 ∷ 0 ∷ 0 ∷ 0 ∷ 0 ∷ 0 ∷ 16 ∷ []) ∷ (16 ∷ 0 ∷ 0 ∷ 0 ∷ 0 ∷ 0 ∷ 4 ∷ 4 ∷ 4 ∷ 16 ∷ []) ∷ []
unfolding tab total product somewhere box_order order weight gain full_width_of full_height_of rungs on_axes ladder check Refusals.too_long Refusals.zero_width Refusals.too_far Refusals.too_heavy Refusals.bad_side Refusals.bad_sides Refusals.other_pixels Refusals.other_output Refusals.too_few_cells Refusals.bad_level Refusals.first Refusals.recipe_checks Refusals.size_checks Refusals.picture_checks Refusals.full_size Refusals.pass_checks Refusals.ladder_checks
levels_accepted = refl

-- a recipe joined to another, and its sums as a picture
pub joined_lists : joined (recipe_of (2 ∷ 3 ∷ []) (4 ∷ [])) (recipe_of (5 ∷ []) (6 ∷ 7 ∷ [])) ≡ recipe_of (2 ∷ 3 ∷ 5 ∷ []) (4 ∷ 6 ∷ 7 ∷ [])
unfolding joined
joined_lists = refl

pub grown_sides : grown (recipe_of (3 ∷ []) (5 ∷ [])) 2 1 (7 ∷ []) ≡ picture 4 5 (7 ∷ [])
unfolding total box_order order full_width_of full_height_of grown
grown_sides = refl

-- how often a width occurs, with widths of 1 struck out and without
pub counted : occurs 2 (2 ∷ 1 ∷ 3 ∷ 2 ∷ []) ∷ occurs 1 (struck (2 ∷ 1 ∷ [])) ∷ occurs 2 (struck (2 ∷ 1 ∷ [])) ∷ [] ≡ 2 ∷ 0 ∷ 1 ∷ []
unfolding total keep occurs struck
counted = refl

-- recipes that differ in their columns alone, lists contained in one another, and the same widths on the other axis: all told apart
pub told_apart :
    equivalent (recipe_of (2 ∷ []) (2 ∷ [])) (recipe_of (2 ∷ []) (3 ∷ []))
    ∷ equivalent (recipe_of (2 ∷ 3 ∷ []) []) (recipe_of (2 ∷ []) [])
    ∷ equivalent (recipe_of (2 ∷ []) []) (recipe_of (2 ∷ 3 ∷ []) [])
    ∷ equivalent (recipe_of [] (2 ∷ 3 ∷ [])) (recipe_of [] (3 ∷ []))
    ∷ equivalent (recipe_of (2 ∷ []) []) (recipe_of [] (2 ∷ []))
    ∷ equivalent (recipe_of (2 ∷ []) (3 ∷ 1 ∷ 2 ∷ [])) (recipe_of (1 ∷ 2 ∷ []) (2 ∷ 3 ∷ []))
    ∷ []
    ≡ false ∷ false ∷ false ∷ false ∷ false ∷ true ∷ []
unfolding total everywhere keep occurs struck same_counts equivalent
told_apart = refl

-- the leftovers of an even weight and of an odd one, through two greys: a half upwards is the least, and none is as far as a half below
pub left_over :
    map (leftover 4) (0 ∷ 1 ∷ 2 ∷ 3 ∷ 4 ∷ 5 ∷ 6 ∷ 7 ∷ []) ∷ map (leftover 3) (0 ∷ 1 ∷ 2 ∷ 3 ∷ 4 ∷ 5 ∷ []) ∷ map (leftover 1) (0 ∷ 7 ∷ []) ∷ []
    ≡ (pos 0 ∷ pos 1 ∷ negsuc 1 ∷ negsuc 0 ∷ pos 0 ∷ pos 1 ∷ negsuc 1 ∷ negsuc 0 ∷ [])
    ∷ (pos 0 ∷ pos 1 ∷ negsuc 0 ∷ pos 0 ∷ pos 1 ∷ negsuc 0 ∷ []) ∷ (pos 0 ∷ pos 0 ∷ []) ∷ []
unfolding gray leftover
left_over = refl

-- the inside weights of rows 4 along three pixels and of columns 4 down them, halves downwards; of rows 5 on one pixel; and of rows 2,2,
-- columns 2,2 on 3 by 3, whose window lies within the picture in the middle, where it is the weight
abbrev inside : Recipe → ℕ → ℕ → List ℕ
inside r w h = places (plain w h 1) (inside_weight r w h)

pub inside_weights :
    inside (recipe_of (4 ∷ []) []) 3 1 ∷ inside (recipe_of [] (4 ∷ [])) 1 3 ∷ inside (recipe_of (5 ∷ []) []) 1 1 ∷ inside (recipe_of (twos 2) (twos 2)) 3 3 ∷ []
    ≡ (2 ∷ 3 ∷ 3 ∷ []) ∷ (2 ∷ 3 ∷ 3 ∷ []) ∷ (1 ∷ []) ∷ (9 ∷ 12 ∷ 9 ∷ 12 ∷ 16 ∷ 12 ∷ 9 ∷ 12 ∷ 9 ∷ []) ∷ []
unfolding sum tab total box convolve kernel box_order order pixel pixel_back exact flatten places same_column same_row same_sum plain inside_weight
inside_weights = refl

-- n times n - 1: 0, 3, 8 up to 65,024
pub box_squares : map box_square (1 ∷ 2 ∷ 3 ∷ 255 ∷ []) ≡ 0 ∷ 3 ∷ 8 ∷ 65024 ∷ []
unfolding box_square
box_squares = refl

-- the bits of variances: of no width, of 1, of 255 and of the largest; of 3,4 and of 2,2,3, whose last bit is another where each width is
-- divided by 12
pub variances :
    map (λ ns. Ieee.to_bits binary64 (variance ns)) ([] ∷ (1 ∷ []) ∷ (255 ∷ []) ∷ (255 ∷ 2 ∷ []) ∷ (3 ∷ 4 ∷ []) ∷ (2 ∷ 2 ∷ 3 ∷ []) ∷ [])
    ≡ 0 ∷ 0 ∷ 0x40B5_2AAA_AAAA_AAAB ∷ 0x40B5_2AEA_AAAA_AAAB ∷ 0x3FFE_AAAA_AAAA_AAAB ∷ 0x3FF2_AAAA_AAAA_AAAB ∷ []
unfolding total float ratio box_square squares variance Ieee.to_bits Ieee.of_int Ieee.div Ieee.round Ieee.units Ieee.odd Ieee.size Ieee.climb Ieee.span
variances = refl

-- the coefficients of 3,2 need a slice of 4: their reach is 3
pub coefficient_lengths :
    Refusals.first (Refusals.kernel_checks (3 ∷ 2 ∷ []) 4) ∷ Refusals.first (Refusals.kernel_checks (3 ∷ 2 ∷ []) 3) ∷ Refusals.first (Refusals.kernel_checks (3 ∷ 2 ∷ []) 5) ∷ []
    ≡ 0 ∷ 7 ∷ 7 ∷ []
unfolding total product somewhere box_order order weight gain check Refusals.too_long Refusals.zero_width Refusals.too_far Refusals.too_heavy Refusals.other_output Refusals.first Refusals.recipe_checks Refusals.alone Refusals.kernel_checks
coefficient_lengths = refl

-- what is lent holds the new content where no condition holds, and what it was where one does; the answer is the value, or the number of
-- the first
pub lent_each_way :
    Refusals.lent {A = ℕ} (check false 6 ∷ check false 7 ∷ []) 1 2 ∷ Refusals.lent {A = ℕ} (check false 6 ∷ check true 7 ∷ []) 1 2 ∷ [] ≡ 1 ∷ 2 ∷ []
unfolding check Refusals.first Refusals.either Refusals.lent
lent_each_way = refl

pub answer_each_way :
    Refusals.answer {A = ℕ} (check false 6 ∷ []) 1 ∷ Refusals.answer {A = ℕ} (check true 6 ∷ check true 7 ∷ []) 1 ∷ [] ≡ Refusals.accepted 1 ∷ Refusals.refused 6 ∷ []
unfolding check Refusals.first Refusals.either Refusals.answer
answer_each_way = refl

-- a filter with unlike lists, and bytes past its counts that mean nothing: its recipe, and that recipe as a filter holds it
abbrev unlike : Filter
unlike =
    record {
      rows = record { count = 2; widths = 3 ∷ 2 ∷ replicate 46 9 };
      columns = record { count = 1; widths = 2 ∷ replicate 47 8 };
    }

pub recipe_held : recipe unlike ≡ recipe_of (3 ∷ 2 ∷ []) (2 ∷ [])
unfolding tab part widths recipe
recipe_held = refl

pub filter_held :
    held_filter (recipe_of (3 ∷ 2 ∷ []) (2 ∷ []))
    ≡ record {
      rows = record { count = 2; widths = 3 ∷ 2 ∷ replicate 46 0 };
      columns = record { count = 1; widths = 2 ∷ replicate 47 0 };
    }
unfolding tab part held held_filter
filter_held = refl
