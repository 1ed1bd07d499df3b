-- One uneven case through all definitions: rows 3,2, columns 2, and a picture 3 wide and 2 high. Its numbers are those of the independent
-- Rust version. And the answer of each call on it, worked out by hand, at the lengths that are asked for and one beside each.
-- Assumes nothing.
use mathlib.Core.Path.{◌≡◌, refl}
use mathlib.Core.List.{List, [], ◌∷◌, ◌++◌, flatten}
use Prim.Native.Nat.{ℕ}
use lib.Ieee
use lib.Ieee.{binary64}
use lib.IntN.{pos, negsuc}
use lib.ListN.{replicate, take}
use Rattle.spec.specs.Words.{sum, tab, part, total, product, somewhere, least, greatest}
use Rattle.spec.specs.Recipe.{Recipe, box, convolve, kernel, box_order, order, weight, gain}
use Rattle.spec.specs.Picture.{Picture, picture, pixel, pixel_back, full_width_of, full_height_of, full_sides, exact, full_row, full}
use Rattle.spec.specs.Stream.{State, state_with, box_cells, cascade_cells, stream_cells}
use Rattle.spec.specs.Ladder.{rungs, rows_only, both_axes, on_axes, ladder}
use Rattle.spec.specs.Gray
use Rattle.spec.specs.Gray.{as_gray, as_sum, as_quotient, gray_reading, sum_reading, quotient_reading}
use Rattle.spec.specs.Cases.{recipe_of, twos}
use Rattle.spec.specs.Job
use Rattle.spec.specs.Program
use Rattle.spec.specs.Refusals

-- the recipe, one to take a difference with, the picture, that with two pixels raised, and the bytes of the job
abbrev uneven : Recipe
uneven = recipe_of (3 ∷ 2 ∷ []) (2 ∷ [])

abbrev other : Recipe
other = recipe_of (2 ∷ []) (4 ∷ [])

abbrev wall : Picture
wall = picture 3 2 (70 ∷ 10 ∷ 20 ∷ 40 ∷ 0 ∷ 90 ∷ [])

abbrev scored : Picture
scored = picture 3 2 (71 ∷ 10 ∷ 20 ∷ 40 ∷ 0 ∷ 91 ∷ [])

abbrev job : List ℕ
job = 66 ∷ 79 ∷ 82 ∷ 1 ∷ 0 ∷ 2 ∷ 1 ∷ 3 ∷ 2 ∷ 2 ∷ 3 ∷ 0 ∷ 2 ∷ 0 ∷ 70 ∷ 10 ∷ 20 ∷ 40 ∷ 0 ∷ 90 ∷ []

-- the exact sums, 6 to a row
pub sums :
    full uneven wall
    ≡ 70 ∷ 150 ∷ 180 ∷ 130 ∷ 50 ∷ 20
    ∷ 110 ∷ 230 ∷ 350 ∷ 350 ∷ 230 ∷ 110
    ∷ 40 ∷ 80 ∷ 170 ∷ 220 ∷ 180 ∷ 90 ∷ []
unfolding sum tab total box convolve kernel box_order order pixel pixel_back full_width_of full_height_of exact full_row full flatten
sums = refl

-- a picture that is higher than wide
pub tall : full (recipe_of [] (2 ∷ [])) (picture 1 2 (5 ∷ 7 ∷ [])) ≡ 5 ∷ 12 ∷ 7 ∷ []
unfolding sum tab total box convolve kernel box_order order pixel pixel_back full_width_of full_height_of exact full_row full flatten
tall = refl

-- the grown sides
pub sides : full_sides uneven 3 2 ≡ record { width = 6; height = 3 }
unfolding total box_order order full_width_of full_height_of full_sides
sides = refl

-- the same-size blur, its inside weights and its leftovers; a row of sums rounded by the weight; and the difference both ways
pub blurred :
    Gray.places scored (Gray.same_sum uneven scored) ∷ Gray.places scored (Gray.place_weight uneven scored) ∷ Gray.places scored (Gray.same_gray uneven scored) ∷ []
    ≡ (152 ∷ 182 ∷ 131 ∷ 232 ∷ 353 ∷ 353 ∷ []) ∷ (3 ∷ 5 ∷ 5 ∷ 6 ∷ 10 ∷ 10 ∷ []) ∷ (51 ∷ 36 ∷ 26 ∷ 39 ∷ 35 ∷ 35 ∷ []) ∷ []
unfolding sum tab total product box convolve kernel box_order order weight gain pixel pixel_back exact flatten Gray.gray Gray.places Gray.same_column Gray.same_row Gray.same_sum Gray.plain Gray.inside_weight Gray.place_weight Gray.same_gray
blurred = refl

pub blurred_leftovers : Gray.places scored (Gray.same_leftover uneven scored) ≡ negsuc 0 ∷ pos 2 ∷ pos 1 ∷ negsuc 1 ∷ pos 3 ∷ pos 3 ∷ []
unfolding sum tab total product box convolve kernel box_order order weight gain pixel pixel_back exact flatten Gray.gray Gray.leftover Gray.places Gray.same_column Gray.same_row Gray.same_sum Gray.plain Gray.inside_weight Gray.place_weight Gray.same_leftover
blurred_leftovers = refl

-- the greys before the two pixels are raised; the least and the greatest pixel, and those of a row without black
pub between :
    Gray.places wall (Gray.same_gray uneven wall) ∷ (least wall.pixels ∷ greatest wall.pixels ∷ [])
    ∷ (least (71 ∷ 10 ∷ 20 ∷ []) ∷ greatest (20 ∷ 91 ∷ 40 ∷ []) ∷ []) ∷ []
    ≡ (50 ∷ 36 ∷ 26 ∷ 38 ∷ 35 ∷ 35 ∷ []) ∷ (0 ∷ 90 ∷ []) ∷ (10 ∷ 91 ∷ []) ∷ []
unfolding sum tab total product least greatest box convolve kernel box_order order weight gain pixel pixel_back exact flatten Gray.gray Gray.places Gray.same_column Gray.same_row Gray.same_sum Gray.plain Gray.inside_weight Gray.place_weight Gray.same_gray
between = refl

pub rounded : Gray.grays 12 (150 ∷ 180 ∷ 130 ∷ []) ≡ 13 ∷ 15 ∷ 11 ∷ []
unfolding Gray.gray Gray.grays
rounded = refl

pub rounded_leftovers : Gray.leftovers 12 (150 ∷ 180 ∷ 130 ∷ []) ≡ negsuc 5 ∷ pos 0 ∷ negsuc 1 ∷ []
unfolding Gray.gray Gray.leftover Gray.leftovers
rounded_leftovers = refl

pub differences : Gray.places wall (Gray.difference uneven other wall) ∷ Gray.places wall (Gray.difference other uneven wall) ∷ []
    ≡ (negsuc 0 ∷ pos 0 ∷ negsuc 3 ∷ pos 5 ∷ pos 14 ∷ pos 14 ∷ []) ∷ (pos 1 ∷ pos 0 ∷ pos 4 ∷ negsuc 4 ∷ negsuc 13 ∷ negsuc 13 ∷ []) ∷ []
unfolding sum tab total product box convolve kernel box_order order weight gain pixel pixel_back exact flatten Gray.places Gray.same_column Gray.same_row Gray.same_sum Gray.nearest Gray.nearest_difference Gray.difference
differences = refl

-- the three readings at column 0, row 1, and the quotient there
pub readings :
    Gray.reading as_gray uneven scored 0 1 ∷ Gray.reading as_sum uneven scored 0 1 ∷ Gray.reading as_quotient uneven scored 0 1
    ∷ quotient_reading (Gray.same_quotient uneven scored 0 1) ∷ []
    ≡ gray_reading 39 (negsuc 1) ∷ sum_reading 232 ∷ quotient_reading (Ieee.of_bits binary64 0x4043_5555_5555_5555)
    ∷ quotient_reading (Ieee.of_bits binary64 0x4043_5555_5555_5555) ∷ []
unfolding sum tab total product box convolve kernel box_order order weight gain pixel pixel_back exact Gray.gray Gray.leftover Gray.same_column Gray.same_row Gray.same_sum Gray.plain Gray.inside_weight Gray.place_weight Gray.same_gray Gray.float Gray.ratio Gray.same_quotient Gray.reading Ieee.of_int Ieee.div Ieee.round Ieee.units Ieee.odd Ieee.size Ieee.climb Ieee.span Ieee.of_bits Ieee.of_fields Gray.expressed
readings = refl

-- the scale card of rows 5, columns 2,2
pub card : Gray.scale_card (recipe_of (5 ∷ []) (2 ∷ 2 ∷ []))
    ≡ record {
      weight = 20;
      row_reach = 4;
      column_reach = 2;
      row_variance = Ieee.of_bits binary64 0x4000_0000_0000_0000;
      column_variance = Ieee.of_bits binary64 0x3FE0_0000_0000_0000;
    }
unfolding total product box_order order weight gain Gray.box_square Gray.squares Gray.variance Gray.float Gray.ratio Gray.scale_card Ieee.of_int Ieee.div Ieee.round Ieee.units Ieee.odd Ieee.size Ieee.climb Ieee.span Ieee.of_bits Ieee.of_fields
card = refl

-- the bytes of the job, written and read, and sides above 255
pub written : Job.job_bytes uneven wall ≡ job
unfolding Job.low16 Job.mark Job.version Job.job_bytes
written = refl

pub read : Job.job_recipe job ≡ uneven
unfolding tab part Job.job_recipe
read = refl

pub read_picture_lem : Job.job_picture job ≡ wall
unfolding Job.read16 Job.job_width Job.job_height Job.job_offset Job.job_picture
read_picture_lem = refl

pub sixteen_bits : Job.low16 1024 ++ Job.low16 511 ++ (Job.read16 (255 ∷ 1 ∷ []) 0 ∷ []) ≡ 0 ∷ 4 ∷ 255 ∷ 1 ∷ 511 ∷ []
unfolding Job.low16 Job.read16
sixteen_bits = refl

-- what the program prints for the job, and for the job with a byte less: `refused 14`
pub printed :
    Program.printed job ∷ Program.printed (take 19 job) ∷ []
    ≡ (54 ∷ 32 ∷ 51 ∷ 32 ∷ 49 ∷ 50 ∷ 10
    ∷ 55 ∷ 48 ∷ 32 ∷ 49 ∷ 53 ∷ 48 ∷ 32 ∷ 49 ∷ 56 ∷ 48 ∷ 32 ∷ 49 ∷ 51 ∷ 48 ∷ 32 ∷ 53 ∷ 48 ∷ 32 ∷ 50 ∷ 48 ∷ 10
    ∷ 49 ∷ 49 ∷ 48 ∷ 32 ∷ 50 ∷ 51 ∷ 48 ∷ 32 ∷ 51 ∷ 53 ∷ 48 ∷ 32 ∷ 51 ∷ 53 ∷ 48 ∷ 32 ∷ 50 ∷ 51 ∷ 48 ∷ 32 ∷ 49 ∷ 49 ∷ 48 ∷ 10
    ∷ 52 ∷ 48 ∷ 32 ∷ 56 ∷ 48 ∷ 32 ∷ 49 ∷ 55 ∷ 48 ∷ 32 ∷ 50 ∷ 50 ∷ 48 ∷ 32 ∷ 49 ∷ 56 ∷ 48 ∷ 32 ∷ 57 ∷ 48 ∷ 10 ∷ [])
    ∷ (114 ∷ 101 ∷ 102 ∷ 117 ∷ 115 ∷ 101 ∷ 100 ∷ 32 ∷ 49 ∷ 52 ∷ 10 ∷ [])
    ∷ []
unfolding sum tab part total product somewhere box convolve kernel box_order order weight gain pixel pixel_back full_width_of full_height_of exact full_row flatten box_cells cascade_cells stream_cells Job.mark Job.version Job.read16 Job.job_length Job.job_recipe Job.job_width Job.job_height Job.job_offset Job.job_picture Refusals.too_long Refusals.zero_width Refusals.too_far Refusals.too_heavy Refusals.bad_side Refusals.bad_sides Refusals.too_few_cells Refusals.bad_head Refusals.cut_short Refusals.other_total Refusals.over_program Refusals.check Refusals.first Refusals.either Refusals.recipe_checks Refusals.size_checks Refusals.job_checks Refusals.program_checks Program.decimal_digits Program.decimal Program.line Program.sums_printed Program.refusal_printed Program.printed
printed = refl

pub ten : Program.decimal 10 ≡ 49 ∷ 48 ∷ []
unfolding Program.decimal_digits Program.decimal
ten = refl

-- ---- the answer of each call: 0 at the lengths that are asked for, and the number where one of them is another

abbrev state : ℕ → State
state k = state_with uneven 3 2 k

abbrev state_of : Recipe → ℕ → ℕ → State
state_of r w h = state_with r w h 0

-- a job with columns 64 on a row of black pixels, with these rows: it needs 8,192 cells with no rows
abbrev wide : List ℕ → ℕ → List ℕ
wide ns w = Job.job_bytes (recipe_of ns (64 ∷ [])) (picture w 1 (replicate w 0))

pub answers :
    -- both pictures, one with a pixel less, and sides that are refused
    Refusals.first (Refusals.picture_checks uneven wall)
    ∷ Refusals.first (Refusals.picture_checks uneven scored)
    ∷ Refusals.first (Refusals.picture_checks uneven (picture 3 2 (1 ∷ 2 ∷ 3 ∷ 4 ∷ 5 ∷ [])))
    ∷ Refusals.first (Refusals.picture_checks uneven (picture 1025 0 []))
    ∷ Refusals.first (Refusals.picture_checks uneven (picture 2 0 []))
    ∷ Refusals.first (Refusals.picture_checks uneven (picture 0 2 []))
    -- one pass: start, row calls, drains
    ∷ Refusals.first (Refusals.start_checks uneven 3 2 10)
    ∷ Refusals.first (Refusals.start_checks uneven 3 2 9)
    ∷ Refusals.first (Refusals.row_checks (state 0) 3 6 10)
    ∷ Refusals.first (Refusals.row_checks (state 0) 2 6 10)
    ∷ Refusals.first (Refusals.row_checks (state 0) 3 5 10)
    ∷ Refusals.first (Refusals.row_checks (state 0) 3 6 9)
    ∷ Refusals.first (Refusals.row_checks (state 2) 3 6 10)
    ∷ Refusals.first (Refusals.row_checks (state 4) 3 6 10)
    ∷ Refusals.first (Refusals.drain_checks (state 2) 6 10)
    ∷ Refusals.first (Refusals.drain_checks (state 2) 5 10)
    ∷ Refusals.first (Refusals.drain_checks (state 2) 6 9)
    ∷ Refusals.first (Refusals.drain_checks (state 1) 6 10)
    ∷ Refusals.first (Refusals.drain_checks (state 3) 6 10)
    -- a state with a recipe or a side that would be refused
    ∷ Refusals.first (Refusals.row_checks (state_of (recipe_of (twos 49) []) 3 2) 3 3 99)
    ∷ Refusals.first (Refusals.row_checks (state_of (recipe_of [] (0 ∷ [])) 3 2) 3 3 99)
    ∷ Refusals.first (Refusals.row_checks (state_of (recipe_of [] (255 ∷ 3 ∷ [])) 3 2) 3 3 9999)
    ∷ Refusals.first (Refusals.row_checks (state_of (recipe_of (twos 45) []) 3 2) 3 48 99)
    ∷ Refusals.first (Refusals.row_checks (state_of uneven 1025 2) 1025 1028 9999)
    ∷ Refusals.first (Refusals.row_checks (state_of uneven 3 1025) 3 6 10)
    -- pass by pass
    ∷ Refusals.first (Refusals.pass_checks uneven wall 18 18)
    ∷ Refusals.first (Refusals.pass_checks uneven wall 17 18)
    ∷ Refusals.first (Refusals.pass_checks uneven wall 18 17)
    -- the ladder: level 1 is 9 by 8 on both axes, and 9 by 2 along the rows
    ∷ Refusals.first (Refusals.ladder_checks both_axes 1 wall 72 72)
    ∷ Refusals.first (Refusals.ladder_checks both_axes 1 wall 71 72)
    ∷ Refusals.first (Refusals.ladder_checks both_axes 1 wall 72 71)
    ∷ Refusals.first (Refusals.ladder_checks rows_only 1 wall 18 19)
    ∷ Refusals.first (Refusals.ladder_checks rows_only 1 wall 6 18)
    ∷ Refusals.first (Refusals.ladder_checks both_axes 6 wall 6 0)
    ∷ Refusals.first (Refusals.ladder_checks both_axes 10 wall 6 0)
    -- direct
    ∷ Refusals.first (Refusals.direct_checks uneven wall 4 2 18)
    ∷ Refusals.first (Refusals.direct_checks uneven wall 3 2 18)
    ∷ Refusals.first (Refusals.direct_checks uneven wall 4 1 18)
    ∷ Refusals.first (Refusals.direct_checks uneven wall 4 2 17)
    -- rounding, same size
    ∷ Refusals.first (Refusals.round_checks uneven (3060 ∷ 0 ∷ []) 2 2)
    ∷ Refusals.first (Refusals.round_checks uneven (3061 ∷ 0 ∷ []) 1 2)
    ∷ Refusals.first (Refusals.round_checks uneven (3061 ∷ 0 ∷ []) 2 1)
    ∷ Refusals.first (Refusals.round_checks uneven (3061 ∷ 0 ∷ []) 2 2)
    ∷ Refusals.first (Refusals.same_size_checks uneven wall 6 6 36)
    ∷ Refusals.first (Refusals.same_size_checks uneven wall 5 6 35)
    ∷ Refusals.first (Refusals.same_size_checks uneven wall 6 5 35)
    ∷ Refusals.first (Refusals.same_size_checks uneven wall 6 6 35)
    -- difference: A's numbers before B's, the grown sizes 18 and 20
    ∷ Refusals.first (Refusals.difference_checks uneven other wall 6 76)
    ∷ Refusals.first (Refusals.difference_checks (recipe_of (0 ∷ []) []) (recipe_of (twos 49) []) wall 6 76)
    ∷ Refusals.first (Refusals.difference_checks uneven (recipe_of (twos 49) []) wall 6 76)
    ∷ Refusals.first (Refusals.difference_checks uneven other wall 5 76)
    ∷ Refusals.first (Refusals.difference_checks uneven other wall 6 75)
    ∷ Refusals.first (Refusals.difference_checks uneven (recipe_of [] (2 ∷ [])) wall 6 99)
    ∷ Refusals.first (Refusals.difference_checks (recipe_of (twos 22) []) (recipe_of (twos 22) (twos 2)) wall 6 999)
    ∷ Refusals.first (Refusals.difference_checks (recipe_of (twos 22) (twos 2)) (recipe_of (twos 22) []) wall 6 999)
    -- reading, comparing, writing
    ∷ Refusals.first (Refusals.reading_checks uneven wall 2 1)
    ∷ Refusals.first (Refusals.reading_checks uneven wall 3 1)
    ∷ Refusals.first (Refusals.reading_checks uneven wall 2 2)
    ∷ Refusals.first (Refusals.compare_checks uneven other)
    ∷ Refusals.first (Refusals.compare_checks (recipe_of (0 ∷ []) []) (recipe_of (twos 49) []))
    ∷ Refusals.first (Refusals.write_checks uneven wall 20)
    ∷ Refusals.first (Refusals.write_checks uneven wall 21)
    -- jobs: the lists' counts before they are cut, then the recipe, then the length
    ∷ Refusals.first (Refusals.job_checks job)
    ∷ Refusals.first (Refusals.job_checks (take 7 job))
    ∷ Refusals.first (Refusals.job_checks (take 5 job ++ (49 ∷ 1 ∷ [])))
    ∷ Refusals.first (Refusals.job_checks (take 13 job))
    ∷ Refusals.first (Refusals.job_checks (take 7 job ++ (0 ∷ 2 ∷ 2 ∷ 0 ∷ 0 ∷ 2 ∷ 0 ∷ [])))
    ∷ Refusals.first (Refusals.job_checks (take 10 job ++ (0 ∷ 0 ∷ 2 ∷ 0 ∷ [])))
    ∷ Refusals.first (Refusals.job_checks (job ++ (0 ∷ [])))
    ∷ Refusals.first (Refusals.program_checks (wide [] 128))
    ∷ Refusals.first (Refusals.program_checks (wide (2 ∷ []) 127))
    -- too many cells, and a byte more: the length of the job is asked first
    ∷ Refusals.first (Refusals.program_checks (wide (2 ∷ []) 127 ++ (0 ∷ [])))
    ∷ []
    ≡ 0 ∷ 0 ∷ 6 ∷ 5 ∷ 5 ∷ 5
    ∷ 0 ∷ 8
    ∷ 0 ∷ 6 ∷ 7 ∷ 8 ∷ 10 ∷ 9
    ∷ 0 ∷ 7 ∷ 8 ∷ 10 ∷ 10
    ∷ 9 ∷ 9 ∷ 9 ∷ 9 ∷ 9 ∷ 9
    ∷ 0 ∷ 7 ∷ 8
    ∷ 0 ∷ 7 ∷ 8 ∷ 0 ∷ 7 ∷ 4 ∷ 16
    ∷ 0 ∷ 7 ∷ 7 ∷ 7
    ∷ 0 ∷ 7 ∷ 7 ∷ 11
    ∷ 0 ∷ 7 ∷ 7 ∷ 8
    ∷ 0 ∷ 2 ∷ 1 ∷ 7 ∷ 8 ∷ 12 ∷ 13 ∷ 13
    ∷ 0 ∷ 15 ∷ 15
    ∷ 0 ∷ 2
    ∷ 0 ∷ 7
    ∷ 0 ∷ 14 ∷ 1 ∷ 14 ∷ 2 ∷ 5 ∷ 14
    ∷ 0 ∷ 8 ∷ 14
    ∷ []
unfolding sum tab part total product somewhere box_order order weight gain full_width_of full_height_of box_cells cascade_cells stream_cells Job.low16 Job.mark Job.version Job.read16 Job.job_bytes Job.job_length Job.job_recipe Job.job_width Job.job_height Refusals.too_long Refusals.zero_width Refusals.too_far Refusals.too_heavy Refusals.bad_side Refusals.bad_sides Refusals.other_pixels Refusals.other_output Refusals.too_few_cells Refusals.bad_state Refusals.row_not_due Refusals.drain_not_due Refusals.too_bright Refusals.odd_apart Refusals.parity_differs Refusals.product_too_heavy Refusals.bad_head Refusals.cut_short Refusals.other_total Refusals.over_program Refusals.outside Refusals.check Refusals.first Refusals.recipe_checks Refusals.size_checks Refusals.picture_checks Refusals.start_checks Refusals.row_checks Refusals.drain_checks Refusals.full_size Refusals.pass_checks rungs on_axes ladder Refusals.bad_level Refusals.ladder_checks Refusals.direct_checks Refusals.round_checks Refusals.same_size_checks Refusals.difference_checks Refusals.reading_checks Refusals.compare_checks Refusals.job_checks Refusals.write_checks Refusals.program_checks
answers = refl
