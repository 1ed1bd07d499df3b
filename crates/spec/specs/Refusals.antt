-- Document 01, "If the reader says no", and the numbers of document 02: each condition by its number, and the order in which each call
-- asks them.
use Rattle.std.specs.Prelude.{◌≡◌, Bool, not, ◌&&◌, ◌||◌, cond, Result, Ok, Err, List, [], ◌∷◌, ◌++◌, ℕ, zero, suc, ◌+◌, ◌*◌, ◌%◌, ◌^◌, leb, ltb, eqb, length, get_or, take, drop}
use Rattle.spec.specs.declared.refusal.Refusal.{Refusal}
use Rattle.spec.specs.declared.refusal.Refusal.TheVariants.{TooLong, ZeroWidth, TooFar, TooHeavy, BadSides, OtherPixels, OtherOutput, TooFewCells, BadState, NotDue, TooBright, ParityDiffers, ProductTooHeavy, BadFile, Outside, BadLevel}
use Rattle.spec.specs.Words.{somewhere}
use Rattle.spec.specs.Recipe.{Recipe, order, gain}
use Rattle.spec.specs.Picture.{Picture, largest_gray, full_width_of, full_height_of}
use Rattle.spec.specs.Stream.{State, stream_cells}
use Rattle.spec.specs.Ladder.{Axes, ladder}
use Rattle.spec.specs.Job.{mark, version, read16, job_recipe, job_width, job_height, job_length}

-- ---- the conditions

-- 1: a list is longer than 48
unfoldable pub too_long : Recipe → Bool
too_long r = ltb 48 (length r.rows) || ltb 48 (length r.columns)

-- 2: a width is 0
unfoldable pub zero_width : Recipe → Bool
zero_width r = somewhere (λ n. eqb n 0) r.rows || somewhere (λ n. eqb n 0) r.columns

-- 3: a reach is above 255
unfoldable pub too_far : Recipe → Bool
too_far r = ltb 255 (order r.rows) || ltb 255 (order r.columns)

-- 4: the weight is above 2^44
unfoldable pub too_heavy : Recipe → Bool
too_heavy r = ltb (2 ^ 44) (gain r)

-- 5: w or h is 0 or above 1,024
unfoldable pub bad_side : ℕ → Bool
bad_side n = eqb n 0 || ltb 1024 n

unfoldable pub bad_sides : ℕ → ℕ → Bool
bad_sides w h = bad_side w || bad_side h

-- 6: a pixel slice has another length than the row or picture
unfoldable pub other_pixels : ℕ → ℕ → Bool
other_pixels given stated = not (eqb given stated)

-- 7: an output slice has another length than stated
unfoldable pub other_output : ℕ → ℕ → Bool
other_output given stated = not (eqb given stated)

-- 8: fewer work cells than needed
unfoldable pub too_few_cells : ℕ → ℕ → Bool
too_few_cells given needed = ltb given needed

-- 9: a state whose recipe or sides would be refused, or with more rows yielded than the grown height
unfoldable pub bad_state : State → Bool
bad_state s =
    too_long s.recipe || zero_width s.recipe || too_far s.recipe || too_heavy s.recipe || bad_sides s.width s.height
    || ltb (full_height_of s.recipe s.height) s.emitted

-- 10: a row when h are in; a drain before that, or a drain when all are out
unfoldable pub row_not_due : State → Bool
row_not_due s = leb s.height s.emitted

unfoldable pub drain_not_due : State → Bool
drain_not_due s = ltb s.emitted s.height || leb (full_height_of s.recipe s.height) s.emitted

-- 11: a sum to be rounded is above the largest grey, 255, times the weight
unfoldable pub too_bright : ℕ → ℕ → List ℕ → Bool
too_bright most weight sums = somewhere (λ s. ltb (most * weight) s) sums

-- 12: reaches differ in parity on an axis
unfoldable pub odd_apart : ℕ → ℕ → Bool
odd_apart m n = not (eqb (m % 2) (n % 2))

unfoldable pub parity_differs : Recipe → Recipe → Bool
parity_differs a b = odd_apart (order a.rows) (order b.rows) || odd_apart (order a.columns) (order b.columns)

-- 13: weight product above 2^44
unfoldable pub product_too_heavy : Recipe → Recipe → Bool
product_too_heavy a b = ltb (2 ^ 44) (gain a * gain b)

-- 14: under 7 bytes, mark or version wrong; lists and sides cut short; another total length; over the program's 65,536
unfoldable pub bad_head : List ℕ → Bool
bad_head bytes =
    ltb (length bytes) 7
    || not (eqb (get_or bytes 0 0) (get_or mark 0 0) && eqb (get_or bytes 1 0) (get_or mark 1 0) && eqb (get_or bytes 2 0) (get_or mark 2 0))
    || not (eqb (read16 bytes 3) version)

unfoldable pub cut_short : List ℕ → Bool
cut_short bytes = ltb (length bytes) (job_length (job_recipe bytes) 0 0)

unfoldable pub other_total : List ℕ → Bool
other_total bytes = not (eqb (length bytes) (job_length (job_recipe bytes) (job_width bytes) (job_height bytes)))

unfoldable pub over_program : List ℕ → Bool
over_program bytes = ltb 65536 (length bytes)

-- 15: a reading's place is outside the picture
unfoldable pub outside : ℕ → ℕ → ℕ → ℕ → Bool
outside w h i j = not (ltb i w && ltb j h)

-- 16: a level of the ladder outside 1 to 8
unfoldable pub bad_level : ℕ → Bool
bad_level level = eqb level 0 || ltb 8 level

-- ---- the numbers

-- the number of each refusal
unfoldable pub number : Refusal → ℕ
number TooLong = 1
number ZeroWidth = 2
number TooFar = 3
number TooHeavy = 4
number BadSides = 5
number OtherPixels = 6
number OtherOutput = 7
number TooFewCells = 8
number BadState = 9
number NotDue = 10
number TooBright = 11
number ParityDiffers = 12
number ProductTooHeavy = 13
number BadFile = 14
number Outside = 15
number BadLevel = 16

-- ---- the answer

-- a condition and its number
abbrev pub Check : Type 0
Check = record { holds : Bool; number : ℕ }

unfoldable pub check : Bool → ℕ → Check
check b n = record { holds = b; number = n }

-- the number of the first condition that holds, 0 where none does
unfoldable pub first : List Check → ℕ
first [] = 0
first (c ∷ cs) = cond c.holds c.number (first cs)

-- an answer that is a value or a refusal's number
pub data Answer (A : Type 0) : Type 0 where
  accepted : A → Answer A
  refused : ℕ → Answer A

-- one of two, by whether a number is 0: what is told or left in a buffer on acceptance, and what on a refusal
unfoldable pub either {ℓ} : {A : Type ℓ} → ℕ → A → A → A
either zero a b = a
either (suc n) a b = b

-- the number of a call's answer, 0 where it is accepted
abbrev pub outcome : {A : Type 0} → Result A Refusal → ℕ
outcome (Ok a) = 0
outcome (Err e) = number e

-- a call's answer, with what its value stands for
abbrev pub told : {A B : Type 0} → (A → B) → Result A Refusal → Answer B
told f (Ok a) = accepted (f a)
told f (Err e) = refused (number e)

-- the value, or the number of the first condition that holds
unfoldable pub answer : {A : Type 0} → List Check → A → Answer A
answer cs a = either (first cs) (accepted a) (refused (first cs))

-- what a lent slice then contains: the new content, or on a refusal what it was
unfoldable pub lent : {A : Type 0} → List Check → A → A → A
lent cs new old = either (first cs) new old

-- What a call with these checks answers and leaves, which makes something in an output and needs so many work cells.
pub record Written {A : Type 0} (cs : List Check) (made : A) (needed : ℕ) (out : A) (cells : List ℕ) (number : ℕ) (new_out : A) (new_cells : List ℕ) : Type 0 where
  -- 0, or the number of the first check that holds
  pub answer : number ≡ first cs
  -- what is made, or on a refusal what the output held
  pub output : new_out ≡ lent cs made out
  -- the needed cells are free, and those beyond are what they were; on a refusal all are
  pub work : new_cells ≡ lent cs (take needed new_cells ++ drop needed cells) cells
  -- and there are as many cells as before
  pub count : length new_cells ≡ length cells

-- ---- the order of each call

-- a recipe: 1 to 4
unfoldable pub recipe_checks : Recipe → List Check
recipe_checks r = check (too_long r) 1 ∷ check (zero_width r) 2 ∷ check (too_far r) 3 ∷ check (too_heavy r) 4 ∷ []

-- a list as a recipe of its own
unfoldable pub alone : List ℕ → Recipe
alone ns = record { rows = ns; columns = [] }

-- coefficients of a list: 1 to 4, 7
unfoldable pub kernel_checks : List ℕ → ℕ → List Check
kernel_checks ns out = recipe_checks (alone ns) ++ check (other_output out (order ns + 1)) 7 ∷ []

-- the grown sides: 1 to 5; the needed cells for a width: 1 to 5
unfoldable pub size_checks : Recipe → ℕ → ℕ → List Check
size_checks r w h = recipe_checks r ++ check (bad_sides w h) 5 ∷ []

unfoldable pub cell_checks : Recipe → ℕ → List Check
cell_checks r w = recipe_checks r ++ check (bad_side w) 5 ∷ []

-- a picture, with its pixel slice: 1 to 6
unfoldable pub picture_checks : Recipe → Picture → List Check
picture_checks r p = size_checks r p.width p.height ++ check (other_pixels (length p.pixels) (p.width * p.height)) 6 ∷ []

-- one pass, the start: 1 to 5, 8
unfoldable pub start_checks : Recipe → ℕ → ℕ → ℕ → List Check
start_checks r w h cells = size_checks r w h ++ check (too_few_cells cells (stream_cells r w)) 8 ∷ []

-- one pass, a row call: 9, 10, 6, 7, 8; a drain: 9, 10, 7, 8
unfoldable pub row_checks : State → ℕ → ℕ → ℕ → List Check
row_checks s pixels out cells =
    check (bad_state s) 9 ∷ check (row_not_due s) 10 ∷ check (other_pixels pixels s.width) 6
    ∷ check (other_output out (full_width_of s.recipe s.width)) 7
    ∷ check (too_few_cells cells (stream_cells s.recipe s.width)) 8 ∷ []

unfoldable pub drain_checks : State → ℕ → ℕ → List Check
drain_checks s out cells =
    check (bad_state s) 9 ∷ check (drain_not_due s) 10
    ∷ check (other_output out (full_width_of s.recipe s.width)) 7
    ∷ check (too_few_cells cells (stream_cells s.recipe s.width)) 8 ∷ []

-- the grown size
unfoldable pub full_size : Recipe → Picture → ℕ
full_size r p = full_width_of r p.width * full_height_of r p.height

-- pass by pass: 1 to 8
unfoldable pub pass_checks : Recipe → Picture → ℕ → ℕ → List Check
pass_checks r p out cells =
    picture_checks r p ++ check (other_output out (full_size r p)) 7 ∷ check (too_few_cells cells (full_size r p)) 8 ∷ []

-- the ladder: 16, then the numbers of pass by pass for the level's recipe
unfoldable pub ladder_checks : Axes → ℕ → Picture → ℕ → ℕ → List Check
ladder_checks a level p out cells = check (bad_level level) 16 ∷ pass_checks (ladder a level) p out cells

-- direct: 1 to 7, the two slices for R and C and the output
unfoldable pub direct_checks : Recipe → Picture → ℕ → ℕ → ℕ → List Check
direct_checks r p rs cs out =
    picture_checks r p
    ++ check (other_output rs (order r.rows + 1) || other_output cs (order r.columns + 1) || other_output out (full_size r p)) 7 ∷ []

-- rounding: 1 to 4, 7, 11; the outputs for greys and for leftovers
unfoldable pub round_checks : Recipe → List ℕ → ℕ → ℕ → List Check
round_checks r sums out left =
    recipe_checks r
    ++ check (other_output out (length sums) || other_output left (length sums)) 7 ∷ check (too_bright largest_gray (gain r) sums) 11 ∷ []

-- same-size blur: 1 to 8; the same two outputs, with twice the grown size in work cells
unfoldable pub same_size_checks : Recipe → Picture → ℕ → ℕ → ℕ → List Check
same_size_checks r p out left cells =
    picture_checks r p
    ++ check (other_output out (p.width * p.height) || other_output left (p.width * p.height)) 7
    ∷ check (too_few_cells cells (2 * full_size r p)) 8 ∷ []

-- difference: A's 1 to 4, B's 1 to 4, then 5, 6, 7, 8, 12, 13, with twice both grown sizes together in work cells
unfoldable pub difference_checks : Recipe → Recipe → Picture → ℕ → ℕ → List Check
difference_checks a b p out cells =
    recipe_checks a ++ (picture_checks b p
    ++ check (other_output out (p.width * p.height)) 7
    ∷ check (too_few_cells cells (2 * (full_size a p + full_size b p))) 8
    ∷ check (parity_differs a b) 12 ∷ check (product_too_heavy a b) 13 ∷ [])

-- reading: 1 to 6, 15
unfoldable pub reading_checks : Recipe → Picture → ℕ → ℕ → List Check
reading_checks r p i j = picture_checks r p ++ check (outside p.width p.height i j) 15 ∷ []

-- comparing: A's 1 to 4, B's 1 to 4
unfoldable pub compare_checks : Recipe → Recipe → List Check
compare_checks a b = recipe_checks a ++ recipe_checks b

-- reading a job: 14 for under 7 bytes, mark or version; 1; 14 if lists and sides are cut short; 2 to 5 (1 was asked already); 14 for any
-- other total length
unfoldable pub job_checks : List ℕ → List Check
job_checks bytes =
    check (bad_head bytes) 14 ∷ check (too_long (job_recipe bytes)) 1 ∷ check (cut_short bytes) 14
    ∷ (size_checks (job_recipe bytes) (job_width bytes) (job_height bytes) ++ check (other_total bytes) 14 ∷ [])

-- writing a job: 1 to 7
unfoldable pub write_checks : Recipe → Picture → ℕ → List Check
write_checks r p out = picture_checks r p ++ check (other_output out (job_length r p.width p.height)) 7 ∷ []

-- the program, with 8,192 cells: 14 for its size limit first of all, the job's own, then 8
unfoldable pub program_checks : List ℕ → List Check
program_checks bytes =
    check (over_program bytes) 14
    ∷ (job_checks bytes ++ check (too_few_cells 8192 (stream_cells (job_recipe bytes) (job_width bytes))) 8 ∷ [])
