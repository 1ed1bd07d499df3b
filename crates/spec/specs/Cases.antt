-- Document 01, "Wall pieces to try": the cases marked ◆, as one table of inputs and expected outputs, two of them as document 02, S-4, has
-- them; and the input of its job example.
use Rattle.std.specs.Prelude.{cond, List, [], ◌∷◌, map, ℕ, ℤ, pos, neg_ℤ, take, replicate}
use Rattle.std.specs.Float.{binary64}
use Rattle.std.specs.Float.Ieee.{to_bits}
use Rattle.spec.specs.Recipe.{Recipe, kernel, order, gain}
use Rattle.spec.specs.Picture.{Picture, picture, full}
use Rattle.spec.specs.Gray.{places, same_sum, same_gray, difference, same_quotient, variance}
use Rattle.spec.specs.Same.{equivalent}
use Rattle.spec.specs.Refusals.{alone}

-- what is asked: the input of a case
pub data Question : Type 0 where
  -- the first coefficients of a list, as many as are named
  coefficients : ℕ → List ℕ → Question
  -- row reach, column reach and weight
  measures : Recipe → Question
  -- all exact sums
  sums : Recipe → Picture → Question
  -- the sums and the greys of the same-size blur
  same_sums : Recipe → Picture → Question
  same_grays : Recipe → Picture → Question
  -- 1 where two recipes are equal, and 0 where they are not
  equal : Recipe → Recipe → Question
  -- the differences at all places
  differences : Recipe → Recipe → Picture → Question
  -- the quotients at all places, as the bits of 64-bit floats
  quotients : Recipe → Picture → Question
  -- the variance of a list, as the bits of a 64-bit float
  variance_of : List ℕ → Question

-- a list of naturals as integers
unfoldable pub numbers : List ℕ → List ℤ
numbers ns = map pos ns

-- what the definitions answer
unfoldable pub output : Question → List ℤ
output (coefficients k ns) = numbers (take k (kernel ns))
output (measures r) = numbers (order r.rows ∷ order r.columns ∷ gain r ∷ [])
output (sums r p) = numbers (full r p)
output (same_sums r p) = numbers (places p (same_sum r p))
output (same_grays r p) = numbers (places p (same_gray r p))
output (equal a b) = numbers (cond (equivalent a b) 1 0 ∷ [])
output (differences a b p) = places p (difference a b p)
output (quotients r p) = numbers (places p (λ i j. to_bits binary64 (same_quotient r p i j)))
output (variance_of ns) = numbers (to_bits binary64 (variance ns) ∷ [])

pub record Case : Type 0 where
  pub question : Question
  pub expected : List ℤ

abbrev pub case : Question → List ℤ → Case
case q e = record { question = q; expected = e }

-- a recipe by its parts, and n widths of 2
abbrev pub recipe_of : List ℕ → List ℕ → Recipe
recipe_of ns ms = record { rows = ns; columns = ms }

abbrev pub twos : ℕ → List ℕ
twos n = replicate n 2

-- The table, in the paper's order.
unfoldable pub table : List Case
table =
    -- rows 2,2, columns 2,2, one pixel 1
    case (sums (recipe_of (twos 2) (twos 2)) (picture 1 1 (1 ∷ []))) (numbers (1 ∷ 2 ∷ 1 ∷ 2 ∷ 4 ∷ 2 ∷ 1 ∷ 2 ∷ 1 ∷ []))
    ∷ case (measures (recipe_of (twos 2) (twos 2))) (numbers (2 ∷ 2 ∷ 16 ∷ []))
    -- rows 2,2,2,2
    ∷ case (coefficients 6 (twos 4)) (numbers (1 ∷ 4 ∷ 6 ∷ 4 ∷ 1 ∷ []))
    -- rows 3,2 and rows 2,3
    ∷ case (coefficients 5 (3 ∷ 2 ∷ [])) (numbers (1 ∷ 2 ∷ 2 ∷ 1 ∷ []))
    ∷ case (coefficients 5 (2 ∷ 3 ∷ [])) (numbers (1 ∷ 2 ∷ 2 ∷ 1 ∷ []))
    ∷ case (equal (alone (3 ∷ 2 ∷ [])) (alone (2 ∷ 3 ∷ []))) (numbers (1 ∷ []))
    -- rows 4 and rows 2,2; rows 1 and no widths
    ∷ case (equal (alone (4 ∷ [])) (alone (twos 2))) (numbers (0 ∷ []))
    ∷ case (equal (alone (1 ∷ [])) (alone [])) (numbers (1 ∷ []))
    -- rows 2,6,6 and rows 3,3,8
    ∷ case (coefficients 3 (2 ∷ 6 ∷ 6 ∷ [])) (numbers (1 ∷ 3 ∷ 5 ∷ []))
    ∷ case (coefficients 3 (3 ∷ 3 ∷ 8 ∷ [])) (numbers (1 ∷ 3 ∷ 6 ∷ []))
    ∷ case (measures (alone (2 ∷ 6 ∷ 6 ∷ []))) (numbers (11 ∷ 0 ∷ 72 ∷ []))
    ∷ case (measures (alone (3 ∷ 3 ∷ 8 ∷ []))) (numbers (11 ∷ 0 ∷ 72 ∷ []))
    ∷ case (equal (alone (2 ∷ 6 ∷ 6 ∷ [])) (alone (3 ∷ 3 ∷ 8 ∷ []))) (numbers (0 ∷ []))
    -- 3 by 3 picture of 100, rows 2,2, columns 2,2, same size; by S-4 the greys are 100 everywhere
    ∷ case (same_sums (recipe_of (twos 2) (twos 2)) (picture 3 3 (replicate 9 100)))
    (numbers (900 ∷ 1200 ∷ 900 ∷ 1200 ∷ 1600 ∷ 1200 ∷ 900 ∷ 1200 ∷ 900 ∷ []))
    ∷ case (same_grays (recipe_of (twos 2) (twos 2)) (picture 3 3 (replicate 9 100)))
    (numbers (replicate 9 100))
    -- rows 2, pixels 1 0
    ∷ case (sums (alone (2 ∷ [])) (picture 2 1 (1 ∷ 0 ∷ []))) (numbers (1 ∷ 1 ∷ 0 ∷ []))
    ∷ case (same_sums (alone (2 ∷ [])) (picture 2 1 (1 ∷ 0 ∷ []))) (numbers (1 ∷ 1 ∷ []))
    ∷ case (same_grays (alone (2 ∷ [])) (picture 2 1 (1 ∷ 0 ∷ []))) (numbers (1 ∷ 1 ∷ []))
    -- one pixel 255, A empty, B rows 2,2; exchanged; by S-4 the quotient for B is 255
    ∷ case (differences (alone []) (alone (twos 2)) (picture 1 1 (255 ∷ []))) (pos 128 ∷ [])
    ∷ case (differences (alone (twos 2)) (alone []) (picture 1 1 (255 ∷ []))) (neg_ℤ (pos 128) ∷ [])
    ∷ case (quotients (alone (twos 2)) (picture 1 1 (255 ∷ []))) (numbers (0x406F_E000_0000_0000 ∷ []))
    -- rows 2,2: row variance 0.5
    ∷ case (variance_of (twos 2)) (numbers (0x3FE0_0000_0000_0000 ∷ []))
    ∷ []

-- "Job file": the input of document 01's example
abbrev pub example_job : List ℕ
example_job = 0x42 ∷ 0x4F ∷ 0x52 ∷ 0x01 ∷ 0x00 ∷ 0x02 ∷ 0x00 ∷ 0x02 ∷ 0x02 ∷ 0x01 ∷ 0x00 ∷ 0x01 ∷ 0x00 ∷ 0x04 ∷ []
