-- Document 01, "Greys, differences, readings", and document 02, S-2 and S-4.
use Rattle.std.specs.Prelude.{cond, ℕ, ◌+◌, ◌-◌, ◌*◌, ◌/◌, leb, Float, ℤ, pos, neg_ℤ, ◌-ℤ◌, replicate}
use mathlib.Core.List.{List, flatten, map}
use Rattle.std.specs.Float.{binary64}
use Rattle.std.specs.Float.Ieee.{div, of_int}
use Rattle.spec.specs.Words.{tab, total}
use Rattle.spec.specs.Recipe.{Recipe, order, gain}
use Rattle.spec.specs.Picture.{Picture, picture, exact}

-- Rounding: grey = (sum + weight / 2) / weight, both divisions downwards.
unfoldable pub gray : ℕ → ℕ → ℕ
gray weight s = (s + weight / 2) / weight

-- S-2: the signed leftover, sum minus weight times grey.
unfoldable pub leftover : ℕ → ℕ → ℤ
leftover weight s = pos s -ℤ pos (weight * gray weight s)

-- the grey of each sum of a row, and the leftover of each
unfoldable pub grays : ℕ → List ℕ → List ℕ
grays weight sums = map (gray weight) sums

unfoldable pub leftovers : ℕ → List ℕ → List ℤ
leftovers weight sums = map (leftover weight) sums

-- f at each picture place (i, j), row by row
unfoldable pub places {ℓ} : {A : Type ℓ} → Picture → (ℕ → ℕ → A) → List A
places p f = flatten (tab p.height (λ j. tab p.width (λ i. f i j)))

-- Same-size blur: for picture place (i, j) it takes grown place (i + rx / 2, j + ry / 2), halves downwards.
unfoldable pub same_column : Recipe → ℕ → ℕ
same_column r i = i + order r.rows / 2

unfoldable pub same_row : Recipe → ℕ → ℕ
same_row r j = j + order r.columns / 2

-- the sum that it has there
unfoldable pub same_sum : Recipe → Picture → ℕ → ℕ → ℕ
same_sum r p i j = exact r p (same_column r i) (same_row r j)

-- S-4: a picture of sides w and h whose pixels are all the same
unfoldable pub plain : ℕ → ℕ → ℕ → Picture
plain w h c = picture w h (replicate (w * h) c)

-- Inside weight at a picture place: the exact sum there for a picture of the same sides whose pixels are all 1.
unfoldable pub inside_weight : Recipe → ℕ → ℕ → ℕ → ℕ → ℕ
inside_weight r w h i j = same_sum r (plain w h 1) i j

-- the weight over which a grey, its leftover and a quotient at a picture place are: the inside weight
unfoldable pub place_weight : Recipe → Picture → ℕ → ℕ → ℕ
place_weight r p i j = inside_weight r p.width p.height i j

-- the grey that it has there, and its leftover
unfoldable pub same_gray : Recipe → Picture → ℕ → ℕ → ℕ
same_gray r p i j = gray (place_weight r p i j) (same_sum r p i j)

unfoldable pub same_leftover : Recipe → Picture → ℕ → ℕ → ℤ
same_leftover r p i j = leftover (place_weight r p i j) (same_sum r p i j)

-- m / d rounded to the nearest whole number, a half upwards
unfoldable pub nearest : ℕ → ℕ → ℕ
nearest m d = (2 * m + d) / (2 * d)

-- (x - y) / d rounded to the nearest whole number, a half away from zero
unfoldable pub nearest_difference : ℕ → ℕ → ℕ → ℤ
nearest_difference x y d = cond (leb y x) (pos (nearest (x - y) d)) (neg_ℤ (pos (nearest (y - x) d)))

-- Difference of recipes A and B at a picture place: (sumA times weightB - sumB times weightA) over weightA times weightB, rounded so.
unfoldable pub difference : Recipe → Recipe → Picture → ℕ → ℕ → ℤ
difference a b p i j = nearest_difference (same_sum a p i j * gain b) (same_sum b p i j * gain a) (gain a * gain b)

-- an exact integer made a 64-bit float, and the quotient of two of them by one division
unfoldable pub float : ℕ → Float
float n = of_int binary64 (pos n)

unfoldable pub ratio : ℕ → ℕ → Float
ratio m d = div binary64 (float m) (float d)

-- the quotient sum / weight at a picture place, from the sum of the same-size blur and the inside weight
unfoldable pub same_quotient : Recipe → Picture → ℕ → ℕ → Float
same_quotient r p i j = ratio (same_sum r p i j) (place_weight r p i j)

-- Reading at one picture place, from the sum of the same-size blur: the grey with its leftover beside it, the exact sum, or the quotient
-- sum / weight.
pub data Reading : Type 0 where
  gray_reading : ℕ → ℤ → Reading
  sum_reading : ℕ → Reading
  quotient_reading : Float → Reading

-- which of the three is chosen
pub data Choice : Type 0 where
  as_gray as_sum as_quotient : Choice

-- a sum over a weight, as it is chosen
unfoldable pub expressed : Choice → ℕ → ℕ → Reading
expressed as_gray weight s = gray_reading (gray weight s) (leftover weight s)
expressed as_sum weight s = sum_reading s
expressed as_quotient weight s = quotient_reading (ratio s weight)

unfoldable pub reading : Choice → Recipe → Picture → ℕ → ℕ → Reading
reading c r p i j = expressed c (place_weight r p i j) (same_sum r p i j)

-- what a box adds to a variance, before the division
unfoldable pub box_square : ℕ → ℕ
box_square n = n * n - 1

-- Variance of a list: the sum of (n times n - 1), divided by 12 once.
unfoldable pub squares : List ℕ → ℕ
squares ns = total box_square ns

unfoldable pub variance : List ℕ → Float
variance ns = ratio (squares ns) 12

-- Scale card of a recipe: weight, both reaches, and for each axis the variance.
pub record ScaleCard : Type 0 where
  pub weight : ℕ
  pub row_reach : ℕ
  pub column_reach : ℕ
  pub row_variance : Float
  pub column_variance : Float

unfoldable pub scale_card : Recipe → ScaleCard
scale_card r =
    record {
      weight = gain r;
      row_reach = order r.rows;
      column_reach = order r.columns;
      row_variance = variance r.rows;
      column_variance = variance r.columns;
    }
