-- Document 02, S-4: what is claimed of the inside weight, and of greys, leftovers and quotients by it. None of the claims is empty:
-- spec/proofs/Uneven.antt computes an accepted picture (`answers`) and its inside weights, all above 0 (`blurred`), and
-- spec/proofs/Examples.antt a place whose window lies within the picture (`inside_weights`).
use Rattle.std.specs.Prelude.{◌≡◌, ℕ, ◌*◌, ◌≤◌, ◌<◌, pos}
use Rattle.spec.specs.Recipe.{Recipe, order, gain}
use Rattle.spec.specs.Picture.{Picture, Within}
use Rattle.spec.specs.Gray.{same_column, same_row, same_sum, plain, inside_weight, place_weight, same_gray, same_leftover, Choice, expressed, reading}
use Rattle.spec.specs.Refusals.{first, picture_checks, alone}

-- It is the product of two sums along the axes: the inside weight of the row list along a row, times that of the column list along one of
-- the picture's height.
abbrev pub InsideProduct : Type 0
InsideProduct =
    (r : Recipe) (w h i j : ℕ) → inside_weight r w h i j ≡ inside_weight (alone r.rows) w 1 i 0 * inside_weight (alone r.columns) h 1 j 0

-- At every picture place of an accepted recipe and picture it is above 0 and at most the weight.
abbrev pub InsideFits : Type 0
InsideFits =
    (r : Recipe) (p : Picture) → first (picture_checks r p) ≡ 0 → (i j : ℕ) → i < p.width → j < p.height
    → (0 < place_weight r p i j) × (place_weight r p i j ≤ gain r)

-- A sum is at most the largest grey times it, so that no grey is above that.
abbrev pub SumsInside : Type 0
SumsInside = (most : ℕ) (r : Recipe) (p : Picture) → Within most p → (i j : ℕ) → same_sum r p i j ≤ most * place_weight r p i j

-- the window at a picture place lies within the picture
abbrev pub WindowWithin : Recipe → Picture → ℕ → ℕ → Type 0
WindowWithin r p i j =
    (order r.rows ≤ same_column r i) × (same_column r i < p.width) × (order r.columns ≤ same_row r j) × (same_row r j < p.height)

-- There it is the weight, and what is read is by that.
abbrev pub AwayFromRim : Type 0
AwayFromRim =
    (r : Recipe) (p : Picture) → first (picture_checks r p) ≡ 0 → (i j : ℕ) → WindowWithin r p i j
    → (place_weight r p i j ≡ gain r) × ((c : Choice) → reading c r p i j ≡ expressed c (gain r) (same_sum r p i j))

-- A picture whose pixels are all the same keeps its grey wherever the inside weight is above 0, and nothing is left over.
abbrev pub PlainKept : Type 0
PlainKept =
    (r : Recipe) (w h c i j : ℕ) → 0 < inside_weight r w h i j
    → (same_gray r (plain w h c) i j ≡ c) × (same_leftover r (plain w h c) i j ≡ pos 0)
