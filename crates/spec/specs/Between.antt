-- Document 02, S-5, "No mark out of nowhere": what is claimed of the greys of the same-size blur, as they are defined. No largest grey is
-- named. blur/specs/Between.antt and sample/specs/Between.antt claim the same of what calls leave.
-- None of the claims is empty: spec/proofs/Uneven.antt computes that a picture and one with two of its pixels raised are accepted
-- (`answers`), the greys of both (`between`, `blurred`), and the least and the greatest pixel.
use Rattle.std.specs.Prelude.{◌≡◌, ℕ, ◌*◌, ◌≤◌, ◌<◌, length, get_or}
use Rattle.spec.specs.Words.{least, greatest}
use Rattle.spec.specs.Recipe.{Recipe}
use Rattle.spec.specs.Picture.{Picture, pixel}
use Rattle.spec.specs.Gray.{place_weight, same_gray}
use Rattle.spec.specs.Refusals.{first, picture_checks}

-- a grey that is a pixel of a picture, and one between its least and its greatest pixel
abbrev pub IsPixel : Picture → ℕ → Type 0
IsPixel p g = (k : ℕ) × (k < length p.pixels) × (get_or p.pixels k 0 ≡ g)

abbrev pub Between : Picture → ℕ → Type 0
Between p g = (least p.pixels ≤ g) × (g ≤ greatest p.pixels)

-- The least and the greatest pixel of an accepted picture are themselves pixels, and every pixel lies between them.
abbrev pub EndsArePixels : Type 0
EndsArePixels =
    (r : Recipe) (p : Picture) → first (picture_checks r p) ≡ 0
    → IsPixel p (least p.pixels) × IsPixel p (greatest p.pixels) × ((g : ℕ) → IsPixel p g → Between p g)

-- "Each grey of the same-size blur lies between the least and the greatest pixel": wherever the inside weight is above 0, whatever the
-- recipe, and for every picture of as many pixels as its sides say,
abbrev pub GraysBetween : Type 0
GraysBetween =
    (r : Recipe) (p : Picture) → length p.pixels ≡ p.width * p.height → (i j : ℕ) → 0 < place_weight r p i j → Between p (same_gray r p i j)

-- and so "for every accepted recipe and picture" at every picture place, where the inside weight is above 0 (`InsideFits`).
abbrev pub SameGraysBetween : Type 0
SameGraysBetween =
    (r : Recipe) (p : Picture) → first (picture_checks r p) ≡ 0 → (i j : ℕ) → i < p.width → j < p.height → Between p (same_gray r p i j)

-- the second picture is the first with any pixels raised: of the same sides, with no pixel lower and any number of them higher
pub record Raised (p q : Picture) : Type 0 where
  pub width : p.width ≡ q.width
  pub height : p.height ≡ q.height
  pub pixels : (i j : ℕ) → i < p.width → j < p.height → pixel p i j ≤ pixel q i j

-- "Raising any pixels lowers no grey": whatever the recipe, accepted or not, and at every place. The sides are the same, and so is the inside
-- weight; where that is 0, both greys are 0.
abbrev pub GraysRise : Type 0
GraysRise = (r : Recipe) (p q : Picture) → Raised p q → (i j : ℕ) → same_gray r p i j ≤ same_gray r q i j
