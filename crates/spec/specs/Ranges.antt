-- What documents 01 and 02 say of how large their numbers are, as claims about the definitions.
use Rattle.std.specs.Prelude.{◌≡◌, ℕ, ◌-◌, ◌/◌, ◌^◌, ◌≤◌, ◌<◌, ℤ, pos, neg_ℤ, nat_abs, ◌≤ℤ◌}
use Rattle.spec.specs.Recipe.{Recipe}
use Rattle.spec.specs.Picture.{Picture, largest_gray, Within, exact}
use Rattle.spec.specs.Gray.{leftover, place_weight, same_leftover, difference}
use Rattle.spec.specs.Refusals.{first, picture_checks}

-- "Sums fit 52 bits", for every accepted recipe and picture, at every place.
abbrev pub SumsFit : Type 0
SumsFit = (r : Recipe) (p : Picture) → first (picture_checks r p) ≡ 0 → Within largest_gray p → (i j : ℕ) → exact r p i j < 2 ^ 52

-- A difference is "-255 to 255", for every two recipes and a picture that are accepted, at every place.
abbrev pub DifferencesFit : Type 0
DifferencesFit =
    (a b : Recipe) (p : Picture) → first (picture_checks a p) ≡ 0 → first (picture_checks b p) ≡ 0 → Within largest_gray p
    → (i j : ℕ) → nat_abs (difference a b p i j) ≤ largest_gray

-- S-2, a leftover: from "minus half the weight, rounded downwards in size, to weight - 1 - half the weight rounded downwards".
abbrev pub WithinHalf : ℕ → ℤ → Type 0
WithinHalf weight z = (neg_ℤ (pos (weight / 2)) ≤ℤ z) × (z ≤ℤ pos (weight - 1 - weight / 2))

-- It lies so for every weight above 0 and every sum,
abbrev pub LeftoversFit : Type 0
LeftoversFit = (weight s : ℕ) → 0 < weight → WithinHalf weight (leftover weight s)

-- and by the weight there at every picture place of an accepted recipe and picture.
abbrev pub SameLeftoversFit : Type 0
SameLeftoversFit =
    (r : Recipe) (p : Picture) → first (picture_checks r p) ≡ 0 → (i j : ℕ) → i < p.width → j < p.height
    → WithinHalf (place_weight r p i j) (same_leftover r p i j)
