-- Document 02, S-2 and S-4: the leftovers that the same-size blur leaves lie as `WithinHalf` says, by the inside weight, over whatever its
-- contract admits. The claim says that the call is accepted, and that there are as many leftovers as picture places, of which there is one
-- at least. It is not empty: there is a call for every accepted recipe and picture (`BlurCalls` in Between.antt), and
-- spec/proofs/Uneven.antt computes leftovers of both signs (`blurred_leftovers`).
use Rattle.std.specs.Prelude.{◌≡◌, ℕ, ◌+◌, ◌*◌, ◌<◌, pos, length, get_or}
use Rattle.spec.specs.Recipe.{Recipe}
use Rattle.spec.specs.Picture.{Picture}
use Rattle.spec.specs.Gray.{place_weight}
use Rattle.spec.specs.Ranges.{WithinHalf}
use Rattle.blur.specs.Blurred.{BlurCall}

-- Of a call to which no check applies, each by the weight at its picture place.
abbrev pub BlurredFit : Type 0
BlurredFit =
    (r : Recipe) (p : Picture) (c : BlurCall r p)
    → (c.number ≡ 0) × (length c.new_left ≡ p.width * p.height)
    × ((i j : ℕ) → i < p.width → j < p.height → WithinHalf (place_weight r p i j) (get_or c.new_left (j * p.width + i) (pos 0)))
