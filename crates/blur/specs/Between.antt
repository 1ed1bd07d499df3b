-- Document 02, S-5: the greys that the same-size blur leaves lie between the least and the greatest pixel, and rise with the pixels, over
-- whatever its contract admits. The claims say that the calls are accepted, and that there are as many greys as picture places, of which
-- there is one at least. They are not empty: there is a call for every accepted recipe and picture, as the first of them says, and
-- spec/proofs/Uneven.antt computes two such pictures of which the second is the first with two pixels raised.
use Rattle.std.specs.Prelude.{◌≡◌, ℕ, ◌*◌, ◌≤◌, ◌<◌, length, get_or}
use Rattle.spec.specs.Recipe.{Recipe}
use Rattle.spec.specs.Picture.{Picture}
use Rattle.spec.specs.Refusals.{first, picture_checks}
use Rattle.spec.specs.Between.{Between, Raised}
use Rattle.blur.specs.Blurred.{BlurCall}

-- For every accepted recipe and picture there is a call to which no check applies.
abbrev pub BlurCalls : Type 0
BlurCalls = (r : Recipe) (p : Picture) → first (picture_checks r p) ≡ 0 → BlurCall r p

-- one that is accepted, and leaves a grey for each picture place
abbrev pub Whole : (r : Recipe) (p : Picture) → BlurCall r p → Type 0
Whole r p c = (c.number ≡ 0) × (length c.new_out ≡ p.width * p.height)

-- Each grey that is left lies between the least and the greatest pixel.
abbrev pub BlurredBetween : Type 0
BlurredBetween =
    (r : Recipe) (p : Picture) (c : BlurCall r p) → Whole r p c × ((k : ℕ) → k < length c.new_out → Between p (get_or c.new_out k 0))

-- Raising any pixels of the picture lowers none of them.
abbrev pub BlurredRise : Type 0
BlurredRise =
    (r : Recipe) (p q : Picture) → Raised p q → (a : BlurCall r p) (b : BlurCall r q)
    → Whole r p a × Whole r q b × ((k : ℕ) → k < length a.new_out → get_or a.new_out k 0 ≤ get_or b.new_out k 0)
