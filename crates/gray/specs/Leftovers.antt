-- Document 02, S-2: the leftovers that rounding leaves lie as `WithinHalf` says, over whatever its contract admits. The claim says that the
-- call is accepted, and that there are as many leftovers as sums. It is not empty: spec/proofs/Uneven.antt computes arguments to which no
-- check applies (`answers`), and leftovers of both signs (`rounded_leftovers`).
use Rattle.std.specs.Prelude.{◌≡◌, ℕ, ◌<◌, List, length, ℤ, pos, slice_index_or}
use Rattle.spec.specs.Recipe.{Recipe, gain}
use Rattle.spec.specs.Refusals.{first}
use Rattle.spec.specs.Ranges.{WithinHalf}
use Rattle.gray.specs.Rounded as Rounded
use Rattle.gray.specs.Rounded.{Rounded}

-- Of a call to which no check applies, each by the recipe's weight.
abbrev pub RoundedFit : Type 0
RoundedFit =
    (r : Recipe) (sums out : List ℕ) (left : List ℤ) (number : ℕ) (new_out : List ℕ) (new_left : List ℤ)
    → Rounded r sums out left number new_out new_left → first (Rounded.checks r sums out left) ≡ 0
    → (number ≡ 0) × (length new_left ≡ length sums) × ((k : ℕ) → k < length sums → WithinHalf (gain r) (slice_index_or new_left k (pos 0)))
