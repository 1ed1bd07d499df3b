-- Document 02, S-2: the leftover that a reading shows beside its grey lies as `WithinHalf` says, by the weight at the place.
use Rattle.std.specs.Prelude.{◌≡◌, ℕ, ℤ, Result, Ok}
use Rattle.spec.specs.declared.refusal.Refusal.{Refusal}
use Rattle.spec.specs.Recipe.{Recipe}
use Rattle.spec.specs.Picture.{Picture}
use Rattle.spec.specs.Gray.{place_weight}
use Rattle.spec.specs.Ranges.{WithinHalf}
use Rattle.sample.specs.declared.Sample.{Sample}
use Rattle.sample.specs.declared.Sample.TheVariants as sample
use Rattle.sample.specs.Sampled.{GrayRead}

-- Whatever the contract admits as the answer where the grey is chosen and no check applies is a grey and such a leftover. It is not empty:
-- spec/proofs/Uneven.antt computes a place to which no check applies (`answers`), and a reading with a leftover of -2 (`readings`).
abbrev pub ReadingFits : Type 0
ReadingFits =
    (r : Recipe) (p : Picture) (i j : ℕ) (x : Result Sample Refusal) → GrayRead r p i j x
    → (g : ℕ) × (l : ℤ) × (x ≡ Ok (sample.Gray g l)) × WithinHalf (place_weight r p i j) l
