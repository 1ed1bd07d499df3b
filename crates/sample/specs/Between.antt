-- Document 02, S-5: the grey of a reading lies between the least and the greatest pixel, and rises with the pixels, over whatever the
-- contract admits as the answer where the grey is chosen and no check applies. The claims are not empty: spec/proofs/Uneven.antt computes a
-- place to which no check applies (`answers`), and its greys in a picture (`between`) and in that with two pixels raised (`blurred`).
use Rattle.std.specs.Prelude.{◌≡◌, ℕ, ◌≤◌, ℤ, Result, Ok}
use Rattle.spec.specs.declared.refusal.Refusal.{Refusal}
use Rattle.spec.specs.Recipe.{Recipe}
use Rattle.spec.specs.Picture.{Picture}
use Rattle.spec.specs.Between.{Between, Raised}
use Rattle.sample.specs.declared.Sample.{Sample}
use Rattle.sample.specs.declared.Sample.TheVariants as sample
use Rattle.sample.specs.Sampled.{GrayRead}

-- The answer is a grey, with its leftover, that lies so.
abbrev pub ReadingBetween : Type 0
ReadingBetween =
    (r : Recipe) (p : Picture) (i j : ℕ) (x : Result Sample Refusal) → GrayRead r p i j x
    → (g : ℕ) × (l : ℤ) × (x ≡ Ok (sample.Gray g l)) × Between p g

-- Raising any pixels of the picture does not lower it.
abbrev pub ReadingRises : Type 0
ReadingRises =
    (r : Recipe) (p q : Picture) → Raised p q → (i j : ℕ) (x y : Result Sample Refusal) → GrayRead r p i j x → GrayRead r q i j y
    → (g h : ℕ) × (l m : ℤ) × (x ≡ Ok (sample.Gray g l)) × (y ≡ Ok (sample.Gray h m)) × (g ≤ h)
