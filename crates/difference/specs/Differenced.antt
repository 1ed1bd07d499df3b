-- What the difference answers, and what the lent slices then contain.
use Rattle.std.specs.Prelude.{List, ℕ, ◌+◌, ◌*◌, ℤ, length}
use Rattle.spec.specs.Recipe.{Recipe}
use Rattle.spec.specs.Picture.{Picture}
use Rattle.spec.specs.Gray.{places, difference}
use Rattle.spec.specs.Refusals.{Written, full_size, difference_checks}

-- Difference: A's 1 to 4, B's 1 to 4, then 5, 6, 7, 8, 12, 13; the difference at each picture place; twice both grown sizes together.
abbrev pub Differenced : Recipe → Recipe → Picture → List ℤ → List ℕ → ℕ → List ℤ → List ℕ → Type 0
Differenced a b p out cells =
    Written (difference_checks a b p (length out) (length cells)) (places p (difference a b p)) (2 * (full_size a p + full_size b p)) out cells
