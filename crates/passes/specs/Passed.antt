-- What the method pass by pass answers, and what the two lent slices then contain.
use Rattle.std.specs.Prelude.{List, ℕ, length}
use Rattle.spec.specs.Recipe.{Recipe}
use Rattle.spec.specs.Picture.{Picture, full}
use Rattle.spec.specs.Refusals.{Check, Written, full_size, pass_checks}

-- 1 to 8, for an output and work cells of these lengths
abbrev pub checks : Recipe → Picture → List ℕ → List ℕ → List Check
checks r p out cells = pass_checks r p (length out) (length cells)

-- all exact sums; as many work cells as the grown picture has places
abbrev pub Passed : Recipe → Picture → List ℕ → List ℕ → ℕ → List ℕ → List ℕ → Type 0
Passed r p out cells = Written (checks r p out cells) (full r p) (full_size r p) out cells
