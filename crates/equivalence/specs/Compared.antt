-- What the comparing call answers.
use Rattle.std.specs.Prelude.{◌≡◌, Bool, Result}
use Rattle.spec.specs.declared.refusal.Refusal.{Refusal}
use Rattle.spec.specs.declared.Filter.{Filter}
use Rattle.spec.specs.Recipe.{recipe}
use Rattle.spec.specs.Same.{equivalent}
use Rattle.spec.specs.Refusals.{Answer, answer, told, compare_checks}

-- yes or no, or the number of a refusal
abbrev pub comparison_told : Result Bool Refusal → Answer Bool
comparison_told = told (λ b. b)

-- The answer to two recipes: the first's 1 to 4, the second's 1 to 4, and whether they are equal.
abbrev pub Compared : Filter → Filter → Result Bool Refusal → Type 0
Compared a b told = comparison_told told ≡ answer (compare_checks (recipe a) (recipe b)) (equivalent (recipe a) (recipe b))
