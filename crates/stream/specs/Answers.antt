-- What the answer to a width stands for: the needed cells, or the number of a refusal.
use Rattle.std.specs.Prelude.{ℕ, Result}
use Rattle.spec.specs.declared.refusal.Refusal.{Refusal}
use Rattle.spec.specs.Refusals.{Answer, told}

abbrev pub cells_told : Result ℕ Refusal → Answer ℕ
cells_told = told (λ n. n)
