-- What filling in the coefficients of a list answers, and what the lent slice then contains.
use Rattle.std.specs.Prelude.{◌≡◌, List, ℕ, length}
use Rattle.spec.specs.Recipe.{kernel}
use Rattle.spec.specs.Refusals.{first, lent, kernel_checks}

pub record KernelFilled (ns old : List ℕ) (number : ℕ) (new : List ℕ) : Type 0 where
  -- 0, or the number of the first check that holds
  pub answer : number ≡ first (kernel_checks ns (length old))
  -- the coefficients, or on a refusal what the slice held
  pub slice : new ≡ lent (kernel_checks ns (length old)) (kernel ns) old
