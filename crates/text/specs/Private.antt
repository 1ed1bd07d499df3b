-- Words for the contracts of private functions; no exported contract uses them.
use mathlib.Core.List.{List, [], ◌∷◌, flatten}
use Rattle.std.specs.Prelude.{ℕ, ◌+◌, ◌-◌, ◌/◌, ◌%◌, ◌^◌, ◌≤◌, ◌<◌}
use Rattle.spec.specs.Words.{tab}

-- a number has r decimal digits: it is below 10 ^ r, and from the second digit on it reaches the power before
pub record Counted (n r : ℕ) : Type 0 where
  pub some : 0 < r
  pub below : n < 10 ^ r
  pub reached : 1 < r → 10 ^ (r - 1) ≤ n

-- the bytes of 00, 01, .., 99 in decimal
unfoldable pub digit_pairs : List ℕ
digit_pairs = flatten (tab 100 (λ p. (48 + p / 10) ∷ (48 + p % 10) ∷ []))
