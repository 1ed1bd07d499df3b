-- What rounding a row of sums answers, by a divisor and by a recipe, and what the lent slices then contain.
use Rattle.std.specs.Prelude.{◌≡◌, ℕ, ◌||◌, List, [], ◌∷◌, map, length, ℤ}
use Rattle.spec.specs.Recipe.{Recipe, gain}
use Rattle.spec.specs.Gray.{grays, leftovers}
use Rattle.spec.specs.Refusals.{Check, check, first, lent, other_output, round_checks}
use Rattle.gray.specs.declared.rounding.Divisor.{Divisor}
use Rattle.gray.specs.Division.{shade_gray, shade_leftover}

-- by a divisor: 7 alone
abbrev pub length_checks : List ℕ → List ℕ → List ℤ → List Check
length_checks sums out left = check (other_output (length out) (length sums) || other_output (length left) (length sums)) 7 ∷ []

pub record Shaded (by : Divisor) (sums out : List ℕ) (left : List ℤ) (number : ℕ) (new_out : List ℕ) (new_left : List ℤ) : Type 0 where
  -- 0, or 7
  pub answer : number ≡ first (length_checks sums out left)
  -- what is made of each sum, or on a refusal what the slices held
  pub grays : new_out ≡ lent (length_checks sums out left) (map (shade_gray by) sums) out
  pub leftovers : new_left ≡ lent (length_checks sums out left) (map (shade_leftover by) sums) left

-- by a recipe: the checks of a call that lends these slices for greys and for leftovers
abbrev pub checks : Recipe → List ℕ → List ℕ → List ℤ → List Check
checks r sums out left = round_checks r sums (length out) (length left)

pub record Rounded (r : Recipe) (sums out : List ℕ) (left : List ℤ) (number : ℕ) (new_out : List ℕ) (new_left : List ℤ) : Type 0 where
  -- 0, or the number of the first check that holds
  pub answer : number ≡ first (checks r sums out left)
  -- the greys and their leftovers, or on a refusal what the slices held
  pub grays : new_out ≡ lent (checks r sums out left) (grays (gain r) sums) out
  pub leftovers : new_left ≡ lent (checks r sums out left) (leftovers (gain r) sums) left
