-- What filling in the inside weights of a list along one axis answers, and what the lent slice then contains.
use Rattle.std.specs.Prelude.{◌≡◌, List, [], ◌∷◌, ◌++◌, ℕ, length}
use Rattle.spec.specs.Words.{tab}
use Rattle.spec.specs.Gray.{inside_weight}
use Rattle.spec.specs.Refusals.{Check, check, first, lent, other_output, alone, cell_checks}

-- 1 to 5, for the list as a recipe of its own and a line of that length; then 7
unfoldable pub axis_checks : List ℕ → ℕ → ℕ → List Check
axis_checks ns side out = cell_checks (alone ns) side ++ check (other_output out side) 7 ∷ []

-- the inside weights of a list along a line of n places: as a recipe of its own, on one row
abbrev pub axis_weights : List ℕ → ℕ → List ℕ
axis_weights ns n = tab n (λ k. inside_weight (alone ns) n 1 k 0)

pub record AxisFilled (ns : List ℕ) (side : ℕ) (old : List ℕ) (number : ℕ) (new : List ℕ) : Type 0 where
  -- 0, or the number of the first check that holds
  pub answer : number ≡ first (axis_checks ns side (length old))
  -- the inside weights, or on a refusal what the slice held
  pub slice : new ≡ lent (axis_checks ns side (length old)) (axis_weights ns side) old
