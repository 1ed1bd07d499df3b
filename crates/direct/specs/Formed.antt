-- What forming all exact sums answers, and what the lent slices then contain.
use Rattle.std.specs.Prelude.{◌≡◌, List, ℕ, length}
use Rattle.spec.specs.Recipe.{Recipe, kernel}
use Rattle.spec.specs.Picture.{Picture, full}
use Rattle.spec.specs.Refusals.{Check, first, lent, direct_checks}

-- the checks of a call that lends these slices for R, for C and for the sums
abbrev pub checks : Recipe → Picture → List ℕ → List ℕ → List ℕ → List Check
checks r p rows columns out = direct_checks r p (length rows) (length columns) (length out)

pub record Formed (r : Recipe) (p : Picture) (rows columns out : List ℕ) (number : ℕ) (new_rows new_columns new_out : List ℕ) : Type 0 where
  -- 0, or the number of the first check that holds
  pub answer : number ≡ first (checks r p rows columns out)
  -- R, C and all exact sums, or on a refusal what the slices held
  pub row_slice : new_rows ≡ lent (checks r p rows columns out) (kernel r.rows) rows
  pub column_slice : new_columns ≡ lent (checks r p rows columns out) (kernel r.columns) columns
  pub out_slice : new_out ≡ lent (checks r p rows columns out) (full r p) out
