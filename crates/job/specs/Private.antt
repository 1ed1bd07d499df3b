-- Words for the contracts of private functions; no exported contract uses them.
use Rattle.std.specs.Prelude.{◌≡◌, List, [], ◌∷◌, ◌++◌, ℕ, ◌+◌, ◌≤◌, length, get_or, take, drop}
use Rattle.spec.specs.Job.{job_recipe, job_width, job_height}
use Rattle.spec.specs.Refusals.{Check, check, Answer, answer, other_total, size_checks}
use Rattle.job.specs.declared.reading.Job.{Job}
use Rattle.job.specs.Answers.{job_told}

-- a file with these counts whose lists and sides are all there
pub record Whole (bytes : List ℕ) (rows columns : ℕ) : Type 0 where
  pub row_count : rows ≡ get_or bytes 5 0
  pub column_count : columns ≡ get_or bytes 6 0
  pub rows_short : rows ≤ 48
  pub columns_short : columns ≤ 48
  pub long : 11 + rows + columns ≤ length bytes

-- the checks that are left for such a file: 2 to 5, then 14 for another total length
unfoldable pub rest_checks : List ℕ → List Check
rest_checks bytes = size_checks (job_recipe bytes) (job_width bytes) (job_height bytes) ++ check (other_total bytes) 14 ∷ []

-- what reading it answers
unfoldable pub rest_read : List ℕ → Answer Job
rest_read bytes = answer (rest_checks bytes) (job_told bytes)

-- a slice into which bytes were written at a place, and the place after them
pub record Appended (xs : List ℕ) (at : ℕ) (old : List ℕ) (next : ℕ) (new : List ℕ) : Type 0 where
  pub place : next ≡ at + length xs
  pub is : new ≡ take at old ++ (xs ++ drop (at + length xs) old)
