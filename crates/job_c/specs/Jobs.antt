-- The job that was read for a C caller.
use Rattle.std.specs.Prelude.{List, ℕ, get_or}
use Rattle.spec.specs.declared.Filter.{Filter}
use Rattle.spec.specs.Recipe.{no_filter}
use Rattle.spec.specs.Refusals.{first, lent, job_checks}
use Rattle.job.specs.declared.reading.Job.{Job}
use Rattle.job.specs.Answers.{job_told}
use Rattle.blocks.specs.Given.{given}

-- what a C caller gets of a job: the number, 0 where it is accepted, the recipe, the sides, and the offset at which the pixels begin
pub record JobRead : Type 0 where
  pub refusal : ℕ
  pub filter : Filter
  pub width : ℕ
  pub height : ℕ
  pub offset : ℕ

-- the number, a recipe's block, and the words: width, height, offset of the pixels
unfoldable pub given_job : ℕ → List ℕ → List ℕ → JobRead
given_job number block words =
    record { refusal = number; filter = given block; width = get_or words 0 0; height = get_or words 1 0; offset = get_or words 2 0 }

-- a refused job: its number, and all else zero
abbrev pub no_job : ℕ → JobRead
no_job n = record { refusal = n; filter = no_filter; width = 0; height = 0; offset = 0 }

-- an accepted one: the number 0, and what the file says
abbrev pub accepted_job : Job → JobRead
accepted_job j = record { refusal = 0; filter = j.filter; width = j.width; height = j.height; offset = j.offset }

-- Reading returns the recipe, w, h and the offset at which the pixels begin; on a refusal the number of the first check that holds.
unfoldable pub job_read : List ℕ → JobRead
job_read bytes = lent (job_checks bytes) (accepted_job (job_told bytes)) (no_job (first (job_checks bytes)))
