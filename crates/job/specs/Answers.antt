-- What reading a job answers, and what the length of a job stands for.
use Rattle.std.specs.Prelude.{List, ℕ, Result}
use Rattle.spec.specs.declared.refusal.Refusal.{Refusal}
use Rattle.spec.specs.Recipe.{held_filter}
use Rattle.spec.specs.Job.{job_recipe, job_width, job_height, job_offset}
use Rattle.spec.specs.Refusals.{Answer, answer, told, job_checks}
use Rattle.job.specs.declared.reading.Job.{Job}

-- what a file says
unfoldable pub job_told : List ℕ → Job
job_told bytes =
    record { filter = held_filter (job_recipe bytes); width = job_width bytes; height = job_height bytes; offset = job_offset bytes }

-- Reading answers the recipe, w, h and the offset at which the pixels begin; on a refusal the number of the first check that holds.
unfoldable pub job_read : List ℕ → Answer Job
job_read bytes = answer (job_checks bytes) (job_told bytes)

-- the length of a job
abbrev pub length_told : Result ℕ Refusal → Answer ℕ
length_told = told (λ n. n)
