-- What writing a job answers, and what the lent slice then contains.
use Rattle.std.specs.Prelude.{◌≡◌, List, ℕ, length}
use Rattle.spec.specs.Recipe.{Recipe}
use Rattle.spec.specs.Picture.{Picture}
use Rattle.spec.specs.Job.{job_bytes}
use Rattle.spec.specs.Refusals.{first, lent, write_checks}

pub record JobWritten (r : Recipe) (p : Picture) (out : List ℕ) (number : ℕ) (new_out : List ℕ) : Type 0 where
  -- 0, or the number of the first check that holds
  pub answer : number ≡ first (write_checks r p (length out))
  -- the bytes of the job, or on a refusal what the slice held
  pub bytes : new_out ≡ lent (write_checks r p (length out)) (job_bytes r p) out
