-- `job_c::bore_read_job` meets its contract: the answer of `job::read`, in its blocks.
-- Assumes nothing.
use mathlib.Core.Path.{◌≡◌, sym, ap, ◌∙◌}
use Rattle.job.specs.declared.reading.Job.{Job}
use Rattle.job.specs.Answers.{job_read as answered, job_told}
use Rattle.spec.specs.Refusals.{first, job_checks}
use Rattle.laws.proofs.Refusals.{lent_refused, lent_accepted}
use Rattle.laws.proofs.Results.{number_not_zero, err_told, ok_told}
use Rattle.job_c.specs.Jobs.{JobRead, given_job, accepted_job, no_job, job_read}
use Rattle.job_c.proofs.bore_read_job.Goals as goal

pub returns-in-Ok : goal.returns-in-Ok
unfolding given_job job_read answered
returns-in-Ok c =
    let bytes = c.args.bytes.now in
    let j = c.in-Ok.read in
    let is = ok_told (λ (j : Job). j) (job_checks bytes) (job_told bytes) j c.in-Ok.ensures in
    let given : ◌≡◌ {A = JobRead} _ (accepted_job j) =
    λ i. record { refusal = 0; filter = c.put_filter.ensures.1 i; width = j.width; height = j.height; offset = j.offset } in
    given ∙ ap accepted_job is.1 ∙ sym (lent_accepted (job_checks bytes) (accepted_job (job_told bytes)) (no_job (first (job_checks bytes))) is.0)

pub returns-in-Err : goal.returns-in-Err
unfolding given_job job_read answered
returns-in-Err c =
    let bytes = c.args.bytes.now in
    let e = c.in-Err.refusal in
    let is = err_told (λ (j : Job). j) (job_checks bytes) (job_told bytes) e c.in-Err.ensures in
    let number = c.number.ensures ∙ sym is in
    let filter = c.put_filter-in-Err.ensures.1 ∙ c.no_filter.ensures in
    let given : ◌≡◌ {A = JobRead} _ (no_job (first (job_checks bytes))) =
    λ i. record { refusal = number i; filter = filter i; width = 0; height = 0; offset = 0 } in
    given ∙ sym (lent_refused (job_checks bytes) (accepted_job (job_told bytes)) (no_job (first (job_checks bytes))) _ is (number_not_zero e))
