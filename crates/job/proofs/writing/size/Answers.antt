-- `job::writing::size` meets its contract: the answer of `filter::full_size`, case by case.
-- Assumes nothing.
use mathlib.Core.Path.{◌≡◌}
use Prim.Native.Nat.{ℕ, ◌+◌, ◌*◌}
use native.Mathlib.Omega.{arith}
use Rattle.std.proofs.lemmas.Result.{err_from_is_err_and}
use Rattle.spec.specs.Recipe.{recipe}
use Rattle.spec.specs.Job.{job_length}
use Rattle.laws.proofs.Refusals.{is_sized}
use Rattle.laws.proofs.Results.{told_err, told_ok, err_told, ok_told}
use Rattle.filter.specs.Answers.{sides}
use Rattle.job.proofs.Answering.{area, length_by_counts}
use Rattle.job.proofs.writing.size.Goals as goal

pub returns-in_err-full_size : goal.returns-in_err-full_size
returns-in_err-full_size c =
    let p = err_from_is_err_and c.from_residual.result c.from_residual.ensures.1 in
    rw (p.1, p.2) (told_err (λ (n : ℕ). n) _ _ _ (err_told sides _ _ _ c.in_err-full_size.ensures))

pub overflow_mul-result : goal.overflow_mul-result
overflow_mul-result c = omega (arith, area _ _ (is_sized _ _ _ (ok_told sides _ _ _ c.in_ok-full_size.ensures).0).1)

pub overflow_add-result-2 : goal.overflow_add-result-2
overflow_add-result-2 c = omega (arith, area _ _ (is_sized _ _ _ (ok_told sides _ _ _ c.in_ok-full_size.ensures).0).1)

pub returns : goal.returns
returns c =
    let a = c.args in
    let size : 11 + (c.from.result + c.from-2.result) + a.width * a.height ≡ job_length (recipe a.filter) a.width a.height =
    omega (arith, length_by_counts a.filter a.width a.height) in
    told_ok (λ (n : ℕ). n) _ _ _ (ok_told sides _ _ _ c.in_ok-full_size.ensures).0 size
