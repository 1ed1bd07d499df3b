-- `job::reading::rest` meets its contract: the lists and the sides are those of the file, then the answer of `filter::full_size`, case by
-- case, and the total length.
-- Assumes nothing.
use mathlib.Core.Path.{◌≡◌, sym, ap, ◌∙◌}
use native.Mathlib.Omega.{arith}
use Rattle.std.proofs.lemmas.Result.{err_from_is_err_and}
use Rattle.spec.specs.Refusals.{accepted}
use Rattle.job.specs.declared.reading.Job.{Job}
use Rattle.job.specs.Answers.{job_told}
use Rattle.job.proofs.Answering.{rest_sides, rest_total, rest_all}
use Rattle.job.proofs.Finding.{found, sides_refused, sides_accepted, small, stated}
use Rattle.job.proofs.reading.rest.Goals as goal

pub returns-in_err-full_size : goal.returns-in_err-full_size
returns-in_err-full_size c =
    let p = err_from_is_err_and c.from_residual.result c.from_residual.ensures.1 in
    let k = found c.requires c.from-columns_at.ensures c.from.ensures c.cascade_at.ensures c.cascade_at-2.ensures c.read16-width.ensures.0 c.read16-height.ensures.0 in
    rw (p.1, p.2) (rest_sides _ _ (sides_refused k _ c.in_err-full_size.ensures))

pub overflow_mul-width : goal.overflow_mul-width
overflow_mul-width c =
    let k = found c.requires c.from-columns_at.ensures c.from.ensures c.cascade_at.ensures c.cascade_at-2.ensures c.read16-width.ensures.0 c.read16-height.ensures.0 in
    omega (arith, small k _ c.in_ok-full_size.ensures)

pub returns-then-bytes-offset : goal.returns-then-bytes-offset
returns-then-bytes-offset c =
    let k = found c.requires c.from-columns_at.ensures c.from.ensures c.cascade_at.ensures c.cascade_at-2.ensures c.read16-width.ensures.0 c.read16-height.ensures.0 in
    rest_total _ (sides_accepted k _ c.in_ok-full_size.ensures) (λ e. c.if-bytes-offset.true (e ∙ sym (stated k)))

pub returns : goal.returns
unfolding job_told
returns c =
    let k = found c.requires c.from-columns_at.ensures c.from.ensures c.cascade_at.ensures c.cascade_at-2.ensures c.read16-width.ensures.0 c.read16-height.ensures.0 in
    let is : ◌≡◌ {A = Job} _ (job_told c.args.bytes.now) = λ i. record { filter = k.filter i; width = k.width i; height = k.height i; offset = k.place i } in
    ap (λ (j : Job). accepted j) is ∙ rest_all _ (sides_accepted k _ c.in_ok-full_size.ensures) (c.if-bytes-offset.false ∙ stated k)
