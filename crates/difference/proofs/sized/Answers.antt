-- `difference::sized` meets its contract: by what `planned` tells, and then by the contract of `run`.
-- Assumes nothing.
use mathlib.Core.Path.{sym, subst, ◌∙◌}
use native.Mathlib.Omega.{arith}
use borrow.Author.Rules.{rules}
use lib.Seq.{length-take-le}
use Rattle.std.proofs.lemmas.Result.{err_from_is_err_and}
use Rattle.spec.specs.Picture.{pictured}
use Rattle.laws.proofs.Slices.{front_lent}
use Rattle.laws.proofs.Refusals.{written_not, written_all}
use Rattle.laws.proofs.Results.{number_not_zero}
use Rattle.difference.specs.Pairs.{BothAccepted}
use Rattle.difference.proofs.Planning.{first_moderate, second_moderate, plan_refused, plan_none, plan_accepted}
use Rattle.difference.proofs.sized.Goals as goal

pub planned-requires : goal.planned-requires
planned-requires c =
    let p = pictured c.args.image in
    let k = c.requires.0 in (
      first_moderate _ _ p 0 0 k c.requires.1 c.requires.2,
      second_moderate _ _ p 0 0 k c.requires.1 c.requires.2,
      omega (arith, k.weight, k.accepted.not_zero),
    )

pub returns-in_err-plan : goal.returns-in_err-plan
returns-in_err-plan c =
    let q = c.requires in
    let p = err_from_is_err_and c.from_residual.result c.from_residual.ensures.1 in
    rw (p.1, p.2)
    (written_not _ _ _ _ _ _ (plan_refused _ _ (pictured c.args.image) _ _ q.0 q.1 q.2 _ c.in_err-plan.ensures) (number_not_zero _))

pub slice_bounds-run-end : goal.slice_bounds-run-end
slice_bounds-run-end c =
    let q = c.requires in
    (plan_accepted _ _ (pictured c.args.image) _ _ q.0 q.1 q.2 _ c.in_ok-plan.ensures).enough

pub slice_bounds-run-end-2 : goal.slice_bounds-run-end-2
slice_bounds-run-end-2 c =
    let q = c.requires in
    sym (length-take-le _ c.args.cells.now (plan_accepted _ _ (pictured c.args.image) _ _ q.0 q.1 q.2 _ c.in_ok-plan.ensures).enough)

pub run-requires : goal.run-requires
run-requires c =
    let q = c.requires in
    let p = pictured c.args.image in
    let ok = plan_accepted c.args.a c.args.b p _ _ q.0 q.1 q.2 _ c.in_ok-plan.ensures in
    (subst (BothAccepted c.args.a c.args.b p c.in_ok-plan.plan.middle) (sym (length-take-le _ c.args.cells.now ok.enough)) ok.both, ok.size)

pub returns : goal.returns
returns c =
    let q = c.requires in
    let p = pictured c.args.image in
    let ok = plan_accepted c.args.a c.args.b p _ _ q.0 q.1 q.2 _ c.in_ok-plan.ensures in
    written_all _ _ _ _ _ (plan_none _ _ p _ _ q.0 q.1 q.2 _ c.in_ok-plan.ensures)
    _ _ c.run.ensures
    (front_lent _ _ ok.both.cells c.run.new.cells c.args.cells.now (c.run.auto.cells ∙ length-take-le _ c.args.cells.now ok.enough))
    (search rules)
