-- `filter::coefficients::kernel` meets its contract: the checks of the list as a recipe of its own, then 7, then the coefficients.
-- Assumes nothing.
use native.Mathlib.Omega.{arith}
use Rattle.std.proofs.lemmas.Result.{err_from_is_err_and}
use Rattle.spec.specs.Refusals.{alone, number}
use Rattle.laws.proofs.Boxes.{length_widths}
use Rattle.filter.proofs.Filling.{list_known, list_weight, filled_refused, filled_other, filled_all}
use Rattle.filter.proofs.coefficients.kernel.Goals as goal

pub returns-in_err-m : goal.returns-in_err-m
returns-in_err-m c =
    let p = err_from_is_err_and c.from_residual.result c.from_residual.ensures.1 in
    rw (p.1, p.2) (filled_refused _ _ _ (rw c.alone.ensures at c.in_err-m.ensures))

pub overflow_add-m : goal.overflow_add-m
overflow_add-m c =
    let k = list_known _ c.args.out.now _ (rw c.alone.ensures at c.in_ok-m.ensures) in
    omega (arith, k.row_reach, k.accepted.row_reach)

pub returns-then-out-m : goal.returns-then-out-m
unfolding number
returns-then-out-m c = filled_other _ _ _ (rw c.alone.ensures at c.in_ok-m.ensures) c.if-out-m.true

pub convolve-requires : goal.convolve-requires
unfolding alone
convolve-requires c =
    let list = c.args.list in
    let out = c.args.out.now in
    let m = rw c.alone.ensures at c.in_ok-m.ensures in
    let w = list_weight _ out _ m in
    (omega (arith, length_widths list, (list_known _ out _ m).accepted.rows_short), w.0, w.1)

pub returns : goal.returns
returns c = filled_all _ _ _ (rw c.alone.ensures at c.in_ok-m.ensures) _ c.if-out-m.false c.convolve.ensures
