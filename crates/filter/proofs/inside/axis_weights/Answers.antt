-- `filter::inside::axis_weights` meets its contract: the checks of the list as a recipe of its own, 5, 7, and then the inside weights.
-- Assumes nothing.
use mathlib.Core.Path.{◌≡◌, sym, ◌∙◌}
use Prim.Native.Nat.{◌≤◌}
use native.Mathlib.Omega.{arith}
use lib.ListN.{length-take}
use Rattle.std.proofs.lemmas.Result.{err_from_is_err_and}
use Rattle.spec.specs.Recipe.{widths, order}
use Rattle.spec.specs.Refusals.{alone, number}
use Rattle.laws.proofs.Refusals.{good_side}
use Rattle.laws.proofs.Boxes.{length_widths}
use Rattle.filter.proofs.Filling.{list_known, list_weight}
use Rattle.filter.proofs.Axes.{axis_refused, axis_side, axis_other, axis_all}
use Rattle.filter.proofs.inside.axis_weights.Goals as goal

pub returns-in_err-m : goal.returns-in_err-m
returns-in_err-m c =
    let p = err_from_is_err_and c.from_residual.result c.from_residual.ensures.1 in
    rw (p.1, p.2) (axis_refused _ _ _ _ (rw c.alone.ensures at c.in_err-m.ensures))

pub returns-then-bad_side : goal.returns-then-bad_side
unfolding number
returns-then-bad_side c = axis_side _ _ _ _ (rw c.alone.ensures at c.in_ok-m.ensures) (sym c.bad_side.ensures ∙ c.if-bad_side.true)

pub returns-then-out-side : goal.returns-then-out-side
unfolding number
returns-then-out-side c =
    axis_other _ _ _ _ (rw c.alone.ensures at c.in_ok-m.ensures) (sym c.bad_side.ensures ∙ c.if-bad_side.false) c.if-out-side.true

pub overflow_add-count : goal.overflow_add-count
overflow_add-count c =
    let k = list_known _ c.args.out.now _ (rw c.alone.ensures at c.in_ok-m.ensures) in
    omega (arith, k.row_reach, k.accepted.row_reach)

pub slice_bounds-kernel-end : goal.slice_bounds-kernel-end
slice_bounds-kernel-end c =
    let k = list_known _ c.args.out.now _ (rw c.alone.ensures at c.in_ok-m.ensures) in
    omega (arith, k.row_reach, k.accepted.row_reach)

pub slice_bounds-axis_sums-end : goal.slice_bounds-axis_sums-end
slice_bounds-axis_sums-end c =
    let k = list_known _ c.args.out.now _ (rw c.alone.ensures at c.in_ok-m.ensures) in
    simp length-take (omega (arith, k.row_reach, k.accepted.row_reach))

pub axis_sums-requires : goal.axis_sums-requires
unfolding alone
axis_sums-requires c =
    let list = c.args.list in
    let m = rw c.alone.ensures at c.in_ok-m.ensures in
    let k = list_known _ c.args.out.now _ m in
    let weighs = list_weight _ c.args.out.now _ m in
    let side = good_side c.args.side (sym c.bad_side.ensures ∙ c.if-bad_side.false) in
    let long : order (widths list) ≤ 255 = k.accepted.row_reach in
    let reach : c.in_ok-m.m.row_order ≡ order (widths list) = k.row_reach in (
      omega (arith, length_widths list, k.accepted.rows_short),
      weighs.0,
      weighs.1,
      long,
      simp length-take (omega (arith, reach, long)),
      omega (arith, c.if-out-side.false, side),
    )

pub returns : goal.returns
returns c =
    axis_all _ _ _ _ (rw c.alone.ensures at c.in_ok-m.ensures) (sym c.bad_side.ensures ∙ c.if-bad_side.false) c.if-out-side.false _ c.axis_sums.ensures
