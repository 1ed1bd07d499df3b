-- `stream::calls::check_row` meets its contract: the checks in their order.
-- Assumes nothing.
use Rattle.std.proofs.Common.{[], ◌∷◌, ap, sym, ◌∙◌, ap₂, le-leb}
use borrow.Author.Tests.{lt-leb}
use Rattle.std.proofs.lemmas.Result.{err_from_is_err_and}
use Rattle.spec.specs.Refusals.{check, first, number, row_checks, row_not_due, other_output, too_few_cells}
use Rattle.laws.proofs.Refusals.{as_stated, not_stated}
use Rattle.stream.specs.Calls.{state_of}
use Rattle.stream.specs.declared.sizes.Sizes.{Sizes}
use Rattle.stream.proofs.States.{gauged_front, gauged_then, gauged_sizes, first_holds, first_passed}
use Rattle.stream.proofs.calls.check_row.Goals as goal

pub returns-in_err-sizes : goal.returns-in_err-sizes
unfolding row_checks
returns-in_err-sizes c =
    let p = err_from_is_err_and c.from_residual.result c.from_residual.ensures.1 in
    rw (p.1, p.2) (gauged_front (state_of c.args.state) _ c.in_err-sizes.ensures _)

pub returns-then-state : goal.returns-then-state
unfolding row_checks row_not_due state_of number
returns-then-state c =
    sym (gauged_then (state_of c.args.state) _ c.in_ok-sizes.ensures _ ∙ first_holds _ 10 _ (le-leb _ _ c.if-state.true))

pub returns-then-pixels-state : goal.returns-then-pixels-state
unfolding row_checks row_not_due state_of number
returns-then-pixels-state c =
    sym (gauged_then (state_of c.args.state) _ c.in_ok-sizes.ensures _ ∙ first_passed _ 10 _ (lt-leb _ _ c.if-state.false) ∙ first_holds _ 6 _ (not_stated _ _ c.if-pixels-state.true))

pub returns : goal.returns
unfolding row_checks row_not_due state_of
returns c =
    let a = c.args in
    let t = gauged_sizes (state_of a.state) _ c.in_ok-sizes.ensures in
    c.check_buffers.ensures
    ∙ ap₂ (λ w n. first (check (other_output a.out w) 7 ∷ check (too_few_cells a.cells n) 8 ∷ [])) (ap (λ (x : Sizes). x.width) t) (ap (λ (x : Sizes). x.cells) t)
    ∙ sym (gauged_then (state_of a.state) _ c.in_ok-sizes.ensures _ ∙ first_passed _ 10 _ (lt-leb _ _ c.if-state.false) ∙ first_passed _ 6 _ (as_stated _ _ c.if-pixels-state.false))
