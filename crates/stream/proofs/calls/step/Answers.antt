-- `stream::calls::step` meets its contract: the stages, and one row more in the state.
-- Assumes nothing.
use Rattle.spec.specs.Words.{tab}
use Rattle.spec.specs.Recipe.{recipe, widths, weight, gain}
use Rattle.spec.specs.Picture.{full_width_of, full_height_of}
use Rattle.spec.specs.Stream.{stream_cells, row_cost, cascade_cost, cascade_cells}
use Rattle.laws.proofs.Refusals.{is_sized}
use Rattle.laws.proofs.Exact.{rows_pos, columns_pos}
use Rattle.laws.proofs.Boxes.{length_widths}
use Rattle.stream.specs.Stages.{entering, worked}
use Rattle.stream.specs.Calls.{state_of, called, next, steps}
use Rattle.stream.proofs.States.{ready_wide}
use Rattle.std.proofs.Common.{ℕ, ◌+◌, ◌*◌, ◌^◌, ◌≤◌, List, get_or, ap, ◌∙◌, le_trans, le_of_eq, le-mul_of_pos_right, arith}
use Rattle.stream.proofs.calls.step.Goals as goal

pub work-count-requires : goal.work-count-requires
unfolding state_of stream_cells recipe full_width_of gain
work-count-requires c =
    let f = c.args.state.filter in
    let k = c.requires.0 in
    let a = is_sized _ _ _ k.sizes in
    let w = ready_wide _ _ _ k in
    let light : weight (widths f.rows) ≤ 2 ^ 44 = le_trans (le-mul_of_pos_right (weight (widths f.rows)) (columns_pos (recipe f) a.0.not_zero)) a.0.light in (
      omega (arith, a.0.rows_short, length_widths f.rows),
      omega (arith, a.0.columns_short, length_widths f.columns),
      w.0,
      w.1,
      le_trans (le_of_eq (ap (λ n. cascade_cells (widths f.rows) + n * cascade_cells (widths f.columns)) k.output)) k.enough,
      rows_pos (recipe f) a.0.not_zero,
      light,
      omega (arith, c.requires.1, k.output),
    )

pub overflow_add-state : goal.overflow_add-state
unfolding state_of full_height_of
overflow_add-state c =
    let k = c.requires.0 in
    let a = is_sized _ _ _ k.sizes in
    record { fits = omega (arith, k.due, a.0.column_reach, a.1.height) }

pub returns : goal.returns
unfolding state_of called steps next row_cost recipe entering
returns c =
    let s = c.args.state in
    let k = c.requires.0 in
    let done = c.work-count.ensures in
    let made : ℕ → List ℕ × List ℕ = λ n. let w = worked (recipe s.filter) s.emitted (tab n (λ i. get_or c.args.pixels.now i 0)) c.args.cells.now in (w.row, w.cells) in
    let count = done.0 ∙ ap (λ n. n * (cascade_cost (widths s.filter.rows) + cascade_cost (widths s.filter.columns))) k.output in
    let out = done.1 ∙ ap (λ n. (made n).0) k.output in
    let cells = done.2 ∙ ap (λ n. (made n).1) k.output in
    λ i. record { number = 0; state = c.state_at.ensures i; count = count i; out = out i; cells = cells i }
