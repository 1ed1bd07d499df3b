-- What `search` does not find of `calls::check_buffers`.
use Rattle.std.proofs.Common.{lt-ltb, eq-eqb, ne_eqb}
use Rattle.spec.specs.Refusals.{check, first, other_output, too_few_cells, number}
use Rattle.stream.proofs.calls.check_buffers.Goals as goal

pub returns-then-out-sizes : goal.returns-then-out-sizes
unfolding first check other_output too_few_cells number
returns-then-out-sizes c = simp (ne_eqb _ _ c.if-out-sizes.true)

pub returns-then-cells-sizes : goal.returns-then-cells-sizes
unfolding first check other_output too_few_cells number
returns-then-cells-sizes c = simp (eq-eqb _ _ c.if-out-sizes.false, lt-ltb _ _ c.if-cells-sizes.true)
