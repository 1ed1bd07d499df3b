-- `passes::grown::copy_row` meets its contract: the pixels below i are in place.
-- Assumes nothing.
use Rattle.laws.proofs.Kernels.{at}
use Rattle.passes.specs.Steps.{Below}
use Rattle.passes.proofs.grown.copy_row.Given as goal

abbrev pub invariant-loop-i : goal.invariant-loop-i
invariant-loop-i l = Below l.i (at l.pixels) l.row
