-- `passes::columns::added_row` meets its contract: the places below i are written.
-- Assumes nothing.
use Prim.Native.Nat.{◌+◌}
use Rattle.laws.proofs.Kernels.{at}
use Rattle.passes.specs.Steps.{Below}
use Rattle.passes.proofs.columns.added_row.Given as goal

abbrev pub invariant-loop-i : goal.invariant-loop-i
invariant-loop-i l = Below l.i (λ k. at l.above k + at l.coming k) l.row
