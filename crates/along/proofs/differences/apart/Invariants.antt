-- `along::differences::apart` meets its contract: one place more from the end at each turn.
-- Assumes nothing.
use Rattle.laws.proofs.Slices.{Leftwards}
use Rattle.along.specs.Private.{less_earlier}
use Rattle.along.proofs.differences.apart.Given as goal

abbrev pub invariant-loop-k : goal.invariant-loop-k
invariant-loop-k l = Leftwards (less_earlier l.n l.fn.row) l.fn.row l.k l.row
