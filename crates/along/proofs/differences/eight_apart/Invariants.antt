-- `along::differences::eight_apart` meets its contract: values are copied from the left.
-- Assumes nothing.
use Rattle.std.proofs.Common.{◌-◌, ◌+◌, replicate}
use Rattle.laws.proofs.Kernels.{at}
use Rattle.laws.proofs.Slices.{Rightwards}
use Rattle.along.proofs.differences.eight_apart.Given as goal

abbrev pub invariant-loop-k : goal.invariant-loop-k
invariant-loop-k l = Rightwards (λ j. at l.row (l.from - l.n + j)) (replicate 8 0) l.k l.x-items
