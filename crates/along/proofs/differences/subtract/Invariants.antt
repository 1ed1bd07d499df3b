-- `along::differences::subtract` meets its contract: differences are written from the left.
-- Assumes nothing.
use Rattle.laws.proofs.Kernels.{at}
use Rattle.laws.proofs.Slices.{Rightwards}
use Rattle.along.specs.Private.{minus}
use Rattle.along.proofs.differences.subtract.Given as goal

abbrev pub invariant-loop-k : goal.invariant-loop-k
invariant-loop-k l = Rightwards (λ j. minus (at l.initial.row j) (at l.by j)) l.initial.row l.k l.row
