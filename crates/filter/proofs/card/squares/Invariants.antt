-- After so many widths the sum is the total over them.
-- Assumes nothing.
use Rattle.spec.specs.Gray.{box_square}
use Rattle.filter.proofs.Widths.{Summed}
use Rattle.filter.proofs.card.squares.Given as goal

abbrev pub invariant-loop-n : goal.invariant-loop-n
invariant-loop-n l = Summed box_square 65024 l.n-items l.n-index l.sum
