-- `tally`: the widths before this one are counted.
use Rattle.equivalence.proofs.Tallies.{Tallied}
use Rattle.equivalence.proofs.tally.Given as goal

abbrev pub invariant-loop-n : goal.invariant-loop-n
invariant-loop-n l = Tallied l.n-items l.counts l.n-index
