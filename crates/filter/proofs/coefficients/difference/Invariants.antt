-- Entries are written from the right, so that what is read still stands.
-- Assumes nothing.
use Prim.Native.Nat.{◌-◌}
use Rattle.laws.proofs.Sequences.{behind}
use Rattle.laws.proofs.Kernels.{at}
use Rattle.laws.proofs.Slices.{Leftwards}
use Rattle.filter.proofs.coefficients.difference.Given as goal

abbrev pub invariant-loop-k : goal.invariant-loop-k
invariant-loop-k l = Leftwards (λ j. at l.initial.out j - behind (at l.initial.out) l.n j) l.initial.out l.k l.out
