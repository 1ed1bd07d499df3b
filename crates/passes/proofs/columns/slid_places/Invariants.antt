-- `passes::columns::slid_places`: the sums stand below k.
use Prim.Native.Nat.{min}
use lib.ListN.{length}
use Rattle.laws.proofs.Kernels.{at}
use Rattle.laws.proofs.Cascades.{spread}
use Rattle.passes.specs.Steps.{Below}
use Rattle.passes.proofs.columns.slid_places.Given as goal

abbrev pub invariant-loop-k : goal.invariant-loop-k
invariant-loop-k l = Below (min l.k (length l.src)) (spread l.step l.n (at l.src)) l.dst
