-- `passes::columns::by_rows` meets its contract: after j rows the sums stand in them.
-- Assumes nothing.
use Prim.Native.Nat.{◌*◌, min}
use lib.ListN.{length}
use Rattle.laws.proofs.Kernels.{at}
use Rattle.laws.proofs.Cascades.{spread}
use Rattle.passes.specs.Steps.{Below}
use Rattle.passes.proofs.columns.by_rows.Given as goal

abbrev pub invariant-loop-j : goal.invariant-loop-j
invariant-loop-j l = Below (min (l.j * l.step) (length l.src)) (spread l.step l.n (at l.src)) l.dst
