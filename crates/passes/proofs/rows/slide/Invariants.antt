-- `passes::rows::slide` meets its contract: up to start + k the sums stand in dst, and total is the last of them.
-- Assumes nothing.
use mathlib.Core.Path.{◌≡◌}
use Prim.Native.Nat.{◌+◌, ◌≤◌}
use lib.ListN.{length}
use Rattle.laws.proofs.Sequences.{behind}
use Rattle.laws.proofs.Kernels.{at}
use Rattle.laws.proofs.Cascades.{spread}
use Rattle.passes.specs.Steps.{Below}
use Rattle.passes.proofs.rows.slide.Given as goal

abbrev pub invariant-loop-k : goal.invariant-loop-k
invariant-loop-k l =
    let f = spread 1 l.n (at l.src) in
    record { within : l.start + l.k ≤ length l.src; total : l.total ≡ behind f 1 (l.start + l.k); sums : Below (l.start + l.k) f l.dst }
