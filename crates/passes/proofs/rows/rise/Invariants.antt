-- `passes::rows::rise` meets its contract: up to k the sums stand in dst, and total is the last of them.
-- Assumes nothing.
use mathlib.Core.Path.{◌≡◌}
use Prim.Native.Nat.{◌≤◌}
use Rattle.laws.proofs.Sequences.{behind}
use Rattle.laws.proofs.Kernels.{at}
use Rattle.laws.proofs.Cascades.{spread}
use Rattle.passes.specs.Steps.{Below}
use Rattle.passes.proofs.rows.rise.Given as goal

abbrev pub invariant-loop-k : goal.invariant-loop-k
invariant-loop-k l =
    let f = spread 1 l.n (at l.src) in
    record { within : l.k ≤ l.stop; total : l.total ≡ behind f 1 l.k; sums : Below l.k f l.dst }
