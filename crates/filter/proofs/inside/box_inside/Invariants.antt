-- `filter::inside::box_inside` meets its contract: entries are written from the left, each a difference of two running totals.
-- Assumes nothing.
use mathlib.Core.Path.{◌≡◌}
use Prim.Native.Nat.{◌+◌, ◌-◌, ◌≤◌}
use lib.ListN.{length}
use Rattle.laws.proofs.Slices.{Rightwards}
use Rattle.filter.proofs.Axes.{apart}
use Rattle.filter.proofs.inside.box_inside.Given as goal

abbrev pub invariant-loop-k : goal.invariant-loop-k
invariant-loop-k l =
    (length l.out ≡ length l.initial.out) × (l.k ≤ l.side) × Rightwards (λ k. apart l.kernel l.side (k + l.half)) l.initial.out l.k l.out

abbrev pub decreases-loop-k : goal.decreases-loop-k
decreases-loop-k l = l.side - l.k
