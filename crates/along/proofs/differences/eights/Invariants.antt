-- `along::differences::eights` meets its contract: eight places more from the end at each turn.
-- Assumes nothing.
use Rattle.laws.proofs.Slices.{Leftwards}
use Rattle.along.specs.Private.{less_earlier}
use Rattle.std.proofs.Common.{◌≡◌, ◌≤◌, length}
use Rattle.along.proofs.differences.eights.Given as goal

abbrev pub invariant-loop-from : goal.invariant-loop-from
invariant-loop-from l =
    (l.n ≤ 255) × (length l.row ≡ length l.initial.row) × (l.from ≤ length l.initial.row) × Leftwards (less_earlier l.n l.initial.row) l.initial.row l.from l.row

abbrev pub decreases-loop-from : goal.decreases-loop-from
decreases-loop-from l = l.from
