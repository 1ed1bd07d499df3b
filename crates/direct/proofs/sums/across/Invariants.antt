-- `direct::sums::across`: the terms of the window so far, from the first that is inside the line.
use Rattle.std.proofs.Common.{◌+◌, ◌-◌, length}
use Rattle.laws.proofs.Kernels.{at}
use Rattle.direct.proofs.Weighing.{Weighed}
use Rattle.direct.proofs.sums.across.Given as goal

abbrev pub invariant-loop-coefficient : goal.invariant-loop-coefficient
invariant-loop-coefficient l =
    (goal.iterator-loop-coefficient).can_next l.coefficient-iterator ×
    (goal.iterator-loop-coefficient).is_finite l.coefficient-iterator ×
    Weighed l.kernel (at l.line) l.i 65535 (l.i + 1 - length l.line + length l.yielded) l.total
