-- `agree`: before this place the tallies agree, or they are known to differ.
use Rattle.std.proofs.Common.{length}
use Rattle.equivalence.proofs.Tallies.{AlikeBefore}
use Rattle.equivalence.proofs.agree.Given as goal

abbrev pub invariant-loop-x : goal.invariant-loop-x
invariant-loop-x l =
    (goal.iterator-loop-x).can_next l.x-iterator × (goal.iterator-loop-x).is_finite l.x-iterator × AlikeBefore l.a l.b l.same (length l.yielded)
