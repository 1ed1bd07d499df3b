-- `text::spell` meets its contract. Before each turn the first k digits of what is left of the number are still to be
-- written, and after the last at most one. Two digits at a time are those of the table.
-- Assumes nothing.
use Rattle.std.proofs.Common.{◌≡◌, ◌++◌, ◌≤◌, length, drop}
use Rattle.spec.specs.Program.{decimal}
use Rattle.text.proofs.Digits.{places}
use Rattle.text.proofs.spell.Given as goal

abbrev pub invariant-loop-k : goal.invariant-loop-k
invariant-loop-k l = (l.k ≤ length l.initial.out) × (decimal l.n ≡ places l.k l.rest ++ drop l.k l.out)

abbrev pub decreases-loop-k : goal.decreases-loop-k
decreases-loop-k l = l.k
