-- `text::fill` meets its contract: number by number from the left, then the line's end over the last space.
-- Assumes nothing.
use Rattle.text.proofs.Lines.{Laid}
use Rattle.text.proofs.fill.Given as goal

abbrev pub invariant-loop-n : goal.invariant-loop-n
invariant-loop-n l = Laid l.numbers l.initial.out l.n-index l.end l.out
