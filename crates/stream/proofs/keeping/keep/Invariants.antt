-- `stream::keeping::keep` meets its contract: what is left to be written, behind what is written, is what the list keeps.
-- Assumes nothing.
use Rattle.stream.proofs.Kept.{Keeping}
use Rattle.stream.proofs.keeping.keep.Given as goal

abbrev pub invariant-loop-n : goal.invariant-loop-n
invariant-loop-n l = Keeping l.widths l.width l.total l.initial.cells l.n-index l.from l.sum l.entering l.cells
