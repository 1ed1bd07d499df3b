-- `passes::buffers::Buffer::across` meets its contract, by the test on the way.
-- Assumes nothing.
use borrow.Author.Tests.{eq-eqb, ne_eqb}
use Rattle.passes.specs.Turned.{turned}
use Rattle.passes.proofs.buffers.Buffer.across.Goals as goal

pub returns-then-width-ne1 : goal.returns-then-width-ne1
unfolding turned
returns-then-width-ne1 c = simp (ne_eqb _ _ c.if-width-ne1.true) c.other.ensures

pub returns-else-width-ne1 : goal.returns-else-width-ne1
unfolding turned
returns-else-width-ne1 c = simp (eq-eqb _ _ c.if-width-ne1.false)
