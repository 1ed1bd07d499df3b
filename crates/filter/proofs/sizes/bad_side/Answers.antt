-- `filter::sizes::bad_side` meets its contract, by the tests on the way.
-- Assumes nothing.
use borrow.Author.Tests.{eq-eqb, ne_eqb}
use Rattle.spec.specs.Refusals.{bad_side}
use Rattle.filter.proofs.sizes.bad_side.Goals as goal

pub returns-then-n-eq0 : goal.returns-then-n-eq0
unfolding bad_side
returns-then-n-eq0 c = simp (eq-eqb _ _ c.if-n-eq0.true)

pub returns-else-n-eq0 : goal.returns-else-n-eq0
unfolding bad_side
returns-else-n-eq0 c = simp (ne_eqb _ _ c.if-n-eq0.false)
