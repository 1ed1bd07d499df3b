-- `passes::climbing::bad_level` meets its contract, by the tests on the way.
-- Assumes nothing.
use borrow.Author.Tests.{eq-eqb, ne_eqb}
use Rattle.spec.specs.Refusals.{bad_level}
use Rattle.passes.proofs.climbing.bad_level.Goals as goal

pub returns-then-level-eq0 : goal.returns-then-level-eq0
unfolding bad_level
returns-then-level-eq0 c = simp (eq-eqb _ _ c.if-level-eq0.true)

pub returns-else-level-eq0 : goal.returns-else-level-eq0
unfolding bad_level
returns-else-level-eq0 c = simp (ne_eqb _ _ c.if-level-eq0.false)
