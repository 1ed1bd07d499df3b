-- `stream::keeping::box_value` meets its contract, by the test on the way.
-- Assumes nothing.
use Rattle.std.proofs.Common.{eq-eqb, ne_eqb}
use Rattle.stream.proofs.keeping.box_value.Goals as goal

pub returns-then-n-eq2 : goal.returns-then-n-eq2
returns-then-n-eq2 c = simp (eq-eqb _ _ c.if-n-eq2.true)

pub returns-else-n-eq2 : goal.returns-else-n-eq2
returns-else-n-eq2 c = simp (ne_eqb _ _ c.if-n-eq2.false)
