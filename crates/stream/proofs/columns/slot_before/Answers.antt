-- `stream::columns::slot_before` meets its contract, by the test on the way.
-- Assumes nothing.
use Rattle.std.proofs.Common.{eq-eqb, ne_eqb}
use Rattle.stream.proofs.columns.slot_before.Goals as goal

pub returns-then-slot-eq0 : goal.returns-then-slot-eq0
returns-then-slot-eq0 c = simp (eq-eqb _ _ c.if-slot-eq0.true)

pub returns-else-slot-eq0 : goal.returns-else-slot-eq0
returns-else-slot-eq0 c = simp (ne_eqb _ _ c.if-slot-eq0.false)
