-- `along::differences::is_wide` meets its contract, by its branches.
-- Assumes nothing.
use Rattle.std.proofs.Common.{refl, ne_eqb}
use Rattle.along.specs.Along.{wide}
use Rattle.along.proofs.differences.is_wide.Goals as goal

pub returns-then-n-ne1 : goal.returns-then-n-ne1
unfolding wide
returns-then-n-ne1 c = rw (ne_eqb c.args.n 1 c.if-n-ne1.true) refl

pub returns-else-n-ne1 : goal.returns-else-n-ne1
unfolding wide
returns-else-n-ne1 c = rw c.if-n-ne1.false refl
