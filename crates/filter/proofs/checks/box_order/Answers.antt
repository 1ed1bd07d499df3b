-- `filter::checks::box_order` meets its contract.
-- Assumes nothing.
use native.Mathlib.Omega.{arith}
use borrow.Author.Rules.{rules}
use Rattle.spec.specs.Recipe.{box_order}
use Rattle.filter.proofs.checks.box_order.Goals as goal

pub returns : goal.returns
unfolding box_order
returns c = (search rules, omega (arith, c.from.ensures, c.saturating_sub.ensures, c.ranges.n.fits))
