-- `filter::sizes::bad_sides` meets its contract, by the tests on the way.
-- Assumes nothing.
use mathlib.Core.Path.{sym, ap, ◌∙◌}
use mathlib.Core.Bool.{◌||◌}
use Rattle.spec.specs.Refusals.{bad_side, bad_sides}
use Rattle.filter.proofs.sizes.bad_sides.Goals as goal

pub returns-then-bad_side : goal.returns-then-bad_side
unfolding bad_sides
returns-then-bad_side c = c.if-bad_side.true ∙ ap (λ b. b || bad_side c.args.height) (sym c.if-bad_side.true ∙ c.bad_side.ensures)

pub returns-else-bad_side : goal.returns-else-bad_side
unfolding bad_sides
returns-else-bad_side c = c.bad_side-else-bad_side.ensures ∙ ap (λ b. b || bad_side c.args.height) (sym c.if-bad_side.false ∙ c.bad_side.ensures)
