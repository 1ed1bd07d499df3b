-- `passes::climbing::on_axes` meets its contract, in each of the two cases.
-- Assumes nothing.
use mathlib.Core.Path.{sym, ap}
use Rattle.spec.specs.Words.{tab, part}
use Rattle.spec.specs.Recipe.{widths, recipe}
use Rattle.spec.specs.Ladder.{on_axes}
use Rattle.passes.specs.Climbed.{axes_of}
use Rattle.passes.proofs.climbing.on_axes.Goals as goal

pub returns-in-Rows : goal.returns-in-Rows
unfolding recipe widths part tab on_axes
returns-in-Rows c = ap (λ a. on_axes (axes_of a) (widths c.args.list)) (sym c.in-Rows.is)

pub returns-in-Both : goal.returns-in-Both
unfolding recipe on_axes
returns-in-Both c = ap (λ a. on_axes (axes_of a) (widths c.args.list)) (sym c.in-Both.is)
