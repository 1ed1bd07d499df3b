-- `passes::climbing::level_filter` meets its contract: the first widths of the ladder, on these axes.
-- Assumes nothing.
use mathlib.Core.Path.{ap, ◌∙◌}
use Rattle.spec.specs.Ladder.{rungs, on_axes, ladder}
use Rattle.passes.specs.Climbed.{axes_of}
use Rattle.passes.proofs.climbing.level_filter.Goals as goal

pub returns : goal.returns
unfolding rungs ladder
returns c = c.on_axes.ensures ∙ ap (on_axes (axes_of c.args.axes)) c.rungs.ensures
