-- `filter::zeros::alone` meets its contract: a list of no widths is empty.
-- Assumes nothing.
use mathlib.Core.Path.{ap}
use Rattle.spec.specs.declared.Filter.{Filter}
use Rattle.spec.specs.Words.{tab, part}
use Rattle.spec.specs.Recipe.{widths, recipe}
use Rattle.spec.specs.Refusals.{alone}
use Rattle.filter.proofs.zeros.alone.Goals as goal

pub returns : goal.returns
unfolding recipe alone widths part tab
returns c = ap (λ (none : Filter). recipe (record { rows = c.args.list; columns = none.columns })) c.no_filter.ensures
