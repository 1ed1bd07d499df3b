-- `filter::card::variance` meets its contract: the sum of the squares, divided by 12 once.
-- Assumes nothing.
use mathlib.Core.Path.{ap, ◌∙◌}
use Rattle.spec.specs.Gray.{ratio, variance}
use Rattle.filter.proofs.card.variance.Goals as goal

pub returns : goal.returns
unfolding variance
returns c = c.ratio.ensures ∙ ap (λ s. ratio s 12) c.squares.ensures.0
