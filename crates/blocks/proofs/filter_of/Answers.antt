-- `blocks::filter_of` meets its contract: the two lists, by that of `list_at`.
-- Assumes nothing.
use Rattle.std.proofs.Common.{◌∙◌, refl}
use Rattle.blocks.specs.Given.{given}
use Rattle.blocks.proofs.Standing.{list_lent}
use Rattle.blocks.proofs.filter_of.Goals as goal

pub returns : goal.returns
unfolding given
returns c =
    let block = c.args.block.now in
    let rows = c.list_at.ensures ∙ list_lent 0 block _ refl in
    let columns = c.list_at-2.ensures ∙ list_lent 49 block _ refl in
    λ i. record { rows = rows i; columns = columns i }
