-- `blocks::put_list` meets its contract: the count, and the widths after it.
-- Assumes nothing.
use Rattle.std.proofs.Common.{◌∷◌, ap, ◌∙◌}
use Rattle.blocks.proofs.Standing.{list_put}
use Rattle.blocks.proofs.put_list.Goals as goal

pub returns : goal.returns
returns c =
    let a = c.args in
    list_put a.list.count _ a.bytes.now c.requires ∙ ap (λ l. a.list.count ∷ l) c.copy_from_slice.ensures.after
