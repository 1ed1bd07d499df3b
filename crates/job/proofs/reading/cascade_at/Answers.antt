-- `job::reading::cascade_at` meets its contract: the widths are copied over zeros.
-- Assumes nothing.
use Rattle.job.proofs.Holding.{held_so}
use Rattle.job.proofs.reading.cascade_at.Goals as goal

pub returns : goal.returns
returns c =
    let a = c.args in
    held_so a.bytes.now a.at a.count c.from-n.result c.requires.0 c.requires.1 c.from-n.ensures c.copy_from_slice.ensures.after
