-- `blocks::list_at` meets its contract: the count, and the bytes after it.
-- Assumes nothing.
use Rattle.blocks.proofs.Standing.{list_read}
use Rattle.blocks.proofs.list_at.Goals as goal

pub returns : goal.returns
returns c = list_read c.args.bytes.now _ c.requires c.copy_from_slice.ensures.after
