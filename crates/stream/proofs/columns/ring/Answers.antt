-- What `search` does not find of `columns::ring`.
use Rattle.std.proofs.Common.{length, drop, replicate}
use Rattle.stream.proofs.Acting.{slot_lent}
use Rattle.stream.proofs.columns.ring.Goals as goal

pub returns : goal.returns
returns c =
    let a = c.args in
    slot_lent a.before a.oldest a.x.now a.own.now c.total.new.totals (drop (length a.x.now) (replicate 8 0)) _ c.settle.new.x
    c.requires.1.before_inside c.requires.1.oldest_inside c.total.ensures c.copy_from_slice.ensures.after c.settle.ensures
