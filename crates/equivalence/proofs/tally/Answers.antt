-- What `search` does not find of `tally`.
use Rattle.std.proofs.Common.{arith}
use Rattle.laws.proofs.Boxes.{boxes_all, boxes_few}
use Rattle.equivalence.proofs.Tallies.{tallied_none, tally_small, tallied_more, tallied_all}
use Rattle.equivalence.proofs.tally.Goals as goal

pub loop-n-init : goal.loop-n-init
loop-n-init c = rw c.requires.zeros (tallied_none _)

pub overflow_add-counts : goal.overflow_add-counts
overflow_add-counts c =
    omega (arith, tally_small _ _ _ c.loop-n.invariant (boxes_few c.args.list _ c.boxes-n-items.ensures) c.from.result (omega arith))

pub loop-n-preserved : goal.loop-n-preserved
loop-n-preserved c = tallied_more _ _ _ c.loop-n.invariant c.loop-n-test.true c.from.result c.from.ensures (omega arith)

pub returns : goal.returns
returns c =
    let all = tallied_all _ _ _ c.loop-n.invariant c.loop-n-test.false in
    rw (← boxes_all c.args.list _ c.boxes-n-items.ensures c.requires.short) (record { counted = all.0; bytes = all.1 })
