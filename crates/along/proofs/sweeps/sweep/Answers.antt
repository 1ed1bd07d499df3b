-- What `search` does not find of `sweep`.
use Rattle.std.proofs.Common.{rules}
use Rattle.along.specs.Private.{swept}
use Rattle.along.proofs.Carrying.{swept_more, swept_all}
use Rattle.along.proofs.sweeps.sweep.Goals as goal

pub loop-x-preserved : goal.loop-x-preserved
loop-x-preserved g c =
    let turn = c.loop-x in
    let next = c.next.ensures in
    let all = swept g.S.Stage.made g.S.Stage.after c.args.stage c.args.row.now in
    swept_more g.S.Stage.made g.S.Stage.after turn.x-index turn.stage _ c.x-item.result _ turn.x-items all (search rules) next.value next.state turn.invariant

pub returns : goal.returns
returns g c =
    let turn = c.loop-x in
    let all = swept g.S.Stage.made g.S.Stage.after c.args.stage c.args.row.now in
    swept_all g.S.Stage.made g.S.Stage.after turn.x-index turn.stage turn.x-items all (search rules) turn.invariant
