-- What `search` does not find of `sweep_from`.
use Rattle.std.proofs.Common.{◌<◌, length, arith, rules}
use Rattle.along.specs.Private.{swept, carried}
use Rattle.along.proofs.Carrying.{written_more, written_all, carried_more, carried_all}
use Rattle.along.proofs.sweeps.sweep_from.Goals as goal

pub loop-k-preserved : goal.loop-k-preserved
loop-k-preserved g c =
    let turn = c.loop-k in
    let next = c.next.ensures in
    let xs = c.args.narrow.now in
    let all = swept g.S.Stage.made g.S.Stage.after c.args.stage xs in
    let inside : turn.k < length xs = search rules in
    record {
      values =
          written_more g.S.Stage.made g.S.Stage.after turn.k turn.stage _ 0 _ _ xs turn.row all (search rules) (search rules) c.from.ensures next.value
          next.state turn.invariant.values;
      state =
          carried_more g.S.Stage.after turn.k turn.stage _ 0 _ xs (carried g.S.Stage.after c.args.stage xs) inside c.from.ensures next.state
          turn.invariant.state;
    }

pub returns : goal.returns
returns g c =
    let turn = c.loop-k in
    let xs = c.args.narrow.now in
    let all = swept g.S.Stage.made g.S.Stage.after c.args.stage xs in
    record {
      values = written_all g.S.Stage.made g.S.Stage.after turn.k turn.stage xs turn.row all (search rules) (omega arith) turn.invariant.values;
      state = carried_all g.S.Stage.after turn.k turn.stage xs (carried g.S.Stage.after c.args.stage xs) (omega arith) turn.invariant.state;
    }
