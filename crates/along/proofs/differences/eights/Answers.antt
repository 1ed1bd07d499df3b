-- What `search` does not find of `differences::eights`.
use Rattle.laws.proofs.Slices.{leftwards_none}
use Rattle.along.specs.Private.{less_earlier}
use Rattle.along.proofs.Backwards.{eight_more}
use Rattle.std.proofs.Common.{◌∙◌, arith, rules}
use Rattle.along.proofs.differences.eights.Goals as goal

pub loop-from-init : goal.loop-from-init
loop-from-init c =
    (c.requires, search rules, search rules, leftwards_none (less_earlier c.args.n c.args.row.now) c.args.row.now)

pub loop-from-preserved : goal.loop-from-preserved
loop-from-preserved c =
    let turn = c.loop-from in
    let a = c.args in
    let did = c.eight_apart in
    (turn.invariant.0, did.auto.row ∙ turn.invariant.1, search rules, eight_more a.n a.row.now turn.from _ turn.invariant.3 (omega arith) did.ensures)

pub returns : goal.returns
returns c = c.loop-from.invariant.3
