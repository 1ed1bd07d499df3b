-- What `search` does not find of `differences::apart`.
use Rattle.along.specs.Private.{minus}
use Rattle.along.proofs.Backwards.{apart_more, apart_all}
use Rattle.std.proofs.Common.{refl, arith}
use Rattle.along.proofs.differences.apart.Goals as goal

pub loop-k-preserved : goal.loop-k-preserved
unfolding minus
loop-k-preserved c =
    let turn = c.loop-k in
    apart_more c.args.n c.args.row.now turn.k _ turn.invariant (omega arith) refl

pub returns : goal.returns
returns c =
    let turn = c.loop-k in
    apart_all c.args.n c.args.row.now turn.k turn.invariant (omega arith)
