-- What `search` does not find of `columns::settle`.
use Rattle.std.proofs.Common.{◌<◌, length, refl, arith, length-set, rules}
use Rattle.laws.proofs.Slices.{rightwards_none, rightwards_more, rightwards_all}
use Rattle.stream.specs.Stages.{minus}
use Rattle.stream.proofs.columns.settle.Invariants.{made}
use Rattle.stream.proofs.columns.settle.Goals as goal

pub loop-k-init : goal.loop-k-init
loop-k-init c =
    let a = c.args in
    (search rules, c.requires.0, c.requires.1, rightwards_none (made a.totals.now a.oldest.now) a.x.now)

pub loop-k-preserved : goal.loop-k-preserved
unfolding minus
loop-k-preserved c =
    let turn = c.loop-k in
    let a = c.args in
    let inside : turn.k < length a.x.now = search rules in
    (simp length-set turn.invariant.0, turn.invariant.1, turn.invariant.2, rightwards_more (made a.totals.now a.oldest.now) a.x.now _ turn.invariant.3 inside refl)

pub returns : goal.returns
returns c =
    let a = c.args in
    rightwards_all (made a.totals.now a.oldest.now) a.x.now c.loop-k.invariant.3 (omega arith)
