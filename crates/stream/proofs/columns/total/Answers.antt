-- What `search` does not find of `columns::total`.
use Rattle.laws.proofs.Slices.{rightwards_none, rightwards_more, rightwards_all}
use Rattle.spec.specs.Words.{tab}
use Rattle.stream.specs.Stages.{plus}
use Rattle.std.proofs.Common.{◌<◌, length, refl, ap, ◌∙◌, arith, length-set, rules}
use Rattle.stream.proofs.columns.total.Invariants.{made}
use Rattle.stream.proofs.columns.total.Goals as goal

pub loop-k-init : goal.loop-k-init
loop-k-init c =
    let a = c.args in
    (search rules, c.requires.0, c.requires.1, search rules, search rules, rightwards_none (made a.x.now a.before.now) a.totals.now)

pub loop-k-preserved : goal.loop-k-preserved
unfolding plus
loop-k-preserved c =
    let turn = c.loop-k in
    let a = c.args in
    let inside : turn.k < length a.totals.now = omega (arith, turn.invariant.2) in (
      search rules,
      turn.invariant.1,
      turn.invariant.2,
      simp length-set turn.invariant.3,
      search rules,
      rightwards_more (made a.x.now a.before.now) a.totals.now _ turn.invariant.5 inside refl,
    )

pub returns : goal.returns
returns c =
    let turn = c.loop-k in
    let a = c.args in
    rightwards_all (made a.x.now a.before.now) a.totals.now turn.invariant.5 (omega (arith, turn.invariant.2))
    ∙ ap (λ n. tab n (made a.x.now a.before.now)) turn.invariant.2
