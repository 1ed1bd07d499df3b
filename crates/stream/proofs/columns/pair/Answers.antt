-- What `search` does not find of `columns::pair`.
use Rattle.std.proofs.Common.{◌<◌, length, ap, ◌∙◌, ap₂, le_refl, arith, length-set, rules}
use Rattle.spec.specs.Words.{tab}
use Rattle.laws.proofs.Lists.{tab_get_d}
use Rattle.laws.proofs.Slices.{rightwards_none, rightwards_more, rightwards_all, mixed_back}
use Rattle.stream.specs.Stages.{plus, column_pair}
use Rattle.stream.proofs.columns.pair.Invariants.{made, kept}
use Rattle.stream.proofs.columns.pair.Goals as goal

pub loop-k-init : goal.loop-k-init
loop-k-init c =
    let xs = c.args.x.now in
    let was = c.args.own.now in
    (search rules, search rules, search rules, search rules, rightwards_none (made xs was) xs, rightwards_none (kept xs) was)

pub loop-k-preserved : goal.loop-k-preserved
unfolding plus
loop-k-preserved c =
    let turn = c.loop-k in
    let old = c.args.x.now in
    let was = c.args.own.now in
    let inside : turn.k < length was = omega arith in
    let e = mixed_back 0 turn.invariant.4 turn.k (le_refl turn.k) in
    let stood = mixed_back 0 turn.invariant.5 turn.k (le_refl turn.k) in (
      search rules,
      simp length-set turn.invariant.1,
      simp length-set turn.invariant.2,
      search rules,
      rightwards_more (made old was) old _ turn.invariant.4 (search rules)
          (ap₂ plus e stood),
      rightwards_more (kept old) was _ turn.invariant.5 inside e,
    )

pub returns : goal.returns
unfolding column_pair
returns c =
    let turn = c.loop-k in
    let old = c.args.x.now in
    let was = c.args.own.now in (
      rightwards_all (made old was) old turn.invariant.4 (omega arith),
      rightwards_all (kept old) was turn.invariant.5 (omega (arith, c.requires)) ∙ ap (λ n. tab n (kept old)) c.requires ∙ tab_get_d 0 old,
    )
