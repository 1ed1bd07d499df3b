-- What `search` does not find of `columns::sweep`.
use Rattle.std.proofs.Common.{◌≡◌, ◌+◌, ◌-◌, ◌*◌, ◌/◌, ◌≤◌, ◌++◌, length, take, refl, ◌∙◌, subst, ap₂, arith, drop-drop}
use Rattle.stream.proofs.Sweeps.{Swept, swept_more, swept_all}
use Rattle.stream.proofs.columns.sweep.Goals as goal

pub loop-k-preserved : goal.loop-k-preserved
loop-k-preserved g c =
    let turn = c.loop-k in
    let a = c.args in
    let f = g.S.Stages.made a.stages.now in
    let n : 8 * turn.k + 8 ≡ 8 * (turn.k + 1) = omega arith in
    let inside : 8 * turn.k + 8 ≤ length a.row.now = omega arith in
    let more = swept_more (length a.row.now) (length a.own.now) f c.requires.2 a.row.now a.own.now refl refl (8 * turn.k) 8 turn.row turn.own _ _ inside turn.invariant.swept
    c.block.ensures.0 c.block.ensures.1 in
    record {
      wide = c.block.auto.row ∙ turn.invariant.wide;
      long = c.block.auto.own ∙ turn.invariant.long;
      swept = subst (λ i. Swept f a.row.now a.own.now i c.block.new.row c.block.new.own) n more;
    }

pub returns : goal.returns
returns g c =
    let turn = c.loop-k in
    let a = c.args in
    let f = g.S.Stages.made a.stages.now in
    let i = 8 * (length a.row.now / 8) in
    let m = length turn.row - i in
    let all : 8 * turn.k ≡ i = omega arith in
    let inside : i + m ≤ length a.row.now = omega (arith, turn.invariant.wide) in
    let enough : length a.row.now ≤ i + m = omega (arith, turn.invariant.wide) in
    let before = subst (λ i. Swept f a.row.now a.own.now i turn.row turn.own) all turn.invariant.swept in
    let more = swept_more (length a.row.now) (length a.own.now) f c.requires.2 a.row.now a.own.now refl refl i m turn.row turn.own _ _ inside before
    (ap₂ (λ u v. take i turn.row ++ (u ++ v)) c.apply.ensures.0 (drop-drop m i turn.row)) c.apply.ensures.1 in
    swept_all (length a.row.now) (length a.own.now) f c.requires.2 a.row.now a.own.now refl refl (i + m) _ _ enough more
