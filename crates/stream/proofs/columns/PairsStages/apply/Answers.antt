-- What `search` does not find of `columns::PairsStages::apply`.
use Rattle.std.proofs.Common.{◌≡◌, ◌+◌, ◌-◌, ◌*◌, ◌≤◌, ◌++◌, length, take, drop, sym, refl, ap, ◌∙◌, ap₂, add-one, arith, rules}
use Rattle.laws.proofs.Numbers.{row_fits}
use Rattle.stream.specs.Stages.{Worked}
use Rattle.stream.specs.Private.{in_turn, pair_at, pairs_from}
use Rattle.stream.proofs.Acting.{pair_lent}
use Rattle.stream.proofs.columns.PairsStages.apply.Goals as goal

pub loop-s-init : goal.loop-s-init
unfolding pairs_from in_turn
loop-s-init c = record { wide = refl; long = refl; row_is = refl; own_is = refl }

pub loop-s-preserved : goal.loop-s-preserved
unfolding pairs_from in_turn
loop-s-preserved c =
    let turn = c.loop-s in
    let a = c.args in
    let w = a.self.now.width in
    let at = turn.s * w + a.from in
    let more : turn.s * w + w ≤ a.self.now.count * w = row_fits w turn.s a.self.now.count (search rules) in
    let here : at + length turn.x ≤ length turn.own = omega arith in
    let lent = pair_lent at (at + length turn.x) turn.x turn.own refl here in
    let all : pair_at at turn.x turn.own ≡ pairs_from a.from w (turn.s + 1) a.x.now a.own.now =
    ap₂ (pair_at at) turn.invariant.row_is turn.invariant.own_is ∙ ap (λ n. pairs_from a.from w n a.x.now a.own.now) (sym (add-one turn.s)) in
    record {
      wide = c.pair.auto.x ∙ turn.invariant.wide;
      long = search rules;
      row_is = c.pair.ensures.0 ∙ lent.0 ∙ ap (λ (o : Worked). o.row) all;
      own_is =
          ap (λ l. take at turn.own ++ (l ++ drop (at + length turn.x - at) (drop at turn.own))) c.pair.ensures.1 ∙ lent.1 ∙ ap (λ (o : Worked). o.cells) all;
    }
