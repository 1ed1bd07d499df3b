-- What `search` does not find of `three_from`.
use Rattle.std.proofs.Common.{◌≡◌, ◌<◌, length, ap, ◌∙◌, arith, rules}
use Rattle.along.proofs.Carrying.{three_of, both_made, both_after, swept_three, carried_first, written_more, written_all, carried_more, carried_all}
use Rattle.along.proofs.sweeps.three_from.Goals as goal

pub loop-k-preserved : goal.loop-k-preserved
loop-k-preserved g c =
    let m = g.S.Stage.made in
    let a = g.S.Stage.after in
    let made = both_made m a (both_made m a m a) (both_after m a m a) in
    let after = both_after m a (both_made m a m a) (both_after m a m a) in
    let turn = c.loop-k in
    let xs = c.args.narrow.now in
    let x = c.from.result in
    let first = c.next-y.ensures in
    let second = c.next-z.ensures in
    let third = c.next.ensures in
    let z : c.next-z.result ≡ m turn.second (m turn.first x) = second.value ∙ ap (m turn.second) first.value in
    let value : c.next.result ≡ made (three_of turn.first turn.second turn.third) x = third.value ∙ ap (m turn.third) z in
    let state : three_of c.next-y.new.self c.next-z.new.self c.next.new.self ≡ after (three_of turn.first turn.second turn.third) x =
    ap (λ p. three_of p c.next-z.new.self c.next.new.self) first.state
    ∙ ap (λ p. three_of (a turn.first x) p c.next.new.self) (second.state ∙ ap (a turn.second) first.value)
    ∙ ap (λ p. three_of (a turn.first x) (a turn.second (m turn.first x)) p) (third.state ∙ ap (a turn.third) z) in
    let inside : turn.k < length xs = search rules in
    record {
      values =
          written_more made after turn.k (three_of turn.first turn.second turn.third) _ 0 _ _ xs turn.row _ (search rules) (search rules) c.from.ensures
          value state turn.invariant.values;
      state = carried_more after turn.k (three_of turn.first turn.second turn.third) _ 0 _ xs _ inside c.from.ensures state turn.invariant.state;
    }

pub returns-clause-values : goal.returns-clause-values
returns-clause-values g c =
    let m = g.S.Stage.made in
    let a = g.S.Stage.after in
    let turn = c.loop-k in
    let xs = c.args.narrow.now in
    written_all (both_made m a (both_made m a m a) (both_after m a m a)) (both_after m a (both_made m a m a) (both_after m a m a)) turn.k
    (three_of turn.first turn.second turn.third) xs turn.row _ (search rules) (omega arith) turn.invariant.values
    ∙ swept_three m a c.args.stage xs

pub returns-clause-state : goal.returns-clause-state
returns-clause-state g c =
    let m = g.S.Stage.made in
    let a = g.S.Stage.after in
    let s = c.args.stage in
    let turn = c.loop-k in
    let xs = c.args.narrow.now in
    ap (λ t. t.first)
    (carried_all (both_after m a (both_made m a m a) (both_after m a m a)) turn.k (three_of turn.first turn.second turn.third) xs _ (omega arith)
    turn.invariant.state)
    ∙ carried_first m a (both_made m a m a) (both_after m a m a) s record { first = s; second = s } xs
