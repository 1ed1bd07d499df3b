-- What `search` does not find of `repeated`.
use Rattle.std.proofs.Common.{◌≡◌, ℕ, ◌+◌, ◌-◌, ◌*◌, ◌/◌, ◌%◌, ◌≤◌, ap, ◌∙◌, arith}
use Rattle.along.specs.Private.{repeat, swept}
use Rattle.along.proofs.Carrying.{swept_two, swept_three, swept_four}
use Rattle.along.proofs.Rows.{repeat_less}
use Rattle.along.proofs.sweeps.repeated.Goals as goal

-- what is left after the sweeps of four
left : {A : Type 0} (f : A → A) (count turns n : ℕ) (x target : A) → count % 4 ≡ n → count / 4 ≤ turns → turns ≤ count / 4
    → repeat (count - 4 * turns) f x ≡ target → repeat n f x ≡ target
left f count turns n x target e h g all = let same : n ≡ count - 4 * turns = omega arith in ap (λ k. repeat k f x) same ∙ all

pub loop-preserved : goal.loop-preserved
loop-preserved g c =
    let turn = c.loop in
    let stage = g.S.Stage in
    let f = swept stage.made stage.after c.args.stage in
    let left : c.args.count - 4 * (turn.counter + 1) ≡ c.args.count - 4 * turn.counter - 4 = omega arith in
    ap (λ n. repeat n f c.sweep.new.row) left
    ∙ repeat_less f 4 (c.args.count - 4 * turn.counter) _ _ _ (omega arith)
    (c.sweep.ensures ∙ swept_four stage.made stage.after c.args.stage turn.row) turn.invariant

pub returns-in-0 : goal.returns-in-0
unfolding repeat
returns-in-0 g c =
    let turn = c.loop in
    let stage = g.S.Stage in
    left (swept stage.made stage.after c.args.stage) c.args.count turn.counter 0 turn.row _ c.in-0.is (omega arith) (omega arith) turn.invariant

pub returns-in-1 : goal.returns-in-1
unfolding repeat
returns-in-1 g c =
    let turn = c.loop in
    let stage = g.S.Stage in
    c.sweep-in-1.ensures
    ∙ left (swept stage.made stage.after c.args.stage) c.args.count turn.counter 1 turn.row _ c.in-1.is (omega arith) (omega arith) turn.invariant

pub returns-in-2 : goal.returns-in-2
returns-in-2 g c =
    let turn = c.loop in
    let stage = g.S.Stage in
    c.sweep-in-2.ensures
    ∙ swept_two stage.made stage.after c.args.stage turn.row
    ∙ left (swept stage.made stage.after c.args.stage) c.args.count turn.counter 2 turn.row _ c.in-2.is (omega arith) (omega arith) turn.invariant

pub returns-in_default : goal.returns-in_default
returns-in_default g c =
    let turn = c.loop in
    let stage = g.S.Stage in
    let last : c.args.count % 4 ≡ 3 = omega arith in
    c.sweep-in_default.ensures
    ∙ swept_three stage.made stage.after c.args.stage turn.row
    ∙ left (swept stage.made stage.after c.args.stage) c.args.count turn.counter 3 turn.row _ last (omega arith) (omega arith) turn.invariant
