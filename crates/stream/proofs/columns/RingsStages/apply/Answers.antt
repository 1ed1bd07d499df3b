-- What `search` does not find of `columns::RingsStages::apply`.
use Rattle.std.proofs.Common.{◌≡◌, ◌+◌, length, sym, refl, ap, ◌∙◌, subst, ap₂, add-one, arith}
use Rattle.stream.specs.Stages.{Worked, column_slot}
use Rattle.stream.specs.Private.{in_turn, rings_from, slot_at, Apart}
use Rattle.stream.proofs.Sweeps.{slots_on}
use Rattle.stream.proofs.columns.RingsStages.apply.Goals as goal

pub loop-slot-init : goal.loop-slot-init
unfolding rings_from in_turn
loop-slot-init g c = record { wide = refl; long = refl; row_is = refl; own_is = refl }

pub overflow_add-slot : goal.overflow_add-slot
overflow_add-slot g c =
    let a = c.args in
    let on = slots_on a.self.now.width g.row.N (length a.own.now) a.self.now.slots c.requires.0 a.from (length a.x.now) c.loop-slot.slot-index c.requires.2 c.loop-slot-test.true in
    record { fits = omega (arith, on.before_inside) }

pub overflow_add-slot-in-loop-slot : goal.overflow_add-slot-in-loop-slot
overflow_add-slot-in-loop-slot g c =
    let a = c.args in
    let on = slots_on a.self.now.width g.row.N (length a.own.now) a.self.now.slots c.requires.0 a.from (length a.x.now) c.loop-slot.slot-index c.requires.2 c.loop-slot-test.true in
    record { fits = omega (arith, on.oldest_inside) }

pub ring-requires : goal.ring-requires
ring-requires g c =
    let a = c.args in
    let turn = c.loop-slot in
    let on = slots_on a.self.now.width g.row.N (length a.own.now) a.self.now.slots c.requires.0 a.from (length a.x.now) turn.slot-index c.requires.2 c.loop-slot-test.true in
    let slot = slot_at a.self.now.slots turn.slot-index in (
      omega (arith, turn.invariant.wide, c.requires.1),
      subst (λ n. Apart (slot.before + a.from) (slot.oldest + a.from) n (length turn.own)) (sym turn.invariant.wide)
          (subst (λ n. Apart (slot.before + a.from) (slot.oldest + a.from) (length a.x.now) n) (sym turn.invariant.long) on),
    )

pub loop-slot-preserved : goal.loop-slot-preserved
unfolding rings_from in_turn
loop-slot-preserved g c =
    let turn = c.loop-slot in
    let a = c.args in
    let slot = slot_at a.self.now.slots turn.slot-index in
    let all : column_slot (slot.before + a.from) (slot.oldest + a.from) turn.x turn.own ≡ rings_from a.from a.self.now.slots (turn.slot-index + 1) a.x.now a.own.now =
    ap₂ (column_slot (slot.before + a.from) (slot.oldest + a.from)) turn.invariant.row_is turn.invariant.own_is
    ∙ ap (λ n. rings_from a.from a.self.now.slots n a.x.now a.own.now) (sym (add-one turn.slot-index)) in
    record {
      wide = c.ring.auto.x ∙ turn.invariant.wide;
      long = c.ring.auto.own ∙ turn.invariant.long;
      row_is = c.ring.ensures.0 ∙ ap (λ (w : Worked). w.row) all;
      own_is = c.ring.ensures.1 ∙ ap (λ (w : Worked). w.cells) all;
    }
