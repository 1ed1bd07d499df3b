-- What `search` does not find of `columns::slots`.
use Rattle.std.proofs.Common.{◌≡◌, ◌+◌, ◌*◌, ◌%◌, ◌<◌, ◌≤◌, get_or, sym, refl, ap, ◌∙◌, mul-le-mul, arith, length-set}
use lib.ListN.{length-replicate}
use Rattle.stream.specs.Stages.{slot_before}
use Rattle.stream.proofs.Runs.{placing_none, placing_more}
use Rattle.stream.proofs.columns.slots.Goals as goal

pub loop-s-init : goal.loop-s-init
loop-s-init g c =
    record {
      many = length-replicate g.row.N _ ∙ sym c.requires.1;
      small = omega arith;
      placed = placing_none c.args.width c.args.emitted c.args.widths.now _;
    }

pub loop-s-preserved : goal.loop-s-preserved
unfolding slot_before
loop-s-preserved g c =
    let turn = c.loop-s in
    let a = c.args in
    let n = c.from-n.result in
    let is : n ≡ get_or a.widths.now turn.s 0 = c.from-n.ensures in
    let wide : 2 < n = omega (arith, c.requires.3 turn.s (omega arith)) in
    let most : n ≤ 255 = omega (arith, c.type_inv.widths turn.s) in
    record {
      many = simp length-set turn.invariant.many;
      small = omega (arith, turn.invariant.small, mul-le-mul most c.requires.2);
      placed =
          placing_more a.width a.emitted a.widths.now turn.slots turn.s turn.start turn.invariant.placed n is wide c.loop-s-test.true (omega (arith, turn.invariant.many))
          (record { before = turn.start + c.slot_before.result * a.width; oldest = turn.start + a.emitted % n * a.width })
          (ap (λ s. turn.start + s * a.width) c.slot_before.ensures) refl;
    }
