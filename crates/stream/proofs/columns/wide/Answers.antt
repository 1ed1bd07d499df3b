-- What `search` does not find of `columns::wide`.
use Rattle.std.proofs.Common.{length, sym, refl, ap, ◌∙◌}
use Rattle.stream.specs.Private.{Rings}
use Rattle.stream.specs.Stages.{Worked}
use Rattle.stream.proofs.Sweeps.{rings_act, column_rings, group_size}
use Rattle.stream.proofs.columns.wide.Goals as goal

pub sweep-requires : goal.sweep-requires
sweep-requires g c =
    let a = c.args in
    let w = length a.row.now in
    let rings : Rings w g.row.N (length a.own.now) c.slots-slots.result =
    record {
      widths = a.widths.now;
      emitted = a.emitted;
      counted = c.requires.1;
      room = group_size w a.widths.now ∙ sym c.requires.4;
      slots = c.slots-slots.ensures;
    } in
    (rings, refl, rings_act w g.row.N (length a.own.now) c.slots-slots.result rings)

pub returns : goal.returns
returns g c =
    let a = c.args in
    let w = length a.row.now in
    let all = column_rings a.emitted w a.widths.now g.row.N c.requires.1 c.slots-slots.result a.row.now a.own.now c.slots-slots.ensures refl (group_size w a.widths.now ∙ sym c.requires.4) in
    (c.sweep.ensures.0 ∙ ap (λ (o : Worked). o.row) all, c.sweep.ensures.1 ∙ ap (λ (o : Worked). o.cells) all)
