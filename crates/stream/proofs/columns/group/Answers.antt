-- What `search` does not find of `columns::group`.
use Rattle.std.proofs.Common.{◌≡◌, ◌+◌, ◌*◌, ◌<◌, length, get_or, sym, refl, ap, ◌∙◌, mul_assoc, mul_comm, mul-zero, arith}
use Rattle.spec.specs.Words.{total}
use Rattle.spec.specs.Stream.{box_cost, cascade_cost}
use Rattle.stream.specs.Stages.{Worked, column_stage, stages}
use Rattle.stream.proofs.Boxes.{cost_one}
use Rattle.stream.proofs.Runs.{group_idle}
use Rattle.stream.proofs.Blocks.{cells_of}
use Rattle.stream.proofs.Sweeps.{pairs_act, column_idle, column_pairs, rings_cost, pairs_size}
use Rattle.stream.proofs.columns.group.Goals as goal

pub sweep-requires : goal.sweep-requires
sweep-requires c =
    let a = c.args in
    let w = length a.row.now in
    let ns = a.widths.now in
    let two = c.requires.1.twos c.in-2.is in
    let size = c.requires.2 ∙ pairs_size w ns two.1 in
    ((two.0, c.requires.0, size), refl, pairs_act w (length ns) (length a.own.now) size)

pub returns-in-2 : goal.returns-in-2
unfolding cascade_cost
returns-in-2 c =
    let a = c.args in
    let w = length a.row.now in
    let ns = a.widths.now in
    let two = c.requires.1.twos c.in-2.is in
    let size = c.requires.2 ∙ pairs_size w ns two.1 in
    let all = column_pairs a.emitted w ns (length ns) refl two.1 a.row.now a.own.now refl size in
    (mul_comm (length ns) w ∙ ap (λ n. w * n) (sym all.1), c.sweep.ensures.0 ∙ ap (λ (o : Worked). o.row) all.0, c.sweep.ensures.1 ∙ ap (λ (o : Worked). o.cells) all.0)

pub returns-in-0 : goal.returns-in-0
unfolding cascade_cost total
returns-in-0 c =
    let a = c.args in
    let w = length a.row.now in
    let ns = a.widths.now in
    let h : get_or ns 0 0 < 2 = omega (arith, c.in-0) in
    let e = group_idle ns c.requires.1 h in
    let all = ap (λ l. stages (cells_of w) (column_stage a.emitted) l a.row.now a.own.now) e ∙ column_idle a.emitted w _ a.row.now a.own.now h in
    let free : box_cost (get_or ns 0 0) + 0 ≡ 0 = omega (arith, cost_one _ h) in
    (sym (ap (λ l. w * cascade_cost l) e ∙ ap (λ k. w * k) free ∙ mul-zero w), sym (ap (λ (o : Worked). o.row) all), sym (ap (λ (o : Worked). o.cells) all))

pub returns-in_default : goal.returns-in_default
unfolding cascade_cost
returns-in_default c =
    let a = c.args in
    let w = length a.row.now in
    let ns = a.widths.now in
    let wide : 2 < get_or ns 0 0 = omega (arith, c.in_default) in
    let cost = rings_cost ns (c.requires.1.wider wide).1 in
    (omega (arith, ap (λ n. w * n) cost, mul_assoc w (length ns) 2, mul_comm w (length ns)), c.wider.ensures.0, c.wider.ensures.1)
