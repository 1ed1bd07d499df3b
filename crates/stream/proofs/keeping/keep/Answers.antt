-- What `search` does not find of `keeping::keep`.
use Rattle.std.proofs.Common.{◌+◌, ◌-◌, ◌*◌, ◌++◌, take, drop, sym, refl, ap, subst, arith, rules}
use Rattle.stream.proofs.Kept.{Keeping, keeping_more, keeping_all, more, next_inside, next_few, enters_small, next_small}
use Rattle.stream.proofs.keeping.keep.Goals as goal

pub slice_bounds-fill-end : goal.slice_bounds-fill-end
slice_bounds-fill-end c =
    let a = c.args in
    let p = c.requires in
    omega (arith, c.box_cells.ensures.0, next_inside a.widths.now a.width a.total a.cells.now p.0 p.1 p.2 p.3 p.4 _ _ _ _ _ c.loop-n.invariant c.loop-n-test.true)

pub overflow_add-sum : goal.overflow_add-sum
overflow_add-sum c =
    let a = c.args in
    let p = c.requires in
    let few = next_few a.widths.now a.width a.total a.cells.now p.0 p.1 p.2 p.3 p.4 _ _ _ _ _ c.loop-n.invariant c.loop-n-test.true in
    record { fits = omega (arith, few, ap (λ k. a.width * k) c.box_cost.ensures.0) }

pub overflow_mul-entering : goal.overflow_mul-entering
overflow_mul-entering c =
    let a = c.args in
    let p = c.requires in
    let small = next_small a.widths.now a.width a.total a.cells.now p.0 p.1 p.2 p.3 p.4 _ _ _ _ _ c.loop-n.invariant c.loop-n-test.true in
    record { fits = omega (arith, small, ap (λ k. c.loop-n.entering * k) c.from-entering.ensures) }

pub loop-n-preserved : goal.loop-n-preserved
loop-n-preserved c =
    let a = c.args in
    let p = c.requires in
    let now = c.loop-n in
    let small = enters_small a.widths.now a.width a.total a.cells.now p.0 p.1 p.2 p.3 p.4 _ _ _ _ _ now.invariant c.loop-n-test.true in
    let next = more a.widths.now a.width a.total a.cells.now p.0 p.1 p.2 p.3 p.4 _ _ _ _ _ now.invariant c.loop-n-test.true in
    let to = now.from + c.box_cells.result in
    let cells = take now.from now.cells ++ (c.fill.new.self ++ drop (to - now.from) (drop now.from now.cells)) in
    subst (λ n. Keeping a.widths.now a.width a.total a.cells.now (now.n-index + 1) to (now.sum + a.width * c.box_cost.result) (now.entering * n) cells)
    (sym c.from-entering.ensures)
    (keeping_more a.widths.now a.width a.total a.cells.now _ _ _ _ _ now.invariant _ next c.box_value.result to _ c.fill.new.self
    (ap (λ k. now.from + k) c.box_cells.ensures.0) refl p.2 (c.fill.ensures.after (search rules)) c.box_value.ensures small c.box_cost.result c.box_cost.ensures.0)

pub returns : goal.returns
returns c = keeping_all c.args.widths.now c.args.width c.args.total c.args.cells.now _ _ _ _ _ c.loop-n.invariant c.loop-n-test.false
