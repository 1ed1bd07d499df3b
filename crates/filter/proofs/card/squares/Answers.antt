-- `filter::card::squares` meets its contract: a width more adds its square less one.
-- Assumes nothing.
use mathlib.Core.Path.{ap, ◌∙◌}
use native.Mathlib.Omega.{arith}
use Rattle.spec.specs.Gray.{box_square, squares}
use Rattle.spec.specs.Words.{total}
use Rattle.laws.proofs.Boxes.{boxes_all, boxes_few}
use Rattle.filter.proofs.Widths.{summed_none, summed_more, summed_all}
use Rattle.filter.proofs.card.squares.Goals as goal

pub loop-n-init : goal.loop-n-init
loop-n-init c = summed_none box_square 65024 _

pub overflow_add-sum : goal.overflow_add-sum
overflow_add-sum c =
    let few = boxes_few c.args.list _ c.boxes-n-items.ensures in
    record { fits = omega (arith, c.loop-n.invariant.small, c.loop-n-test.true, few, c.square-sum.ensures.1) }

pub loop-n-preserved : goal.loop-n-preserved
loop-n-preserved c =
    summed_more box_square 65024 c.boxes-n-items.result.now c.loop-n.n-index c.loop-n.invariant _ c.loop-n-test.true c.square-sum.ensures.0 c.square-sum.ensures.1

pub returns : goal.returns
unfolding squares
returns c =
    let ns = c.boxes-n-items.result.now in
    let all = boxes_all c.args.list ns c.boxes-n-items.ensures c.requires in (
      summed_all box_square 65024 ns c.loop-n.n-index c.loop-n.invariant c.loop-n-test.false ∙ ap (total box_square) all,
      omega (arith, c.loop-n.invariant.small, c.loop-n.auto.n-index-end, boxes_few c.args.list ns c.boxes-n-items.ensures),
    )
