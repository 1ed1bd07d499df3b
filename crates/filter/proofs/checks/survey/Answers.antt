-- `filter::checks::survey` meets its contract: a width more adds its reach, and multiplies the weight.
-- Assumes nothing.
use mathlib.Core.Path.{ap, ◌∙◌}
use Prim.Native.Nat.{◌+◌, ◌*◌, ◌^◌, min}
use native.Mathlib.Omega.{arith}
use borrow.Author.Rules.{rules}
use lib.Seq.{take_all}
use Rattle.spec.specs.Words.{product, total}
use Rattle.spec.specs.Recipe.{box_order, order, weight}
use Rattle.laws.proofs.Boxes.{boxes_all, boxes_few}
use Rattle.filter.proofs.Widths.{summed_none, summed_more, summed_all, capped_more}
use Rattle.filter.proofs.checks.survey.Goals as goal

pub loop-n-init : goal.loop-n-init
unfolding weight product
loop-n-init c = record { reach = summed_none box_order 254 _; held = search rules }

pub overflow_add-found : goal.overflow_add-found
overflow_add-found c =
    let few = boxes_few c.args.list _ c.boxes-n-items.ensures in
    record { fits = omega (arith, c.loop-n.invariant.reach.small, c.loop-n-test.true, few, c.box_order.ensures.1) }

pub times-requires : goal.times-requires
times-requires c = omega (arith, c.loop-n.invariant.held)

pub loop-n-preserved : goal.loop-n-preserved
loop-n-preserved c =
    let now = c.loop-n in
    let ns = c.boxes-n-items.result.now in
    let order = c.box_order.ensures in
    record {
      reach = summed_more box_order 254 ns now.n-index now.invariant.reach c.box_order.result c.loop-n-test.true order.0 order.1;
      held =
          capped_more c.args.gain (2 ^ 44 + 1) ns now.n-index now.found.gain c.times.result c.loop-n-test.true now.invariant.held c.times.ensures;
    }

pub returns : goal.returns
unfolding order
returns c =
    let now = c.loop-n in
    let ns = c.boxes-n-items.result.now in
    let all = boxes_all c.args.list ns c.boxes-n-items.ensures c.requires.0 in (
      summed_all box_order 254 ns now.n-index now.invariant.reach c.loop-n-test.false ∙ ap (total box_order) all,
      now.invariant.held ∙ ap (λ ws. min (c.args.gain * weight ws) (2 ^ 44 + 1)) (take_all now.n-index ns c.loop-n-test.false ∙ all),
    )
