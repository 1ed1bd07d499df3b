-- `passes::buffers::Buffers::carry` meets its contract: the row widths, and then the column widths on what they leave.
-- Assumes nothing.
use mathlib.Core.Path.{◌≡◌, sym, ap, subst, ◌∙◌}
use mathlib.Core.List.{List}
use Prim.Native.Nat.{ℕ, ◌<◌}
use native.Mathlib.Omega.{arith}
use lib.ListN.{length}
use Rattle.spec.specs.Recipe.{recipe, weight}
use Rattle.laws.proofs.Kernels.{at}
use Rattle.laws.proofs.Cascades.{cascaded}
use Rattle.laws.proofs.Exact.{rows_pos, columns_pos}
use Rattle.passes.specs.Steps.{Below, Small}
use Rattle.passes.specs.Turned.{held, turned_by}
use Rattle.passes.proofs.Turning.{all_boxes}
use Rattle.passes.proofs.Whole.{rows_small, columns_small, columns_carry}
use Rattle.passes.proofs.buffers.Buffers.carry.Goals as goal

pub cascade-requires : goal.cascade-requires
unfolding recipe
cascade-requires c =
    let args = c.args in
    let r = recipe args.filter in
    let k = c.requires.accepted in
    let b = args.self.now in
    let all = c.boxes.ensures ∙ all_boxes r.rows k.rows_short in
    record {
      not_zero = subst (λ ws. 0 < weight ws) (sym all) (rows_pos r k.not_zero);
      apart = omega arith;
      offsets = omega arith;
      small = subst (λ ws. Small (length b.out.now) (cascaded 1 ws (at (held b)))) (sym all)
          (rows_small r args.full_width (length b.out.now) (held b) c.requires.small k.not_zero);
    }

-- what the row widths leave
rows : (r : List ℕ) (boxes : List ℕ) (size : ℕ) (now new : List ℕ) → boxes ≡ r → Below size (cascaded 1 boxes (at now)) new → Below size (cascaded 1 r (at now)) new
rows r boxes size now new e b = subst (λ ws. Below size (cascaded 1 ws (at now)) new) e b

pub cascade-requires-2 : goal.cascade-requires-2
unfolding recipe
cascade-requires-2 c =
    let args = c.args in
    let r = recipe args.filter in
    let k = c.requires.accepted in
    let b = args.self.now in
    let t = c.cascade.ensures in
    let size = length b.out.now in
    let all = c.boxes-2.ensures ∙ all_boxes r.columns k.columns_short in
    let first = rows r.rows c.boxes.result.now size (held b) (held c.cascade.new.self) (c.boxes.ensures ∙ all_boxes r.rows k.rows_short) t.sums in
    record {
      not_zero = subst (λ ws. 0 < weight ws) (sym all) (columns_pos r k.not_zero);
      apart = c.requires.wide;
      offsets = c.requires.offsets;
      small = subst (λ ws. Small (length c.cascade.new.self.out.now) (cascaded args.full_width ws (at (held c.cascade.new.self)))) (sym all)
          (λ i h. columns_small r args.full_width size (held b) c.requires.small _ first i (omega (arith, t.same.long)));
    }

pub returns-clause-holder : goal.returns-clause-holder
unfolding recipe
returns-clause-holder c =
    let args = c.args in
    let r = recipe args.filter in
    let k = c.requires.accepted in
    let all = c.boxes.ensures ∙ all_boxes r.rows k.rows_short in
    let all2 = c.boxes-2.ensures ∙ all_boxes r.columns k.columns_short in
    c.cascade-2.ensures.holder
    ∙ ap (λ ws. turned_by ws c.cascade.new.self.holder) all2
    ∙ ap (turned_by r.columns) (c.cascade.ensures.holder ∙ ap (λ ws. turned_by ws args.self.now.holder) all)

pub returns-clause-sums : goal.returns-clause-sums
unfolding recipe
returns-clause-sums c =
    let args = c.args in
    let r = recipe args.filter in
    let k = c.requires.accepted in
    let b = args.self.now in
    let t = c.cascade.ensures in
    let size = length b.out.now in
    let all = c.boxes-2.ensures ∙ all_boxes r.columns k.columns_short in
    let first = rows r.rows c.boxes.result.now size (held b) (held c.cascade.new.self) (c.boxes.ensures ∙ all_boxes r.rows k.rows_short) t.sums in
    λ i h. c.cascade-2.ensures.sums i (omega (arith, t.same.long))
    ∙ ap (λ ws. cascaded args.full_width ws (at (held c.cascade.new.self)) i) all
    ∙ columns_carry r args.full_width size (held b) c.requires.small _ first i h
