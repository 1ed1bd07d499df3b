-- `filter::coefficients::convolve` meets its contract: each width is one box filter more on the coefficients of those before it.
-- Assumes nothing.
use mathlib.Core.Path.{refl, sym, ap, ◌∙◌}
use mathlib.Core.List.{List, []}
use Prim.Native.Nat.{ℕ, ◌^◌, ◌≤◌, ◌<◌}
use native.Mathlib.Nat.{le_trans, le_of_eq}
use lib.ListN.{length, take}
use lib.Seq.{take_all}
use Rattle.spec.specs.Words.{tab, sum}
use Rattle.spec.specs.Recipe.{widths, weight, kernel}
use Rattle.laws.proofs.Kernels.{at, Holds, kernel_sum, tab_holds, holds_tab, totals_rise, totals_box}
use Rattle.laws.proofs.Sequences.{boxed as boxed_of}
use Rattle.laws.proofs.Cascades.{at_kernel_more}
use Rattle.laws.proofs.Lists.{product_front}
use Rattle.laws.proofs.Sums.{sum_agree}
use Rattle.laws.proofs.Boxes.{boxes_all}
use Rattle.filter.proofs.coefficients.convolve.Goals as goal

pub loop-n-init : goal.loop-n-init
loop-n-init c =
    let first = c.impulse.ensures in
    record {
      long = refl;
      holds = λ k h. ap (λ x. at x k) first ∙ tab_holds _ (at (kernel [])) k (rw (← first) h);
    }

-- the coefficients so far add up to the largest weight at most
bounded : (ws : List ℕ) (i : ℕ) (out : List ℕ) → 0 < weight ws → weight ws ≤ 2 ^ 44 → Holds (at (kernel (take i ws))) out
    → sum (length out) (at out) ≤ 2 ^ 44
unfolding weight
bounded ws i out p q h =
    le_trans (le_of_eq (sum_agree (at out) (at (kernel (take i ws))) (length out) h))
    (le_trans (kernel_sum (take i ws) (length out)) (le_trans (product_front i ws p) q))

pub accumulate-requires : goal.accumulate-requires
accumulate-requires c =
    let turn = c.loop-n in
    let all = boxes_all c.args.list _ c.boxes-n-items.ensures c.requires.0 in
    bounded (c.boxes-n-items.result.now) turn.n-index turn.out (rw all c.requires.1) (rw all c.requires.2) turn.invariant.holds

pub difference-requires : goal.difference-requires
difference-requires c =
    let turn = c.loop-n in
    totals_rise (at (kernel (take turn.n-index c.boxes-n-items.result.now))) turn.out turn.invariant.holds _ c.accumulate.ensures _

pub loop-n-preserved : goal.loop-n-preserved
loop-n-preserved c =
    let turn = c.loop-n in
    let ns = c.boxes-n-items.result.now in
    let totals = c.accumulate in
    let boxed = c.difference in
    record {
      long = boxed.auto.out ∙ totals.auto.out ∙ turn.invariant.long;
      holds =
          λ k h.
          totals_box (at (kernel (take turn.n-index ns))) turn.out turn.invariant.holds _ _ _ totals.ensures boxed.ensures k h
          ∙ ap (λ n. boxed_of n (at (kernel (take turn.n-index ns))) k) c.from.ensures
          ∙ sym (at_kernel_more ns turn.n-index k c.loop-n-test.true);
    }

pub returns : goal.returns
returns c =
    let turn = c.loop-n in
    let ns = widths c.args.list in
    let all = boxes_all c.args.list _ c.boxes-n-items.ensures c.requires.0 in
    let done = take_all turn.n-index c.boxes-n-items.result.now c.loop-n-test.false ∙ all in
    holds_tab (at (kernel ns)) turn.out (λ k h. turn.invariant.holds k h ∙ ap (λ ws. at (kernel ws) k) done)
    ∙ ap (λ n. tab n (at (kernel ns))) (turn.invariant.long ∙ c.impulse.auto.out)
