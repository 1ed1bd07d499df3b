-- What `search` does not find of `inside::box_inside`.
use mathlib.Core.Path.{◌≡◌, sym, ap, ap₂, ◌∙◌}
use mathlib.Core.List.{List}
use Prim.Native.Nat.{ℕ, ◌+◌, ◌-◌, ◌/◌, ◌≤◌, ◌<◌, min}
use native.Mathlib.Omega.{arith}
use borrow.Author.Rules.{rules}
use lib.ListN.{length, get_or, length-set}
use Rattle.spec.specs.Words.{tab}
use Rattle.laws.proofs.Lists.{tab_agree}
use Rattle.laws.proofs.Sequences.{behind, boxed, running, behind_within, behind_before}
use Rattle.laws.proofs.Kernels.{at}
use Rattle.laws.proofs.Slices.{rightwards_none, rightwards_more, rightwards_all}
use Rattle.filter.proofs.Axes.{apart, totals_long, earlier_less, apart_box}
use Rattle.filter.proofs.inside.box_inside.Lts
use Rattle.filter.proofs.inside.box_inside.Reads
use Rattle.filter.proofs.inside.box_inside.Tie
use Rattle.filter.proofs.inside.box_inside.Goals as goal
use Rattle.filter.proofs.inside.box_inside.Goals.{then-i-last, else-i-last, then-i-side, else-i-side}

-- the coefficients, their running totals, and what stands for each of the two totals that a turn reads
module _ (t : Lts.At-loop Tie.the-claims Reads.Pre Reads.Post goal.the-invariant-loop-k goal.the-decreases-loop-k) where
  abbrev ks : List ℕ
  ks = t.args.kernel.now

  abbrev totals : List ℕ
  totals = t.accumulate.new.out

  abbrev side : ℕ
  side = length t.args.out.now

  are : totals ≡ tab (length ks) (running (at ks))
  are = t.accumulate.ensures

  abbrev half : ℕ
  half = (length totals - 1) / 2

  near : (k : ℕ) → k < side → k + half < side + length ks
  near k h = omega (arith, totals_long ks totals t.requires.0 are, t.requires.0)

module _ (c : Lts.Joined2 Tie.the-claims Reads.Pre Reads.Post goal.the-invariant-loop-k goal.the-decreases-loop-k) where
  abbrev turn : Lts.At-loop Tie.the-claims Reads.Pre Reads.Post goal.the-invariant-loop-k goal.the-decreases-loop-k
  turn = c.before.before.before

  abbrev place : ℕ
  place = c.loop-k.k + half turn

  here_is : c.if-i-last.here ≡ at (totals turn) (min place (length (totals turn) - 1))
  unfolding at
  here_is =
      elim c.if-i-last.branch [
        | then-i-last w ↦
            let e : min place (length (totals turn) - 1) ≡ place = omega (arith, w.if-i-last.true) in
            w.here-is ∙ ap (λ k. get_or (totals turn) k 0) (sym e)
        | else-i-last w ↦
            let e : min place (length (totals turn) - 1) ≡ length (totals turn) - 1 = omega (arith, w.if-i-last.false) in
            w.here-is ∙ ap (λ k. get_or (totals turn) k 0) (sym e)
      ]

  earlier_is : c.if-i-side.earlier ≡ behind (at (totals turn)) (side turn) place
  unfolding at
  earlier_is =
      elim c.if-i-side.branch [
        | then-i-side w ↦ w.earlier-is ∙ sym (behind_before (at (totals turn)) (side turn) place w.if-i-side.true)
        | else-i-side w ↦ w.earlier-is ∙ sym (behind_within (at (totals turn)) (side turn) place (omega (arith, w.if-i-side.false)))
      ]

  enough : behind (at (totals turn)) (side turn) place ≤ at (totals turn) (min place (length (totals turn) - 1))
  enough =
      earlier_less (ks turn) (totals turn) c.requires.0 (are turn) (side turn) place (near turn c.loop-k.k c.loop-k-test.true)

pub loop-k-init : goal.loop-k-init
loop-k-init c = (search rules, search rules, rightwards_none _ _)

pub overflow_sub-out : goal.overflow_sub-out
overflow_sub-out c = omega (arith, here_is c.before.before.before, earlier_is c.before.before.before, enough c.before.before.before)

pub loop-k-preserved : goal.loop-k-preserved
loop-k-preserved c =
    let t = turn c.before.before.before in (
      simp length-set c.loop-k.invariant.0,
      search rules,
      rightwards_more (λ k. apart (totals t) (side t) (k + half t)) c.args.out.now _ c.loop-k.invariant.2 (search rules)
          (ap₂ ◌-◌ (here_is c.before.before.before) (earlier_is c.before.before.before)),
    )

pub returns : goal.returns
returns c =
    let all = rightwards_all (λ k. apart (totals c.before.before) (side c.before.before) (k + half c.before.before)) c.args.out.now c.loop-k.invariant.2 (search rules) in
    let long = totals_long (ks c.before.before) (totals c.before.before) c.requires.0 (are c.before.before) in
    all
    ∙ tab_agree (side c.before.before) (λ k. apart (totals c.before.before) (side c.before.before) (k + half c.before.before)) (λ k. boxed (side c.before.before) (at (ks c.before.before)) (k + (length (ks c.before.before) - 1) / 2))
    (λ k h.
    apart_box (ks c.before.before) (totals c.before.before) c.requires.0 (are c.before.before) (side c.before.before) (k + half c.before.before) (near c.before.before k h)
    ∙ ap (λ n. boxed (side c.before.before) (at (ks c.before.before)) (k + (n - 1) / 2)) long)
