-- `filter::coefficients::difference` meets its contract: what is read is what stood there, and the entry n places earlier is the one behind.
-- Assumes nothing.
use mathlib.Core.Path.{◌≡◌, sym, ap₂, ◌∙◌}
use mathlib.Core.List.{List}
use Prim.Native.Nat.{ℕ, ◌+◌, ◌-◌, ◌<◌}
use native.Mathlib.Omega.{arith}
use lib.ListN.{get_or}
use Rattle.laws.proofs.Sequences.{behind, behind_within, behind_before}
use Rattle.laws.proofs.Kernels.{at}
use Rattle.laws.proofs.Slices.{Leftwards, leftwards_none, leftwards_more, leftwards_all, mixed_front}
use Rattle.filter.proofs.coefficients.difference.Goals as goal

pub loop-k-init : goal.loop-k-init
loop-k-init c = leftwards_none (λ j. at c.args.out.now j - behind (at c.args.out.now) c.args.n j) _

module _ (old out : List ℕ) (n k : ℕ) (w : Leftwards (λ j. at old j - behind (at old) n j) old k out) (h : n < k) where
  here : get_or out (k - 1) 0 ≡ at old (k - 1)
  unfolding at
  here = mixed_front 0 w (k - 1) (omega arith)

  earlier : get_or out (k - 1 - n) 0 ≡ behind (at old) n (k - 1)
  unfolding at
  earlier = mixed_front 0 w (k - 1 - n) (omega arith) ∙ sym (behind_within (at old) n (k - 1) (omega arith))

pub overflow_sub-out-in-loop-k : goal.overflow_sub-out-in-loop-k
overflow_sub-out-in-loop-k c =
    let turn = c.loop-k in
    let old = c.args.out.now in
    let h = c.loop-k-test.true in
    omega (arith, here old turn.out c.args.n turn.k turn.invariant h, earlier old turn.out c.args.n turn.k turn.invariant h, c.requires (turn.k - 1) (omega (arith, turn.auto.k)))

pub loop-k-preserved : goal.loop-k-preserved
loop-k-preserved c =
    let turn = c.loop-k in
    let old = c.args.out.now in
    let n = c.args.n in
    let h = c.loop-k-test.true in
    let e : turn.k - 1 + 1 ≡ turn.k = omega arith in
    leftwards_more (λ j. at old j - behind (at old) n j) old (turn.k - 1) {l = turn.out} _ (rw e turn.invariant)
    (ap₂ ◌-◌ (here old turn.out n turn.k turn.invariant h) (earlier old turn.out n turn.k turn.invariant h))

pub returns : goal.returns
unfolding at
returns c =
    let old = c.args.out.now in
    let n = c.args.n in
    leftwards_all (λ j. at old j - behind (at old) n j) old 0 c.loop-k.invariant
    (λ j h.
    let past : behind (at old) n j ≡ 0 = behind_before (at old) n j (omega (arith, c.loop-k-test.false)) in
    omega arith)
