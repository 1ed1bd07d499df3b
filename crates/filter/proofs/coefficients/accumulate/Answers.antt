-- `filter::coefficients::accumulate` meets its contract: what is read is what stood there, and the total with it is at most that of all.
-- Assumes nothing.
use mathlib.Core.Path.{◌≡◌, refl, ap, ap₂, ◌∙◌}
use mathlib.Core.List.{List}
use Prim.Native.Nat.{ℕ, ◌+◌, ◌^◌, ◌≤◌, ◌<◌}
use native.Mathlib.Nat.{le_refl, le_trans}
use native.Mathlib.Numerals.{add-one}
use native.Mathlib.Omega.{arith}
use borrow.Author.Rules.{rules}
use lib.ListN.{length, get_or}
use Rattle.spec.specs.Words.{sum}
use Rattle.laws.proofs.Sums.{sum_grows}
use Rattle.laws.proofs.Sequences.{running}
use Rattle.laws.proofs.Kernels.{at}
use Rattle.laws.proofs.Slices.{Rightwards, rightwards_none, rightwards_more, rightwards_all, mixed_back}
use Rattle.filter.proofs.coefficients.accumulate.Goals as goal

pub loop-x-init : goal.loop-x-init
unfolding sum
loop-x-init c = record { is = refl; written = rightwards_none (running (at c.args.out.now)) _ }

entry : (old out : List ℕ) (i total : ℕ) → total ≡ sum i (at old) → Rightwards (running (at old)) old i out → total + get_or out i 0 ≡ sum (i + 1) (at old)
unfolding sum at
entry old out i total e w = rw (add-one i) (ap₂ ◌+◌ e (mixed_back 0 w i (le_refl i)))

within : (old : List ℕ) (i : ℕ) → i < length old → sum (length old) (at old) ≤ 2 ^ 44 → sum (i + 1) (at old) ≤ 2 ^ 44
within old i h most = le_trans (sum_grows (at old) (i + 1) (length old) (omega arith)) most

pub overflow_add-total : goal.overflow_add-total
overflow_add-total c =
    let turn = c.loop-x in
    let old = c.args.out.now in
    record { fits = omega (arith, entry old turn.out turn.x-index turn.total turn.invariant.is turn.invariant.written, within old turn.x-index c.loop-x-test.true c.requires) }

pub loop-x-preserved : goal.loop-x-preserved
unfolding running
loop-x-preserved c =
    let turn = c.loop-x in
    let old = c.args.out.now in
    let e = entry old turn.out turn.x-index turn.total turn.invariant.is turn.invariant.written in
    record {
      is = e;
      written = rightwards_more (running (at old)) old _ turn.invariant.written (search rules) (e ∙ ap (λ n. sum n (at old)) (add-one turn.x-index));
    }

pub returns : goal.returns
returns c =
    let old = c.args.out.now in
    rightwards_all (running (at old)) old c.loop-x.invariant.written (omega arith)
