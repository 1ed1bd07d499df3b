-- What `search` does not find of `rows::rise`.
use mathlib.Core.Path.{◌≡◌, sym, ◌∙◌}
use mathlib.Core.List.{List}
use Prim.Native.Nat.{ℕ, ◌+◌, ◌<◌}
use native.Mathlib.Omega.{arith}
use lib.ListN.{get_or, take}
use lib.Seq.{length-take-le, get_or-take}
use Rattle.laws.proofs.Sequences.{behind, behind_before}
use Rattle.laws.proofs.Kernels.{at}
use Rattle.laws.proofs.Cascades.{spread}
use Rattle.passes.proofs.Writing.{below_more}
use Rattle.passes.proofs.Running.{spread_rise, behind_next}
use Rattle.passes.proofs.rows.rise.Goals as goal

pub loop-k-init : goal.loop-k-init
loop-k-init c =
    let f = spread 1 c.args.n (at c.args.src.now) in
    record { within = omega arith; total = sym (behind_before f 1 0 (omega arith)); sums = λ k h. absurd (omega arith) }

-- the sum at k
next : (n stop k total : ℕ) (src : List ℕ) → k < n → k < stop → total ≡ behind (spread 1 n (at src)) 1 k
    → total + get_or (take stop src) k 0 ≡ spread 1 n (at src) k
unfolding at
next n stop k total src rising inside before =
    omega (arith, get_or-take stop src k 0 inside, spread_rise 1 n (at src) k (omega arith))

pub overflow_add-total : goal.overflow_add-total
overflow_add-total c =
    let turn = c.loop-k in
    let stop = c.min-stop.result in
    let src = c.args.src.now in
    let long = length-take-le stop src (omega arith) in
    let e = next c.args.n stop turn.k turn.total src (omega (arith, long)) (omega (arith, long)) turn.invariant.total in
    omega (arith, e, c.requires.small turn.k (omega (arith, long)))

pub loop-k-preserved : goal.loop-k-preserved
loop-k-preserved c =
    let turn = c.loop-k in
    let stop = c.min-stop.result in
    let src = c.args.src.now in
    let f = spread 1 c.args.n (at src) in
    let long = length-take-le stop src (omega arith) in
    let e = next c.args.n stop turn.k turn.total src (omega (arith, long)) (omega (arith, long)) turn.invariant.total in
    record {
      within = omega (arith, long);
      total = e ∙ sym (behind_next f turn.k);
      sums = below_more f turn.k turn.dst _ turn.invariant.sums (omega (arith, long, c.requires.size)) e;
    }
