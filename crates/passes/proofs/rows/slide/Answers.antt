-- What `search` does not find of `rows::slide`.
use mathlib.Core.Path.{◌≡◌, sym, ap, ◌∙◌}
use mathlib.Core.List.{List}
use Prim.Native.Nat.{ℕ, ◌+◌, ◌-◌, ◌<◌}
use native.Mathlib.Omega.{arith}
use lib.ListN.{length, get_or, take, drop}
use Rattle.laws.proofs.Sequences.{behind}
use Rattle.laws.proofs.Kernels.{at}
use Rattle.laws.proofs.Cascades.{spread}
use Rattle.laws.proofs.Slices.{get_d_between}
use Rattle.passes.proofs.Writing.{below_more}
use Rattle.passes.proofs.Running.{spread_along, behind_next, fits}
use Rattle.passes.proofs.rows.slide.Goals as goal

-- At a place of the rest, k places into it: what comes in, and the sum there. With what goes out it is the sum before and what comes in.
module _ (n start k total : ℕ) (src : List ℕ) (inside : k < length src - start) where
  coming : get_or (take (length src - start) (drop start src)) k 0 ≡ at src (start + k)
  unfolding at
  coming = get_d_between 0 src start (length src) (omega arith) (omega arith) k inside

  next : start ≡ n → total ≡ behind (spread 1 n (at src)) 1 (start + k)
      → spread 1 n (at src) (start + k) + get_or src k 0 ≡ total + get_or (take (length src - start) (drop start src)) k 0
  unfolding at
  next is before =
      let e : start + k - n ≡ k = omega arith in
      omega (arith, coming, ap (at src) e, spread_along n (at src) (start + k) (omega arith))

pub overflow_add-total : goal.overflow_add-total
overflow_add-total c =
    let turn = c.loop-k in
    let start = c.min-start.result in
    let here = start + turn.k in
    omega (arith, turn.invariant.total, coming c.args.n start turn.k turn.total c.args.src.now (omega arith), fits 1 c.args.n _ _ c.requires.ready here (omega arith))

pub overflow_sub-total : goal.overflow_sub-total
overflow_sub-total c =
    let turn = c.loop-k in
    omega (arith, next c.args.n c.min-start.result turn.k turn.total c.args.src.now (omega arith) (omega arith) turn.invariant.total)

pub loop-k-preserved : goal.loop-k-preserved
loop-k-preserved c =
    let turn = c.loop-k in
    let src = c.args.src.now in
    let start = c.min-start.result in
    let f = spread 1 c.args.n (at src) in
    let here = start + turn.k in
    let more : start + (turn.k + 1) ≡ here + 1 = omega arith in
    let e : turn.total + get_or (take (length src - start) (drop start src)) turn.k 0 - get_or src turn.k 0 ≡ f here =
    omega (arith, next c.args.n start turn.k turn.total src (omega arith) (omega arith) turn.invariant.total) in
    record {
      within = omega arith;
      total = e ∙ sym (behind_next f here) ∙ ap (behind f 1) (sym more);
      sums = λ k h. below_more f here turn.dst _ turn.invariant.sums (omega (arith, c.requires.ready.size)) e k (omega arith);
    }
