-- What `search` does not find of `columns::added_row`.
use mathlib.Core.Path.{refl}
use Prim.Native.Nat.{◌+◌}
use native.Mathlib.Omega.{arith}
use Rattle.laws.proofs.Kernels.{at}
use Rattle.passes.proofs.Writing.{below_more}
use Rattle.passes.proofs.columns.added_row.Goals as goal

pub overflow_add-sum : goal.overflow_add-sum
unfolding at
overflow_add-sum c = omega (arith, c.requires.fits c.loop-i.i (omega arith))

pub loop-i-preserved : goal.loop-i-preserved
unfolding at
loop-i-preserved c =
    let args = c.args in
    let turn = c.loop-i in
    below_more (λ k. at args.above.now k + at args.coming.now k) turn.i turn.row _ turn.invariant (omega arith) refl
