-- What `search` does not find of `columns::added_places`.
use native.Mathlib.Omega.{arith}
use Rattle.laws.proofs.Kernels.{at}
use Rattle.laws.proofs.Cascades.{spread}
use Rattle.passes.proofs.Writing.{below_more}
use Rattle.passes.proofs.Running.{sum_fits, sum_grows, still_ready}
use Rattle.passes.proofs.columns.added_places.Goals as goal

pub overflow_add-dst : goal.overflow_add-dst
unfolding at
overflow_add-dst c =
    let args = c.args in
    let turn = c.loop-k in
    let ready = still_ready args.step args.n args.src.now args.dst.now turn.dst c.requires.ready turn.auto.dst in
    omega (arith, sum_fits args.step args.n args.src.now turn.dst turn.k ready (omega arith) (λ i h. turn.invariant i (omega arith)) turn.k (omega arith) (omega (arith, ready.apart)) (omega arith))

pub loop-k-preserved : goal.loop-k-preserved
unfolding at
loop-k-preserved c =
    let args = c.args in
    let turn = c.loop-k in
    let ready = still_ready args.step args.n args.src.now args.dst.now turn.dst c.requires.ready turn.auto.dst in
    let sum = sum_grows args.step args.n args.src.now turn.dst turn.k ready (omega arith) (λ i h. turn.invariant i (omega arith)) turn.k (omega arith) (omega (arith, ready.apart)) (omega arith) in
    λ i h. below_more (spread args.step args.n (at args.src.now)) turn.k turn.dst _ (λ i g. turn.invariant i (omega arith)) (omega (arith, ready.size)) sum i (omega arith)
