-- What `search` does not find of `differences::subtract`.
use Rattle.laws.proofs.Kernels.{at}
use Rattle.laws.proofs.Slices.{rightwards_none, rightwards_more, rightwards_all, mixed_back}
use Rattle.std.proofs.Common.{ap, le_refl, arith, rules}
use Rattle.along.specs.Private.{minus}
use Rattle.along.proofs.differences.subtract.Goals as goal

pub loop-k-init : goal.loop-k-init
loop-k-init c = rightwards_none (λ j. minus (at c.args.row.now j) (at c.args.by.now j)) c.args.row.now

pub loop-k-preserved : goal.loop-k-preserved
unfolding minus at
loop-k-preserved c =
    let turn = c.loop-k in
    let a = c.args in
    let by = at a.by.now in
    rightwards_more (λ j. minus (at a.row.now j) (by j)) a.row.now _ turn.invariant (search rules)
    (ap (λ x. minus x (by turn.k)) (mixed_back 0 turn.invariant turn.k (le_refl turn.k)))

pub returns : goal.returns
returns c = rightwards_all (λ j. minus (at c.args.row.now j) (at c.args.by.now j)) c.args.row.now c.loop-k.invariant (omega arith)
