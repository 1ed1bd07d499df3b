-- What `search` does not find of `differences::eight_apart`: the part n places earlier is copied, and the part that was lent comes back.
use Rattle.std.proofs.Common.{◌-◌, ◌+◌, replicate, refl, arith, rules}
use Rattle.laws.proofs.Kernels.{at}
use Rattle.laws.proofs.Slices.{rightwards_none, rightwards_more, rightwards_all}
use Rattle.along.proofs.Backwards.{eight_made}
use Rattle.along.proofs.differences.eight_apart.Goals as goal

pub loop-k-init : goal.loop-k-init
loop-k-init c = rightwards_none (λ j. at c.args.row.now (c.args.from - c.args.n + j)) (replicate 8 0)

pub loop-k-preserved : goal.loop-k-preserved
unfolding at
loop-k-preserved c =
    rightwards_more (λ j. at c.args.row.now (c.args.from - c.args.n + j)) (replicate 8 0) _ c.loop-k.invariant (search rules) refl

pub returns : goal.returns
returns c =
    let a = c.args in
    let earlier = rightwards_all (λ j. at a.row.now (a.from - a.n + j)) (replicate 8 0) c.loop-k.invariant (omega arith) in
    eight_made a.n a.from a.row.now _ _ c.requires.1 earlier c.subtract.ensures
