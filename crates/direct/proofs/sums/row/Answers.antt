-- What `search` does not find of `sums::row`.
use Rattle.std.proofs.Common.{arith}
use Rattle.spec.specs.Picture.{pictured}
use Rattle.laws.proofs.Slices.{rightwards_none, rightwards_more, rightwards_all}
use Rattle.direct.specs.Windows.{window}
use Rattle.direct.proofs.sums.row.Goals as goal

pub loop-i-init : goal.loop-i-init
loop-i-init c = rightwards_none _ _

pub loop-i-preserved : goal.loop-i-preserved
loop-i-preserved c =
    let args = c.args in
    rightwards_more (λ i. window args.kernels.rows.now args.kernels.columns.now (pictured args.image) i args.j)
    args.out.now c.down.result c.loop-i.invariant (omega arith) c.down.ensures

pub returns : goal.returns
returns c =
    let args = c.args in
    rightwards_all (λ i. window args.kernels.rows.now args.kernels.columns.now (pictured args.image) i args.j)
    args.out.now c.loop-i.invariant (omega arith)
