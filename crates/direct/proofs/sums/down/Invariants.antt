-- `direct::sums::down`: the rows of the window so far, from the first that is inside the picture.
use Rattle.std.proofs.Common.{◌*◌}
use Rattle.spec.specs.Picture.{pictured}
use Rattle.laws.proofs.Exact.{line}
use Rattle.direct.specs.Windows.{through, mass}
use Rattle.direct.proofs.Weighing.{Weighed}
use Rattle.direct.proofs.sums.down.Given as goal

abbrev pub invariant-loop-b : goal.invariant-loop-b
invariant-loop-b l =
    Weighed l.kernels.columns.now (λ v. through l.kernels.rows.now (line (pictured l.image) v) l.i) l.j (65535 * mass l.kernels.rows.now) l.b l.total
