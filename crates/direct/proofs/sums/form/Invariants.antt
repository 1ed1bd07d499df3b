-- `direct::sums::form`: the grown rows so far, one after the other.
use Rattle.std.proofs.Common.{◌*◌}
use Rattle.spec.specs.Picture.{pictured}
use Rattle.laws.proofs.Slices.{Mixed}
use Rattle.direct.specs.Windows.{windows}
use Rattle.direct.proofs.sums.form.Given as goal

abbrev pub invariant-loop-j : goal.invariant-loop-j
invariant-loop-j l =
    Mixed (l.j * l.grown_width) (windows l.kernels.rows.now l.kernels.columns.now (pictured l.image)) l.initial.out l.out
