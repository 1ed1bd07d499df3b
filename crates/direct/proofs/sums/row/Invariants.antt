-- `direct::sums::row`: the sums so far, from the left.
use Rattle.spec.specs.Picture.{pictured}
use Rattle.laws.proofs.Slices.{Rightwards}
use Rattle.direct.specs.Windows.{window}
use Rattle.direct.proofs.sums.row.Given as goal

abbrev pub invariant-loop-i : goal.invariant-loop-i
invariant-loop-i l =
    Rightwards (λ i. window l.kernels.rows.now l.kernels.columns.now (pictured l.image) i l.j) l.initial.out l.i l.out
