-- Entries are written from the left, each the total so far.
-- Assumes nothing.
use mathlib.Core.Path.{◌≡◌}
use Rattle.spec.specs.Words.{sum}
use Rattle.laws.proofs.Sequences.{running}
use Rattle.laws.proofs.Kernels.{at}
use Rattle.laws.proofs.Slices.{Rightwards}
use Rattle.filter.proofs.coefficients.accumulate.Given as goal

abbrev pub invariant-loop-x : goal.invariant-loop-x
invariant-loop-x l =
    record {
      is : l.total ≡ sum l.x-index (at l.initial.out);
      written : Rightwards (running (at l.initial.out)) l.initial.out l.x-index l.out;
    }
