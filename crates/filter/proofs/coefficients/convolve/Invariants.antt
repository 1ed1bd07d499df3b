-- After so many widths the slice holds their coefficients.
-- Assumes nothing.
use mathlib.Core.Path.{◌≡◌}
use lib.ListN.{length, take}
use Rattle.spec.specs.Recipe.{kernel}
use Rattle.laws.proofs.Kernels.{at, Holds}
use Rattle.filter.proofs.coefficients.convolve.Given as goal

abbrev pub invariant-loop-n : goal.invariant-loop-n
invariant-loop-n l =
    record {
      long : length l.out ≡ length l.initial.out;
      holds : Holds (at (kernel (take l.n-index l.n-items))) l.out;
    }
