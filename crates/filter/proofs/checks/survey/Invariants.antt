-- After so many widths the reach is the total over them, and the weight is theirs, held at its limit.
-- Assumes nothing.
use mathlib.Core.Path.{◌≡◌}
use Prim.Native.Nat.{◌+◌, ◌*◌, ◌^◌, min}
use lib.ListN.{take}
use Rattle.spec.specs.Recipe.{box_order, weight}
use Rattle.filter.proofs.Widths.{Summed}
use Rattle.filter.proofs.checks.survey.Given as goal

abbrev pub invariant-loop-n : goal.invariant-loop-n
invariant-loop-n l =
    record {
      reach : Summed box_order 254 l.n-items l.n-index l.found.order;
      held : l.found.gain ≡ min (l.gain * weight (take l.n-index l.n-items)) (2 ^ 44 + 1);
    }
