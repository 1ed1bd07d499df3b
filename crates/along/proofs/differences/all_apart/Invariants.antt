-- `along::differences::all_apart` meets its contract: the widths that are left give what all of them give.
-- Assumes nothing.
use Rattle.along.specs.Private.{wide_boxes}
use Rattle.std.proofs.Common.{◌≡◌, drop}
use Rattle.along.proofs.differences.all_apart.Given as goal

abbrev pub invariant-loop-n : goal.invariant-loop-n
invariant-loop-n l = wide_boxes (drop l.n-index l.boxes) l.row ≡ wide_boxes l.boxes l.initial.row
