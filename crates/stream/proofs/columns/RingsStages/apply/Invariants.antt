-- `stream::columns::RingsStages::apply` meets its contract: after each turn, the stages so far.
-- Assumes nothing.
use Rattle.std.proofs.Common.{◌≡◌, length}
use Rattle.stream.specs.Private.{rings_from}
use Rattle.stream.proofs.columns.RingsStages.apply.Given as goal

abbrev pub invariant-loop-slot : goal.invariant-loop-slot
invariant-loop-slot g l =
    record {
      wide : length l.x ≡ length l.initial.x;
      long : length l.own ≡ length l.initial.own;
      row_is : l.x ≡ (rings_from l.from l.slot-items l.slot-index l.initial.x l.initial.own).row;
      own_is : l.own ≡ (rings_from l.from l.slot-items l.slot-index l.initial.x l.initial.own).cells;
    }
