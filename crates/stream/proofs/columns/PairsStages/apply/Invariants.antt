-- `stream::columns::PairsStages::apply` meets its contract: after each turn, the stages so far.
-- Assumes nothing.
use Rattle.std.proofs.Common.{◌≡◌, length}
use Rattle.stream.specs.Private.{pairs_from}
use Rattle.stream.proofs.columns.PairsStages.apply.Given as goal

abbrev pub invariant-loop-s : goal.invariant-loop-s
invariant-loop-s l =
    record {
      wide : length l.x ≡ length l.initial.x;
      long : length l.own ≡ length l.initial.own;
      row_is : l.x ≡ (pairs_from l.from l.self.width l.s l.initial.x l.initial.own).row;
      own_is : l.own ≡ (pairs_from l.from l.self.width l.s l.initial.x l.initial.own).cells;
    }
