-- `stream::columns::sweep` meets its contract: block by block, the columns so far are worked.
-- Assumes nothing.
use Rattle.std.proofs.Common.{◌≡◌, ◌*◌, length}
use Rattle.stream.proofs.Sweeps.{Swept}
use Rattle.stream.proofs.columns.sweep.Given as goal

abbrev pub invariant-loop-k : goal.invariant-loop-k
invariant-loop-k g l =
    record {
      wide : length l.row ≡ length l.initial.row;
      long : length l.own ≡ length l.initial.own;
      swept : Swept (g.S.Stages.made l.stages) l.initial.row l.initial.own (8 * l.k) l.row l.own;
    }
