-- `stream::columns::down` meets its contract: the groups so far are worked.
-- Assumes nothing.
use Rattle.std.proofs.Common.{◌≡◌, ◌≤◌, length}
use Rattle.spec.specs.Words.{total}
use Rattle.spec.specs.Stream.{box_cost}
use Rattle.stream.specs.Stages.{column_stage}
use Rattle.stream.proofs.Blocks.{cells_of}
use Rattle.stream.proofs.Groups.{Done}
use Rattle.stream.proofs.columns.down.Given as goal

abbrev pub invariant-loop-rest : goal.invariant-loop-rest
invariant-loop-rest l =
    record {
      wide : length l.row ≡ length l.initial.row;
      long : length l.cells ≡ length l.initial.cells;
      few : length l.rest ≤ length l.widths;
      room : total (cells_of (length l.initial.row)) l.widths ≤ length l.initial.cells;
      worked : Done (cells_of (length l.initial.row)) box_cost (column_stage l.emitted) l.widths l.initial.row l.initial.cells l.rest l.row l.cells l.start l.sum;
    }

abbrev pub decreases-loop-rest : goal.decreases-loop-rest
decreases-loop-rest l = length l.rest
