-- `stream::columns::slots` meets its contract: after s widths their slots are placed.
-- Assumes nothing.
use Rattle.std.proofs.Common.{◌≡◌, ◌*◌, ◌≤◌, length}
use Rattle.stream.proofs.Runs.{Placing}
use Rattle.stream.proofs.columns.slots.Given as goal

abbrev pub invariant-loop-s : goal.invariant-loop-s
invariant-loop-s g l =
    record {
      many : length l.slots ≡ length l.widths;
      small : l.start ≤ l.s * (255 * 1279);
      placed : Placing l.width l.emitted l.widths l.slots l.s l.start;
    }
