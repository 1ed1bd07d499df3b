-- `report::filling::put_lines` meets its contract. The invariant: the lines so far stand at the front of the text, with those to come they
-- are all, and each has room.
-- Assumes nothing.
use mathlib.Core.Path.{◌≡◌}
use Prim.Native.Nat.{◌+◌, ◌-◌, ◌*◌, ◌≤◌}
use lib.ListN.{length}
use Rattle.report.proofs.Rows.{Putting}
use Rattle.report.proofs.filling.put_lines.Given as goal

abbrev pub invariant-loop : goal.invariant-loop
invariant-loop l = record {
  wide : length l.row ≡ length l.initial.row;
  room : l.end ≤ l.counter * (21 * length l.initial.row + 1);
  lines : Putting l.count l.initial.at l.pixels l.initial.row l.initial.cells l.initial.text (l.count - l.counter) l.at l.row l.cells l.text l.end;
}
