-- `rows::skip` meets its contract: what is left to pass over, from where it stands, leads where the whole does.
-- Assumes nothing.
use mathlib.Core.Path.{◌≡◌}
use Prim.Native.Nat.{◌-◌}
use lib.ListN.{length}
use Rattle.rows.specs.Advance.{skip}
use Rattle.rows.proofs.skip.Given as goal

abbrev pub invariant-loop : goal.invariant-loop
invariant-loop l =
    record {
      wide : length l.row ≡ length l.initial.row;
      long : length l.cells ≡ length l.initial.cells;
      leads : skip (l.count - l.counter) l.at l.pixels l.row l.cells ≡ skip l.count l.initial.at l.pixels l.initial.row l.initial.cells;
    }
