-- `filter::lists::width_at` meets its contract, by the tests on the way.
-- Assumes nothing.
use mathlib.Core.Path.{sym, ◌∙◌}
use native.Mathlib.Omega.{arith}
use lib.ListN.{get_or-eq_default}
use Rattle.filter.proofs.Widths.{width_stored, width_past}
use Rattle.filter.proofs.lists.width_at.Goals as goal

pub returns-then-from-i : goal.returns-then-from-i
returns-then-from-i c =
    sym (width_past (record { count = c.args.count; widths = c.args.array.now }) c.args.i (omega arith))

pub returns-then-array-i : goal.returns-then-array-i
returns-then-array-i c =
    sym (width_stored (record { count = c.args.count; widths = c.args.array.now }) c.args.i (omega arith) ∙ get_or-eq_default c.args.array.now 0 c.if-array-i.true)

pub returns-else-array-i : goal.returns-else-array-i
returns-else-array-i c =
    sym (width_stored (record { count = c.args.count; widths = c.args.array.now }) c.args.i (omega arith))
