-- `stream::columns::alike` meets its contract: the widths so far lie between the bounds.
-- Assumes nothing.
use Rattle.std.proofs.Common.{ℕ, ◌<◌, ◌≤◌, get_or}
use Rattle.stream.proofs.columns.alike.Given as goal

abbrev pub invariant-loop-s : goal.invariant-loop-s
invariant-loop-s l = (j : ℕ) → j < l.s → (l.least ≤ get_or l.front j 0) × (get_or l.front j 0 ≤ l.most)
