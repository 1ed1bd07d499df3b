-- `stream::columns::total` meets its contract: entries are written from the left.
-- Assumes nothing.
use Rattle.laws.proofs.Slices.{Rightwards}
use Rattle.stream.specs.Stages.{plus}
use Rattle.std.proofs.Common.{◌≡◌, ℕ, ◌≤◌, List, length, get_or}
use Rattle.stream.proofs.columns.total.Given as goal

abbrev pub made : List ℕ → List ℕ → ℕ → ℕ
made x before j = plus (get_or before j 0) (get_or x j 0)

abbrev pub invariant-loop-k : goal.invariant-loop-k
invariant-loop-k l =
    (l.k-end ≡ length l.x) × (length l.before ≡ length l.x) × (length l.initial.totals ≡ length l.x) × (length l.totals ≡ length l.initial.totals) × (l.k ≤ l.k-end)
    × Rightwards (made l.x l.before) l.initial.totals l.k l.totals
