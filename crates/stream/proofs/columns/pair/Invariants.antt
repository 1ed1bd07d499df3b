-- `stream::columns::pair` meets its contract: the values and the cells are written from the left.
-- Assumes nothing.
use Rattle.std.proofs.Common.{◌≡◌, ℕ, ◌≤◌, List, length, get_or}
use Rattle.laws.proofs.Slices.{Rightwards}
use Rattle.stream.specs.Stages.{plus}
use Rattle.stream.proofs.columns.pair.Given as goal

-- the sum with the value above
abbrev pub made : List ℕ → List ℕ → ℕ → ℕ
made xs was i = plus (get_or xs i 0) (get_or was i 0)

abbrev pub kept : List ℕ → ℕ → ℕ
kept xs i = get_or xs i 0

abbrev pub invariant-loop-k : goal.invariant-loop-k
invariant-loop-k l =
    (l.k-end ≡ length l.initial.x) × (length l.x ≡ length l.initial.x) × (length l.own ≡ length l.initial.own) × (l.k ≤ l.k-end)
    × Rightwards (made l.initial.x l.initial.own) l.initial.x l.k l.x × Rightwards (kept l.initial.x) l.initial.own l.k l.own
