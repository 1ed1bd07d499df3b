-- `stream::columns::settle` meets its contract: entries are written from the left.
-- Assumes nothing.
use Rattle.std.proofs.Common.{◌≡◌, ℕ, List, length, get_or}
use Rattle.laws.proofs.Slices.{Rightwards}
use Rattle.stream.specs.Stages.{minus}
use Rattle.stream.proofs.columns.settle.Given as goal

abbrev pub made : List ℕ → List ℕ → ℕ → ℕ
made totals oldest j = minus (get_or totals j 0) (get_or oldest j 0)

abbrev pub invariant-loop-k : goal.invariant-loop-k
invariant-loop-k l =
    (length l.x ≡ length l.initial.x) × (length l.oldest ≡ length l.initial.x) × (length l.totals ≡ length l.initial.x)
    × Rightwards (made l.totals l.oldest) l.initial.x l.k l.x
