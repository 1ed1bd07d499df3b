-- `blur::rims::run_start` meets its contract: all weights from there to the place are equal.
-- Assumes nothing.
use Rattle.std.proofs.Common.{◌≡◌, ℕ, ◌≤◌, get_or}
use Rattle.blur.proofs.rims.run_start.Given as goal

abbrev pub invariant-loop-from : goal.invariant-loop-from
invariant-loop-from l = (n : ℕ) → l.from ≤ n → n ≤ l.at → get_or l.weights n 0 ≡ get_or l.weights l.at 0
