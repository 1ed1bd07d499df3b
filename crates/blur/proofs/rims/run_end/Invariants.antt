-- `blur::rims::run_end` meets its contract: all weights from the place on, as far as it has come, are equal.
-- Assumes nothing.
use Rattle.std.proofs.Common.{◌≡◌, ℕ, ◌≤◌, ◌<◌, get_or}
use Rattle.blur.proofs.rims.run_end.Given as goal

abbrev pub invariant-loop-to : goal.invariant-loop-to
invariant-loop-to l = (n : ℕ) → l.at ≤ n → n < l.to → get_or l.weights n 0 ≡ get_or l.weights l.at 0
