-- `blur::rims::rim` meets its contract: at each turn greys and leftovers stand at all places before.
-- Assumes nothing.
use Rattle.std.proofs.Common.{◌≡◌, ℕ, ◌<◌, pos, get_or}
use Rattle.spec.specs.Gray.{gray, leftover}
use Rattle.blur.specs.Rims.{weight_at}
use Rattle.blur.proofs.rims.rim.Given as goal

abbrev pub invariant-loop-k : goal.invariant-loop-k
invariant-loop-k l =
    ((n : ℕ) → n < l.k → get_or l.out n 0 ≡ gray (weight_at l.across l.down n) (get_or l.sums n 0))
    × ((n : ℕ) → n < l.k → get_or l.leftovers n (pos 0) ≡ leftover (weight_at l.across l.down n) (get_or l.sums n 0))
