-- `blur::rims::invert` meets its contract: at each turn the reciprocals stand at all places before.
-- Assumes nothing.
use Rattle.std.proofs.Common.{◌≡◌, ℕ, ◌<◌, get_or}
use Rattle.gray.specs.Division.{reciprocal_of}
use Rattle.blur.specs.Rims.{weight_at}
use Rattle.blur.proofs.rims.invert.Given as goal

abbrev pub invariant-loop-k : goal.invariant-loop-k
invariant-loop-k l = (n : ℕ) → n < l.k → get_or l.reciprocals n 0 ≡ reciprocal_of (weight_at l.across l.down n)
