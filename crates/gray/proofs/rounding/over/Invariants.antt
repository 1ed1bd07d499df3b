-- The upper bits are counted: at most two for each sum so far, and none exactly where no sum so far is above the limit.
-- Assumes nothing.
use Rattle.std.proofs.Common.{◌≡◌, ◌*◌, ◌≤◌, not, eqb, ltb, take}
use Rattle.spec.specs.Words.{somewhere}
use Rattle.gray.proofs.rounding.over.Given as goal

abbrev pub invariant-loop-sum : goal.invariant-loop-sum
invariant-loop-sum l = record {
  few : l.count ≤ 2 * l.sum-index;
  found : not (eqb l.count 0) ≡ somewhere (ltb l.most) (take l.sum-index l.sums);
}
