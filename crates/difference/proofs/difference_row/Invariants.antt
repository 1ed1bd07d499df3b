-- `difference::difference_row` meets its contract: the differences are written from the left; each sum times the other weight is at most 255 times the product of the weights.
-- Assumes nothing.
use Rattle.std.proofs.Common.{◌≡◌, ℕ, ◌*◌, ◌<◌, pos, get_or}
use Rattle.spec.specs.Gray.{nearest_difference}
use Rattle.difference.proofs.difference_row.Given as goal

abbrev pub invariant-loop-k : goal.invariant-loop-k
invariant-loop-k l =
    (n : ℕ) → n < l.k
    → get_or l.out n (pos 0)
    ≡ nearest_difference (get_or l.a.sums.now n 0 * l.b.weight) (get_or l.b.sums.now n 0 * l.a.weight) (l.a.weight * l.b.weight)
