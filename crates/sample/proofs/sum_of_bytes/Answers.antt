-- What is not found of `sample::sum_of_bytes`.
-- Assumes nothing.
use native.Mathlib.Omega.{arith}
use Rattle.sample.proofs.Readings.{all_bounded}
use Rattle.sample.proofs.sum_of_bytes.Goals as goal

pub returns-clause-bounded : goal.returns-clause-bounded
returns-clause-bounded c = all_bounded _ _ _ _ _ c.point_sum.ensures (λ k. omega (arith, c.type_inv.pixels k))
