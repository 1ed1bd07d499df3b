-- `sample::mean` meets its contract: a 64-bit float holds both integers, and the quotient is one division.
-- Assumes nothing.
use Prim.Native.Nat.{◌^◌}
use native.Mathlib.Omega.{arith}
use borrow.Author.Rules.{rules}
use lib.Dec.{le→leb}
use lib.Ieee.{in_float}
use Rattle.spec.specs.Gray.{ratio, float}
use Rattle.sample.proofs.mean.Goals as goal

pub int_to_float-result : goal.int_to_float-result
unfolding in_float
int_to_float-result c = le→leb c.args.sum (2 ^ 53) (omega arith)

pub int_to_float-result-2 : goal.int_to_float-result-2
unfolding in_float
int_to_float-result-2 c = le→leb c.args.weight (2 ^ 53) (omega arith)

pub returns : goal.returns
unfolding ratio float
returns c = search rules
