-- What is not found of `rounding::round_row`: the refusal, and that the whole slices are written in the end.
-- Assumes nothing.
use Rattle.std.proofs.Common.{arith}
use Rattle.std.proofs.lemmas.Grind.{common_steps}
use Rattle.gray.proofs.Grays.{shaded_refused, shaded_all}
use Rattle.gray.proofs.rounding.round_row.Goals as goal

pub returns-then-out-count : goal.returns-then-out-count
returns-then-out-count c = shaded_refused _ _ _ _ c.then-out-count.either

pub returns : goal.returns
returns c = shaded_all _ _ _ _ c.if-out-count.false c.if-leftovers-count.false (grind (arith, common_steps)) (grind (arith, common_steps))
