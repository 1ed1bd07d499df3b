-- `along::load` meets its contract: the pixels in front, and what was black after them.
-- Assumes nothing.
use Rattle.std.proofs.Common.{length, arith, rules, length-take-le}
use Rattle.along.proofs.Loading.{on_black}
use Rattle.along.proofs.load.Goals as goal

pub returns : goal.returns
returns c =
    let old = c.args.narrow.now in
    let fit = c.min-fit.result in
    on_black (length old) fit c.args.pixels.now c.widen.new.to old c.requires c.min-fit.ensures (search rules)
    (λ k h. c.widen.ensures k 0 0 (omega (arith, length-take-le fit old (omega arith))))
