-- `along::sweeps::three_from` meets its contract: what is written, what the three make of the values that are left, and what they are after
-- them.
-- Assumes nothing.
use Rattle.std.proofs.Common.{◌≡◌, ◌++◌, take, drop}
use Rattle.along.specs.Private.{swept, carried}
use Rattle.along.proofs.Carrying.{three_of, both_made, both_after}
use Rattle.along.proofs.sweeps.three_from.Given as goal

abbrev pub invariant-loop-k : goal.invariant-loop-k
invariant-loop-k g l =
    let m = g.S.Stage.made in
    let a = g.S.Stage.after in
    let made = both_made m a (both_made m a m a) (both_after m a m a) in
    let after = both_after m a (both_made m a m a) (both_after m a m a) in
    record {
      values : take l.k l.row ++ swept made after (three_of l.first l.second l.third) (drop l.k l.narrow) ≡ swept made after (three_of l.fn.stage l.fn.stage l.fn.stage) l.narrow;
      state : carried after (three_of l.first l.second l.third) (drop l.k l.narrow) ≡ carried after (three_of l.fn.stage l.fn.stage l.fn.stage) l.narrow;
    }
