-- `along::sweeps::repeated` meets its contract: what is left to do gives what all of it gives.
-- Assumes nothing.
use Rattle.std.proofs.Common.{◌≡◌, ◌-◌, ◌*◌}
use Rattle.along.specs.Private.{repeat, swept}
use Rattle.along.proofs.sweeps.repeated.Given as goal

abbrev pub invariant-loop : goal.invariant-loop
invariant-loop g l =
    repeat (l.count - 4 * l.counter) (swept g.S.Stage.made g.S.Stage.after l.stage) l.row
    ≡ repeat l.count (swept g.S.Stage.made g.S.Stage.after l.stage) l.initial.row
