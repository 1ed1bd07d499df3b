-- `along::sweeps::sweep` meets its contract: what the stage makes of the values that are left gives what it makes of all.
-- Assumes nothing.
use Rattle.std.proofs.Common.{◌≡◌, ◌++◌, take, drop}
use Rattle.along.specs.Private.{swept}
use Rattle.along.proofs.sweeps.sweep.Given as goal

abbrev pub invariant-loop-x : goal.invariant-loop-x
invariant-loop-x g l =
    take l.x-index l.x-items ++ swept g.S.Stage.made g.S.Stage.after l.stage (drop l.x-index l.x-items)
    ≡ swept g.S.Stage.made g.S.Stage.after l.initial.stage l.initial.x-items
