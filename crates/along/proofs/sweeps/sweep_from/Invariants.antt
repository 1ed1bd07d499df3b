-- `along::sweeps::sweep_from` meets its contract: what is written, what the stage makes of the values that are left, and what it is after them.
-- Assumes nothing.
use Rattle.std.proofs.Common.{◌≡◌, ◌++◌, take, drop}
use Rattle.along.specs.Private.{swept, carried}
use Rattle.along.proofs.sweeps.sweep_from.Given as goal

abbrev pub invariant-loop-k : goal.invariant-loop-k
invariant-loop-k g l = record {
  values : take l.k l.row ++ swept g.S.Stage.made g.S.Stage.after l.stage (drop l.k l.narrow) ≡ swept g.S.Stage.made g.S.Stage.after l.initial.stage l.narrow;
  state : carried g.S.Stage.after l.stage (drop l.k l.narrow) ≡ carried g.S.Stage.after l.initial.stage l.narrow;
}
