-- `stream::calls::gauge` meets its contract: the recipe and the sides first, then the rows yielded.
-- Assumes nothing.
use Rattle.stream.specs.Calls.{state_of}
use Rattle.stream.proofs.States.{gauged_refused, gauged_late, gauged_ok}
use Rattle.stream.proofs.calls.gauge.Goals as goal

pub returns-in_default : goal.returns-in_default
unfolding state_of
returns-in_default c = gauged_refused (state_of c.args.state) _ c.in_default.ensures

pub returns-then-sizes-state : goal.returns-then-sizes-state
unfolding state_of
returns-then-sizes-state c = gauged_late (state_of c.args.state) _ c.in-Ok.ensures c.if-sizes-state.true

pub returns : goal.returns
unfolding state_of
returns c = gauged_ok (state_of c.args.state) _ c.in-Ok.ensures c.if-sizes-state.false
