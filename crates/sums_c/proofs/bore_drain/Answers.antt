-- What `search` does not find of `bore_drain`: the answer of `stream::drain`, whose state keeps the recipe.
use Rattle.sums_c.specs.States.{given_state}
use Rattle.sums_c.proofs.Keeping.{drain_keeps, drain_refused, told}
use Rattle.sums_c.proofs.bore_drain.Goals as goal

pub returns-in-Ok : goal.returns-in-Ok
unfolding given_state
returns-in-Ok c =
    let args = c.args in
    told args.state.now c.in-Ok.drained _ _ _ (rw c.state_of.ensures at c.in-Ok.ensures)
    (drain_keeps (given_state args.state.now args.words.now) args.out.now args.cells.now)

pub returns-in-Err : goal.returns-in-Err
returns-in-Err c = rw c.number.ensures (drain_refused c.in-Err.refused _ _ _ _ _ (rw c.state_of.ensures at c.in-Err.ensures))
