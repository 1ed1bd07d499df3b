-- What `search` does not find of `bore_push`: the answer of `stream::push`, whose state keeps the recipe.
use Rattle.sums_c.specs.States.{given_state}
use Rattle.sums_c.proofs.Keeping.{push_keeps, push_refused, told}
use Rattle.sums_c.proofs.bore_push.Goals as goal

pub returns-in-Ok : goal.returns-in-Ok
unfolding given_state
returns-in-Ok c =
    let args = c.args in
    told args.state.now c.in-Ok.pushed _ _ _ (rw c.state_of.ensures at c.in-Ok.ensures)
    (push_keeps (given_state args.state.now args.words.now) args.pixels.now args.out.now args.cells.now)

pub returns-in-Err : goal.returns-in-Err
returns-in-Err c = rw c.number.ensures (push_refused c.in-Err.refused _ _ _ _ _ _ (rw c.state_of.ensures at c.in-Err.ensures))
