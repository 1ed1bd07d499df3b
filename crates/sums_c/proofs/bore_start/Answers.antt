-- What `search` does not find of `bore_start`: the answer of `stream::start`, in the blocks of the state.
use Rattle.stream.specs.Calls.{began as beganBy}
use Rattle.sums_c.specs.States.{began}
use Rattle.sums_c.proofs.bore_start.Goals as goal

pub returns-in-Ok : goal.returns-in-Ok
unfolding began beganBy
returns-in-Ok c = rw c.put_state.ensures (rw c.filter_of.ensures at c.in-Ok.ensures)

pub returns-in-Err : goal.returns-in-Err
unfolding began beganBy
returns-in-Err c =
    rw (c.number.ensures, c.put_state-in-Err.ensures, c.state_at.ensures, c.no_filter.ensures) (rw c.filter_of.ensures at c.in-Err.ensures)
