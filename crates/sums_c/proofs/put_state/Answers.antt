-- What `search` does not find of `put_state`.
use Rattle.std.proofs.Common.{ap}
use Rattle.spec.specs.declared.Filter.{Filter}
use Rattle.stream.specs.Calls.{state_at}
use Rattle.sums_c.specs.States.{given_state}
use Rattle.sums_c.proofs.put_state.Goals as goal

pub returns : goal.returns
unfolding given_state
returns c = let s = c.args.state in ap (λ (f : Filter). state_at f s.width s.height s.emitted) c.put_filter.ensures.1
