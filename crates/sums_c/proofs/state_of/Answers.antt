-- `sums_c::state_of` meets its contract: the recipe of the one block and the words of the other.
-- Assumes nothing.
use mathlib.Core.Path.{ap, ◌∙◌}
use lib.ListN.{get_or}
use Rattle.spec.specs.declared.Filter.{Filter}
use Rattle.stream.specs.Calls.{state_at}
use Rattle.sums_c.specs.States.{given_state}
use Rattle.sums_c.proofs.state_of.Goals as goal

pub returns : goal.returns
unfolding given_state
returns c =
    let words = c.args.words.now in
    c.state_at.ensures
    ∙ ap (λ (f : Filter). state_at f (get_or words 0 0) (get_or words 1 0) (get_or words 2 0)) c.filter_of.ensures
