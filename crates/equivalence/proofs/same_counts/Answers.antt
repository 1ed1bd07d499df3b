-- What `search` does not find of `same_counts`: the tallies of both lists agree.
use Rattle.spec.specs.Recipe.{widths}
use Rattle.equivalence.proofs.Tallies.{tallies_answer}
use Rattle.equivalence.proofs.same_counts.Goals as goal

pub returns : goal.returns
returns c = tallies_answer (widths c.args.a) (widths c.args.b) _ _ c.agree.result (c.tally.ensures.counted, c.tally.ensures.bytes) (c.tally-2.ensures.counted, c.tally-2.ensures.bytes) c.agree.ensures
