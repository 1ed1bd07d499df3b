-- What `search` does not find of `check_both`: the first recipe's refusal, or else the second's.
use Rattle.std.proofs.Common.{◌∙◌}
use Rattle.std.proofs.lemmas.Result.{err_from_is_err_and}
use Rattle.spec.specs.Recipe.{recipe}
use Rattle.laws.proofs.Results.{number_not_zero}
use Rattle.equivalence.proofs.Comparing.{by_first, by_second}
use Rattle.equivalence.proofs.check_both.Goals as goal

pub returns-in_err-check : goal.returns-in_err-check
returns-in_err-check c =
    let p = err_from_is_err_and c.from_residual.result c.from_residual.ensures.1 in
    rw (p.1, p.2) (by_first (recipe c.args.a) (recipe c.args.b) _ c.in_err-check.ensures (number_not_zero _))

pub returns : goal.returns
returns c = c.check-2.ensures ∙ by_second (recipe c.args.a) (recipe c.args.b) c.in_ok-check.ensures
