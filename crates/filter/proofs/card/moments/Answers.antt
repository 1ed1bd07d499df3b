-- `filter::card::moments` meets its contract: the recipe's checks, then the five values.
-- Assumes nothing.
use native.Mathlib.Omega.{arith}
use Rattle.std.proofs.lemmas.Result.{err_from_is_err_and}
use Rattle.spec.specs.Recipe.{recipe}
use Rattle.spec.specs.Gray.{scale_card}
use Rattle.spec.specs.Refusals.{recipe_checks}
use Rattle.laws.proofs.Results.{told_err, told_ok}
use Rattle.filter.specs.Answers.{card}
use Rattle.filter.proofs.Measuring.{known, measured_err, accepted_counts}
use Rattle.filter.proofs.card.moments.Goals as goal

pub returns-in_err-m : goal.returns-in_err-m
returns-in_err-m c =
    let r = recipe c.args.filter in
    let p = err_from_is_err_and c.from_residual.result c.from_residual.ensures.1 in
    rw (p.1, p.2) (told_err card (recipe_checks r) (scale_card r) _ (measured_err r _ c.in_err-m.ensures))

pub variance-requires : goal.variance-requires
variance-requires c = omega (arith, accepted_counts _ (known _ _ c.in_ok-m.ensures).accepted)

pub variance-requires-2 : goal.variance-requires-2
variance-requires-2 c = omega (arith, accepted_counts _ (known _ _ c.in_ok-m.ensures).accepted)

pub returns : goal.returns
unfolding recipe scale_card
returns c =
    let r = recipe c.args.filter in
    let k = known r _ c.in_ok-m.ensures in
    told_ok card (recipe_checks r) (scale_card r) _ k.none
    (λ i.
    record {
      weight = k.weight i;
      row_reach = k.row_reach i;
      column_reach = k.column_reach i;
      row_variance = c.variance.ensures i;
      column_variance = c.variance-2.ensures i;
    })
