-- `difference::difference` meets its contract: the first recipe's checks, then the second's, and then that of the sides.
-- Assumes nothing.
use Rattle.std.proofs.lemmas.Result.{err_from_is_err_and}
use Rattle.spec.specs.Picture.{pictured}
use Rattle.spec.specs.Refusals.{size_checks}
use Rattle.laws.proofs.Refusals.{written_not}
use Rattle.laws.proofs.Results.{number_not_zero, err_told, ok_told}
use Rattle.filter.specs.Answers.{sides}
use Rattle.filter.proofs.Measuring.{known, measured_err, measured_refused}
use Rattle.difference.proofs.Planning.{pair_first, pair_sides}
use Rattle.difference.proofs.difference.Goals as goal

pub returns-in_err-m : goal.returns-in_err-m
returns-in_err-m c =
    let p = err_from_is_err_and c.from_residual.result c.from_residual.ensures.1 in
    rw (p.1, p.2)
    (written_not _ _ _ _ _ _ (pair_first _ _ (pictured c.args.image) _ _ _ (measured_err _ _ c.in_err-m.ensures) (number_not_zero _)) (number_not_zero _))

pub returns-in_err-n : goal.returns-in_err-n
unfolding size_checks
returns-in_err-n c =
    let p = err_from_is_err_and c.from_residual-in_err-n.result c.from_residual-in_err-n.ensures.1 in
    rw (p.1, p.2)
    (written_not _ _ _ _ _ _
    (pair_sides _ _ (pictured c.args.image) _ _ (known _ _ c.in_ok-m.ensures).none _ (measured_refused _ _ c.in_err-n.ensures _) (number_not_zero _))
    (number_not_zero _))

pub returns-in_err-full_size : goal.returns-in_err-full_size
returns-in_err-full_size c =
    let p = err_from_is_err_and c.from_residual-in_err-full_size.result c.from_residual-in_err-full_size.ensures.1 in
    rw (p.1, p.2)
    (written_not _ _ _ _ _ _
    (pair_sides _ _ (pictured c.args.image) _ _ (known _ _ c.in_ok-m.ensures).none _ (err_told sides _ _ _ c.in_err-full_size.ensures) (number_not_zero _))
    (number_not_zero _))

pub sized-requires : goal.sized-requires
sized-requires c = (known _ _ c.in_ok-m.ensures, known _ _ c.in_ok-n.ensures, (ok_told sides _ _ _ c.in_ok-full_size.ensures).0)
