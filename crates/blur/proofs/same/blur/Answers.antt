-- `blur::same::blur` meets its contract: the checks of `filter::full_size`, and then those of `sized`.
-- Assumes nothing.
use Rattle.std.proofs.lemmas.Result.{err_from_is_err_and}
use Rattle.spec.specs.Picture.{pictured}
use Rattle.laws.proofs.Results.{number_not_zero, err_told, ok_told}
use Rattle.filter.specs.Answers.{sides}
use Rattle.blur.proofs.Answering.{blur_sides, blur_not}
use Rattle.blur.proofs.same.blur.Goals as goal

pub returns-in_err-full : goal.returns-in_err-full
returns-in_err-full c =
    let p = err_from_is_err_and c.from_residual.result c.from_residual.ensures.1 in
    rw (p.1, p.2)
    (blur_not _ (pictured c.args.image) _ _ _ _
    (blur_sides _ (pictured c.args.image) _ _ _ _ (err_told sides _ _ _ c.in_err-full.ensures) (number_not_zero _)) (number_not_zero _))

pub sized-requires : goal.sized-requires
sized-requires c = ok_told sides _ _ _ c.in_ok-full.ensures
