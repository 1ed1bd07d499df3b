-- What `search` does not find of `points::check_place`.
use Rattle.std.proofs.Common.{⊎_elim, arith}
use Rattle.std.proofs.lemmas.Result.{err_from_is_err_and}
use Rattle.direct.proofs.Reading.{reading_refused, outside_refused, place_accepted}
use Rattle.direct.proofs.points.check_place.Goals as goal

pub returns-in_err-sides : goal.returns-in_err-sides
returns-in_err-sides c =
    let p = err_from_is_err_and c.from_residual.result c.from_residual.ensures.1 in
    rw (p.1, p.2) (reading_refused _ _ _ _ _ c.in_err-sides.ensures)

pub returns-then-image-column : goal.returns-then-image-column
returns-then-image-column c =
    outside_refused _ _ _ _ _ c.in_ok-sides.ensures (λ a b. ⊎_elim (λ h. omega arith) (λ h. omega (arith, h.1)) c.then-image-column.either)

pub returns : goal.returns
returns c = place_accepted _ _ _ _ _ c.in_ok-sides.ensures (omega arith) (omega arith)
