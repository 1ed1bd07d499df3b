-- `sample::reading` meets its contract: the refusal of the sum, or the sum over the weight as the quantity that is chosen.
-- Assumes nothing.
use Rattle.std.proofs.lemmas.Result.{err_from_is_err_and}
use Rattle.sample.proofs.Readings.{not_read, is_read}
use Rattle.sample.proofs.reading.Goals as goal

pub returns-in_err-point : goal.returns-in_err-point
returns-in_err-point c =
    let p = err_from_is_err_and c.from_residual.result c.from_residual.ensures.1 in
    rw (p.1, p.2) (not_read _ _ _ _ _ _ c.in_err-point.ensures.told)

pub returns : goal.returns
returns c = is_read _ _ _ _ _ c.in_ok-point.ensures.told _ _ c.express.ensures
