-- `filter::checks::check` meets its contract: the answer is the one that measuring gives.
-- Assumes nothing.
use mathlib.Core.Path.{sym}
use Rattle.std.proofs.lemmas.Result.{err_from_is_err_and}
use Rattle.filter.proofs.Measuring.{known, measured_err}
use Rattle.filter.proofs.checks.check.Goals as goal

pub returns-in_err-measure : goal.returns-in_err-measure
returns-in_err-measure c =
    let p = err_from_is_err_and c.from_residual.result c.from_residual.ensures.1 in
    rw (p.1, p.2) (sym (measured_err _ _ c.in_err-measure.ensures))

pub returns : goal.returns
returns c = sym (known _ _ c.in_ok-measure.ensures).none
