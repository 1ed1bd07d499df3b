-- What `search` does not find of `direct`: the refusals first; then both slices hold the coefficients, and every sum is formed from them.
use Rattle.std.proofs.lemmas.Result.{err_from_is_err_and}
use Rattle.std.proofs.Common.{sym}
use Rattle.laws.proofs.Results.{number_not_zero}
use Rattle.direct.proofs.Forming.{is_called, is_filled, formed_refused, rows_not_refused, columns_not_refused, held_size, held_full, formed_all}
use Rattle.direct.proofs.direct.Goals as goal

pub returns-in_err-check_lengths : goal.returns-in_err-check_lengths
returns-in_err-check_lengths c =
    let p = err_from_is_err_and c.from_residual.result c.from_residual.ensures.1 in
    rw (p.1, p.2) (formed_refused _ _ _ _ _ _ (sym c.in_err-check_lengths.ensures) (number_not_zero _))

pub returns-in_err-kernel : goal.returns-in_err-kernel
returns-in_err-kernel c =
    let k = is_called _ _ _ _ _ c.in_ok-check_lengths.ensures in
    absurd (rows_not_refused _ _ _ _ k.picture.recipe k.row_size c.in_err-kernel.ensures)

pub returns-in_err-kernel-2 : goal.returns-in_err-kernel-2
returns-in_err-kernel-2 c =
    let k = is_called _ _ _ _ _ c.in_ok-check_lengths.ensures in
    absurd (columns_not_refused _ _ _ _ k.picture.recipe k.column_size c.in_err-kernel-2.ensures)

pub form-requires-clause-ready : goal.form-requires-clause-ready
form-requires-clause-ready c =
    let k = is_called _ _ _ _ _ c.in_ok-check_lengths.ensures in
    (is_filled _ _ _ _ _ _ _ _ k.picture k.row_size k.column_size c.kernel.ensures c.kernel-2.ensures).ready

pub form-requires-clause-out_len : goal.form-requires-clause-out_len
form-requires-clause-out_len c =
    let k = is_called _ _ _ _ _ c.in_ok-check_lengths.ensures in
    held_size _ _ k.picture _ _ (is_filled _ _ _ _ _ _ _ _ k.picture k.row_size k.column_size c.kernel.ensures c.kernel-2.ensures) _ k.out_size

pub returns : goal.returns
returns c =
    let k = is_called _ _ _ _ _ c.in_ok-check_lengths.ensures in
    let h = is_filled _ _ _ _ _ _ _ _ k.picture k.row_size k.column_size c.kernel.ensures c.kernel-2.ensures in
    formed_all _ _ _ _ _ _ _ _ k.none h.rows h.columns (held_full _ _ k.picture _ _ h _ c.form.ensures)
