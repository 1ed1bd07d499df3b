-- What `search` does not find of `bore_stream_cells`: the answer of `stream::stream_cells`, case by case.
use Rattle.std.proofs.Common.{sym, ◌∙◌}
use Rattle.laws.proofs.Refusals.{lent_refused, lent_accepted, read_refused, read_accepted}
use Rattle.filter_c.proofs.bore_stream_cells.Goals as goal

pub returns-in-Ok : goal.returns-in-Ok
returns-in-Ok c =
    let q = read_accepted _ _ _ (rw c.filter_of.ensures at c.in-Ok.ensures) in
    (sym q.0, q.1 ∙ sym (lent_accepted _ _ _ q.0))

pub returns-in-Err : goal.returns-in-Err
returns-in-Err c =
    let q = read_refused _ _ _ (rw c.filter_of.ensures at c.in-Err.ensures) in
    (c.number.ensures ∙ sym q.0, sym (lent_refused _ _ _ _ q.0 q.1))
