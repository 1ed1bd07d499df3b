-- `gray_c::bore_sample_mean` meets its contract: the quotient that was read, or a refusal.
-- Assumes nothing.
use mathlib.Core.Path.{sym, ◌∙◌}
use Rattle.spec.specs.Gray.{as_quotient}
use Rattle.gray_c.proofs.Telling.{refused, kept, accepted, put, is_mean, same_mean_read}
use Rattle.gray_c.proofs.bore_sample_mean.Goals as goal

pub unreachable-requires : goal.unreachable-requires
unreachable-requires c = c.in_default.not-Mean _ (is_mean _ _ _ _ _ c.in-Ok.ensures)

pub returns-in-Mean : goal.returns-in-Mean
returns-in-Mean c =
    let told = c.in-Ok.ensures in
    (sym (accepted _ _ _ _ as_quotient _ told), put _ _ _ _ as_quotient _ told _ _ _ (same_mean_read _ _ (sym c.in-Mean.is ∙ is_mean _ _ _ _ _ told)))

pub returns-in-Err : goal.returns-in-Err
returns-in-Err c =
    let told = c.in-Err.ensures in
    (c.number.ensures ∙ sym (refused _ _ _ _ as_quotient _ told), kept _ _ _ _ as_quotient _ told _ _)
