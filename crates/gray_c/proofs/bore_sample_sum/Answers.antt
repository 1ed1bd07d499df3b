-- `gray_c::bore_sample_sum` meets its contract: the exact sum that was read, or a refusal.
-- Assumes nothing.
use mathlib.Core.Path.{sym, ◌∙◌}
use Rattle.spec.specs.Gray.{as_sum}
use Rattle.gray_c.proofs.Telling.{refused, kept, accepted, put, is_sum, same_sum_read}
use Rattle.gray_c.proofs.bore_sample_sum.Goals as goal

pub unreachable-requires : goal.unreachable-requires
unreachable-requires c = c.in_default.not-Sum _ (is_sum _ _ _ _ _ c.in-Ok.ensures)

pub returns-in-Sum : goal.returns-in-Sum
returns-in-Sum c =
    let told = c.in-Ok.ensures in
    (sym (accepted _ _ _ _ as_sum _ told), put _ _ _ _ as_sum _ told _ _ _ (same_sum_read _ _ (sym c.in-Sum.is ∙ is_sum _ _ _ _ _ told)))

pub returns-in-Err : goal.returns-in-Err
returns-in-Err c =
    let told = c.in-Err.ensures in
    (c.number.ensures ∙ sym (refused _ _ _ _ as_sum _ told), kept _ _ _ _ as_sum _ told _ _)
