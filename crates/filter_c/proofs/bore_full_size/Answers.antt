-- What `search` does not find of `bore_full_size`: the answer of `filter::full_size`, case by case.
use Rattle.std.proofs.Common.{sym, ap, ◌∙◌}
use Rattle.spec.specs.Picture.{Sides, full_sides}
use Rattle.laws.proofs.Refusals.{lent_refused, lent_accepted, read_refused, read_accepted}
use Rattle.filter_c.proofs.bore_full_size.Goals as goal

pub returns-in-Ok : goal.returns-in-Ok
unfolding full_sides
returns-in-Ok c =
    let q = read_accepted _ _ _ (rw c.filter_of.ensures at c.in-Ok.ensures) in
    (sym q.0, ap (λ (s : Sides). s.width) q.1 ∙ sym (lent_accepted _ _ _ q.0), ap (λ (s : Sides). s.height) q.1 ∙ sym (lent_accepted _ _ _ q.0))

pub returns-in-Err : goal.returns-in-Err
returns-in-Err c =
    let q = read_refused _ _ _ (rw c.filter_of.ensures at c.in-Err.ensures) in
    (c.number.ensures ∙ sym q.0, sym (lent_refused _ _ _ _ q.0 q.1), sym (lent_refused _ _ _ _ q.0 q.1))
