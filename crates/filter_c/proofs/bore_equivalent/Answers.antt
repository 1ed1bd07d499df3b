-- What `search` does not find of `bore_equivalent`: the answer of `equivalence::equivalent`, case by case.
use Rattle.std.proofs.Common.{◌≡◌, sym, ap, ◌∙◌}
use Rattle.std.proofs.Common.{Bool, true, false, cond, refl}
use mir.Val.{bool_byte}
use Rattle.laws.proofs.Refusals.{lent_refused, lent_accepted, read_refused, read_accepted}
use Rattle.filter_c.proofs.bore_equivalent.Goals as goal

-- a yes as a byte
as_byte : (b : Bool) → bool_byte b ≡ cond b 1 0
as_byte true = refl
as_byte false = refl

pub returns-in-Ok : goal.returns-in-Ok
returns-in-Ok c =
    let q = read_accepted _ _ _ (rw (c.filter_of.ensures, c.filter_of-2.ensures) at c.in-Ok.ensures) in
    (sym q.0, c.from.ensures ∙ as_byte _ ∙ ap (λ b. cond b 1 0) q.1 ∙ sym (lent_accepted _ _ _ q.0))

pub returns-in-Err : goal.returns-in-Err
returns-in-Err c =
    let q = read_refused _ _ _ (rw (c.filter_of.ensures, c.filter_of-2.ensures) at c.in-Err.ensures) in
    (c.number.ensures ∙ sym q.0, sym (lent_refused _ _ _ _ q.0 q.1))
