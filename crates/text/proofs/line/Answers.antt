-- `text::line` meets its contract: 7 goes by quotient and remainder of the slice's length, which cannot overflow.
-- Assumes nothing.
use Rattle.std.proofs.Common.{◌≡◌, ℕ, ◌+◌, ◌*◌, List, [], ◌++◌, length, drop, Ok, Err, sym, ap, ◌∙◌, arith}
use Rattle.spec.specs.declared.refusal.Refusal.TheVariants.{OtherOutput}
use Rattle.spec.specs.Program.{line}
use Rattle.spec.specs.Refusals.{first, number}
use Rattle.laws.proofs.Refusals.{lent_refused, lent_accepted, by_output, after_output}
use Rattle.laws.proofs.Results.{told_err, told_ok}
use Rattle.text.specs.Printed.{Printed, line_told, line_checks}
use Rattle.text.proofs.line.Goals as goal

-- 7 goes by the length of the slice
module _ (ns old : List ℕ) where
  printed-not : (length old ≡ 21 * length ns + 1 → ⊥) → Printed ns old (line_told (Err OtherOutput)) old
  unfolding line_checks number
  printed-not h =
      let e = by_output [] (length old) (21 * length ns + 1) h in
      record { answer = told_err {A = ℕ} (λ n. n) _ _ OtherOutput e; slice = sym (lent_refused _ _ old 7 e (λ p. omega arith)) }

  printed-all : length old ≡ 21 * length ns + 1 → (r : ℕ) (new : List ℕ) → r ≡ length (line ns) → new ≡ line ns ++ drop r old
      → Printed ns old (line_told (Ok r)) new
  unfolding line_checks first
  printed-all h r new e p =
      let z = after_output [] (length old) (21 * length ns + 1) h in
      record { answer = told_ok (λ n. n) _ _ r z e; slice = p ∙ ap (λ k. line ns ++ drop k old) e ∙ sym (lent_accepted _ _ old z) }

pub returns-then-out-ne1 : goal.returns-then-out-ne1
returns-then-out-ne1 c = printed-not _ _ (λ e. omega arith)

pub returns : goal.returns
returns c = printed-all _ _ (omega arith) _ _ c.fill.ensures.0 c.fill.ensures.1
