-- `gray::rounding::round` meets its contract: the recipe's checks, then 7 for each output and 11, then the greys and leftovers.
-- Assumes nothing.
use Rattle.std.proofs.Common.{◌≡◌, ◌*◌, Bool, true, false, ltb, List, ℕ, sym, ap, ◌∙◌, arith}
use mathlib.Core.Logic.{inl, inr}
use Rattle.std.proofs.lemmas.Result.{err_from_is_err_and}
use Rattle.spec.specs.Words.{somewhere}
use Rattle.spec.specs.Recipe.{Recipe, gain}
use Rattle.spec.specs.Picture.{largest_gray}
use Rattle.spec.specs.Refusals.{too_bright, round_checks}
use Rattle.filter.specs.declared.checks.Measures.{Measures}
use Rattle.filter.proofs.Measuring.{Known, known, measured_refused}
use Rattle.gray.specs.declared.rounding.Divisor.{Divisor}
use Rattle.gray.specs.Division.{divisor, Divides}
use Rattle.gray.proofs.Grays.{round_refused, round_unlike, round_bright, round_all}
use Rattle.gray.proofs.rounding.round.Goals as goal
use Rattle.gray.proofs.rounding.round.Goals.{then-out-sums-via-then-out-sums, then-out-sums-via-else-out-sums+then-leftovers-sums}

-- once the recipe is accepted: what divides by the weight, and that the limit is 255 times the weight
module _ (r : Recipe) (m : Measures) (k : Known r m) where
  divides : (by : Divisor) → by ≡ divisor m.gain → Divides (gain r) by
  divides by e = record { not_zero = k.accepted.not_zero; light = k.accepted.light; is = e ∙ ap divisor k.weight }

  bright : (sums : List ℕ) (b : Bool) → b ≡ somewhere (ltb (largest_gray * m.gain)) sums → b ≡ too_bright largest_gray (gain r) sums
  unfolding too_bright
  bright sums b e = e ∙ ap (λ g. too_bright largest_gray g sums) k.weight

pub returns-in_err-known : goal.returns-in_err-known
unfolding round_checks
returns-in_err-known c =
    let p = err_from_is_err_and c.from_residual.result c.from_residual.ensures.1 in
    rw (p.1, p.2) (round_refused _ _ _ _ _ (measured_refused _ _ c.in_err-known.ensures _))

pub returns-then-out-sums : goal.returns-then-out-sums
returns-then-out-sums c =
    round_unlike _ _ _ _ (known _ _ c.in_ok-known.ensures).none
    (elim c.then-out-sums.branch [
      | then-out-sums-via-then-out-sums w ↦ inl w.if-out-sums.true
      | then-out-sums-via-else-out-sums+then-leftovers-sums w ↦ inr (w.if-out-sums.false, w.if-leftovers-sums.true)
    ])

pub overflow_mul-known : goal.overflow_mul-known
overflow_mul-known c =
    let k = known _ _ c.in_ok-known.ensures in
    omega (arith, k.weight, k.accepted.light)

pub over-requires : goal.over-requires
over-requires c =
    let k = known _ _ c.in_ok-known.ensures in
    omega (arith, k.weight, k.accepted.light)

pub returns-then-over : goal.returns-then-over
returns-then-over c =
    let k = known _ _ c.in_ok-known.ensures in
    round_bright _ _ _ _ k.none c.if-out-sums.false c.if-leftovers-sums.false (bright _ _ k _ true (sym c.if-over.true ∙ c.over.ensures))

pub returns : goal.returns
returns c =
    let k = known _ _ c.in_ok-known.ensures in
    round_all _ _ _ _ k.none c.if-out-sums.false c.if-leftovers-sums.false _ (divides _ _ k _ c.of.ensures)
    (bright _ _ k _ false (sym c.if-over.false ∙ c.over.ensures)) _ _ _ c.round_row.ensures
