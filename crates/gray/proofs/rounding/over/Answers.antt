-- What is not found of `rounding::over`: the upper bits of a sum and of its room below the limit tell whether it is above.
-- Assumes nothing.
use Rattle.std.proofs.Common.{◌≡◌, ℕ, ◌+◌, ◌-◌, ◌/◌, ◌%◌, ◌^◌, ◌<◌, ◌≤◌, not, ◌||◌, eqb, ltb, get_or, sym, refl, ap, ◌∙◌, arith, le-ltb, lt-ltb, ne_eqb}
use mathlib.Core.Bool.{or-true, or-false}
use native.Mathlib.Decide.{dec_lt}
use Rattle.spec.specs.Words.{somewhere}
use Rattle.laws.proofs.Lists.{somewhere_more}
use Rattle.gray.proofs.rounding.over.Goals as goal

module _ (most s : ℕ) (low : most < 2 ^ 63) (fits : s < 2 ^ 64) where
  -- the upper bits of a sum and of the limit less it
  abbrev bits : ℕ
  bits = (most + (2 ^ 64 - s)) % 2 ^ 64 / 2 ^ 63 + s / 2 ^ 63

  few : bits ≤ 2
  few = omega (arith, low, fits)

  -- added to a count
  counted : (n : ℕ) → not (eqb (n + bits) 0) ≡ (not (eqb n 0) || ltb most s)
  counted n =
      elim (dec_lt most s) [
        | yes h ↦
            let some : n + bits ≡ 0 → ⊥ = λ e. omega (arith, e, h, low, fits) in
            ap not (ne_eqb (n + bits) 0 some) ∙ sym (ap (λ b. not (eqb n 0) || b) (lt-ltb most s h) ∙ or-true (not (eqb n 0)))
        | no h ↦
            let same : n + bits ≡ n = omega (arith, h, low, fits) in
            ap (λ m. not (eqb m 0)) same ∙ sym (ap (λ b. not (eqb n 0) || b) (le-ltb most s (omega (arith, h))) ∙ or-false (not (eqb n 0)))
      ]

pub loop-sum-init : goal.loop-sum-init
unfolding somewhere
loop-sum-init c = record { few = omega arith; found = refl }

pub loop-sum-preserved : goal.loop-sum-preserved
loop-sum-preserved c =
    let most = c.args.most in
    let sum = get_or c.args.sums.now c.loop-sum.sum-index 0 in
    let fits : sum < 2 ^ 64 = omega (arith, c.type_inv.sums c.loop-sum.sum-index) in
    let before = c.loop-sum.invariant in
    record {
      few = omega (arith, before.few, few most sum c.requires fits);
      found = counted most sum c.requires fits c.loop-sum.count
          ∙ ap (λ b. b || ltb most sum) before.found
          ∙ sym (somewhere_more (ltb most) 0 c.args.sums.now c.loop-sum.sum-index c.loop-sum-test.true);
    }
