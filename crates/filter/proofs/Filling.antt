-- What filling in the coefficients of a list answers, from what measuring the list as a recipe of its own does.
-- Assumes nothing.
use mathlib.Core.Path.{◌≡◌, refl, sym, ap, ◌∙◌}
use mathlib.Core.Bool.{cond, not}
use mathlib.Core.List.{List}
use Prim.Native.Nat.{ℕ, ◌+◌, ◌^◌, ◌≤◌, ◌<◌}
use native.Mathlib.Nat.{mul-one}
use native.Mathlib.Omega.{arith}
use lib.ListN.{length}
use borrow.Author.Tests.{eq-eqb, ne_eqb}
use Rattle.spec.specs.Words.{tab, product}
use Rattle.spec.specs.Recipe.{kernel, order, weight, gain}
use Rattle.std.specs.Prelude.{Ok, Err}
use Rattle.spec.specs.declared.refusal.Refusal.{Refusal}
use Rattle.spec.specs.Refusals.{first, alone, answer, told, number, other_output, recipe_checks, kernel_checks}
use Rattle.laws.proofs.Kernels.{at, holds_tab, length_kernel}
use Rattle.laws.proofs.Refusals.{lent_refused, lent_accepted}
use Rattle.laws.proofs.Results.{number_not_zero}
use Rattle.filter.specs.declared.checks.Measures.{Measures}
use Rattle.filter.specs.Measured.{measured}
use Rattle.filter.specs.Coefficients.{KernelFilled}
use Rattle.filter.proofs.Measuring.{Known, known, measured_refused, measured_then}

-- a slice that holds the coefficients as far as it goes, and goes as far as they do
pub whole_kernel : (ns : List ℕ) → 0 < weight ns → (l : List ℕ) (n : ℕ) → n ≡ order ns + 1 → l ≡ tab n (at (kernel ns)) → l ≡ kernel ns
whole_kernel ns h l n e is =
    is ∙ ap (λ k. tab k (at (kernel ns))) (e ∙ sym (length_kernel ns h)) ∙ sym (holds_tab (at (kernel ns)) (kernel ns) (λ k l. refl))

module _ (ns old : List ℕ) where
  -- a refusal by 1 to 4
  pub filled_refused : (e : Refusal) → told (λ (x : Measures). x) (Err e) ≡ answer (recipe_checks (alone ns)) (measured (alone ns))
      → KernelFilled ns old (number e) old
  unfolding kernel_checks
  filled_refused e s =
      let p = measured_refused (alone ns) e s _ in
      record { answer = sym p; slice = sym (lent_refused _ _ old (number e) p (number_not_zero e)) }

  module _ (m : Measures) (s : told (λ (x : Measures). x) (Ok m) ≡ answer (recipe_checks (alone ns)) (measured (alone ns))) where
    pub list_known : Known (alone ns) m
    list_known = known (alone ns) m s

    -- the weight of the list
    pub list_weight : (0 < weight ns) × (weight ns ≤ 2 ^ 44)
    unfolding gain alone weight product
    list_weight =
        let k = list_known.accepted in
        (omega (arith, k.not_zero, mul-one (weight ns)), omega (arith, k.light, mul-one (weight ns)))

    -- 7 goes by the length of the slice
    by_length : first (kernel_checks ns (length old)) ≡ cond (other_output (length old) (order ns + 1)) 7 0
    unfolding kernel_checks
    by_length = measured_then (alone ns) m s (other_output (length old) (order ns + 1)) 7

    reach : m.row_order ≡ order ns
    unfolding alone
    reach = list_known.row_reach

    pub filled_other : (length old ≡ m.row_order + 1 → ⊥) → KernelFilled ns old 7 old
    unfolding other_output
    filled_other h =
        let e : first (kernel_checks ns (length old)) ≡ 7 =
        by_length ∙ ap (λ b. cond (not b) 7 0) (ne_eqb (length old) (order ns + 1) (λ p. h (p ∙ ap (λ n. n + 1) (sym reach)))) in
        record { answer = sym e; slice = sym (lent_refused _ _ old 7 e (λ p. omega arith)) }

    pub filled_all : (new : List ℕ) → length old ≡ m.row_order + 1 → new ≡ tab (length old) (at (kernel ns)) → KernelFilled ns old 0 new
    unfolding other_output
    filled_all new l p =
        let size : length old ≡ order ns + 1 = l ∙ ap (λ n. n + 1) reach in
        let e : first (kernel_checks ns (length old)) ≡ 0 =
        by_length ∙ ap (λ b. cond (not b) 7 0) (eq-eqb (length old) (order ns + 1) size) in
        record {
          answer = sym e;
          slice = whole_kernel ns list_weight.0 new (length old) size p ∙ sym (lent_accepted _ (kernel ns) old e);
        }
