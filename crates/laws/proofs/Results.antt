-- What an answer that is an `Ok` or an `Err` says of the checks, and how one is answered.
-- Assumes nothing.
use mathlib.Core.Path.{◌≡◌, sym, ap, ◌∙◌}
use mathlib.Core.List.{List}
use Prim.Native.Nat.{◌<◌}
use native.Mathlib.Omega.{arith}
use Rattle.std.specs.Prelude.{Result, Ok, Err}
use Rattle.spec.specs.declared.refusal.Refusal.{Refusal}
use Rattle.spec.specs.declared.refusal.Refusal.TheVariants.{TooLong, ZeroWidth, TooFar, TooHeavy, BadSides, OtherPixels, OtherOutput, TooFewCells, BadState, NotDue, TooBright, ParityDiffers, ProductTooHeavy, BadFile, Outside, BadLevel}
use Rattle.spec.specs.Refusals.{Check, first, accepted, answer, number, outcome, told}
use Rattle.laws.proofs.Refusals.{answer_refused, answer_accepted, read_refused, read_accepted}

-- no refusal has the number 0
pub number_some : (e : Refusal) → 0 < number e
unfolding number
number_some TooLong = omega arith
number_some ZeroWidth = omega arith
number_some TooFar = omega arith
number_some TooHeavy = omega arith
number_some BadSides = omega arith
number_some OtherPixels = omega arith
number_some OtherOutput = omega arith
number_some TooFewCells = omega arith
number_some BadState = omega arith
number_some NotDue = omega arith
number_some TooBright = omega arith
number_some ParityDiffers = omega arith
number_some ProductTooHeavy = omega arith
number_some BadFile = omega arith
number_some Outside = omega arith
number_some BadLevel = omega arith

pub number_not_zero : (e : Refusal) → number e ≡ 0 → ⊥
number_not_zero e z = omega (arith, number_some e)

-- an accepted call has no number, and one without a number is accepted
module _ {A : Type 0} where
  pub outcome_ok : (r : Result A Refusal) (a : A) → r ≡ Ok a → outcome r ≡ 0
  outcome_ok r a e = ap outcome e

  pub outcome_err : (r : Result A Refusal) (e : Refusal) → r ≡ Err e → outcome r ≡ number e
  outcome_err r e p = ap outcome p

module _ {A B : Type 0} (f : A → B) (cs : List Check) (v : B) where
  -- an answer by the first check that holds
  pub told_err : (e : Refusal) → first cs ≡ number e → told f (Err e) ≡ answer cs v
  told_err e p = sym (answer_refused cs v (number e) p (number_not_zero e))

  pub told_ok : (a : A) → first cs ≡ 0 → f a ≡ v → told f (Ok a) ≡ answer cs v
  told_ok a z p = ap (λ b. accepted b) p ∙ sym (answer_accepted cs v z)

  -- what an answer says of the checks
  pub err_told : (e : Refusal) → told f (Err e) ≡ answer cs v → first cs ≡ number e
  err_told e p = (read_refused cs v (number e) p).0

  pub ok_told : (a : A) → told f (Ok a) ≡ answer cs v → (first cs ≡ 0) × (f a ≡ v)
  ok_told a p = read_accepted cs v (f a) p

  pub outcome_told : (r : Result A Refusal) → told f r ≡ answer cs v → outcome r ≡ first cs
  outcome_told (Ok a) p = sym (ok_told a p).0
  outcome_told (Err e) p = sym (err_told e p)
