-- What rounding a row of sums answers: the order of its checks, what is known once none of them holds, the greys and the leftovers.
-- Assumes nothing.
use Rattle.std.proofs.Common.{◌≡◌, ℕ, ◌*◌, ◌≤◌, Bool, true, false, cond, ◌||◌, ltb, List, [], ◌∷◌, map, length, get_or, ℤ, sym, ap, ◌∙◌, arith, ltb-false}
use mathlib.Core.Logic.{◌⊎◌, inl, inr}
use native.Mathlib.Decide.{dec_lt}
use lib.ListN.{get_or-eq_default}
use Rattle.spec.specs.declared.refusal.Refusal.{Refusal}
use Rattle.spec.specs.declared.refusal.Refusal.TheVariants.{OtherOutput, TooBright}
use Rattle.spec.specs.Recipe.{Recipe, gain}
use Rattle.spec.specs.Picture.{largest_gray}
use Rattle.spec.specs.Refusals.{Check, check, first, number, other_output, too_bright, recipe_checks, round_checks}
use Rattle.laws.proofs.Lists.{nowhere}
use Rattle.laws.proofs.Refusals.{first_rest, recipe_numbered, by_outputs, by_second_output, after_outputs, lent_refused, lent_accepted}
use Rattle.laws.proofs.Results.{number_not_zero}
use Rattle.gray.specs.Division.{shade_gray, shade_leftover, Divides, Bounded}
use Rattle.gray.specs.declared.rounding.Divisor.{Divisor}
use Rattle.gray.specs.Rounded.{length_checks, Shaded, Rounded, checks}
use Rattle.gray.proofs.Dividing.{shades_are}

-- sums of which none is above the limit
pub none_bright : (most weight : ℕ) (sums : List ℕ) → too_bright most weight sums ≡ false → Bounded most weight sums
unfolding too_bright
none_bright most weight sums e k =
    elim (dec_lt k (length sums)) [
      | yes h ↦ ltb-false (most * weight) (get_or sums k 0) (nowhere (λ s. ltb (most * weight) s) 0 sums e k h)
      | no h ↦ omega (arith, past k (omega arith))
    ]
  where
    past : (k : ℕ) → length sums ≤ k → get_or sums k 0 ≡ 0
    past k h = get_or-eq_default sums 0 h

-- one of two outputs has another length
abbrev Unlike : ℕ → ℕ → ℕ → Type 0
Unlike out left stated = (out ≡ stated → ⊥) ⊎ ((out ≡ stated) × (left ≡ stated → ⊥))

unlike : (ds : List Check) (out left stated : ℕ) → Unlike out left stated
    → first (check (other_output out stated || other_output left stated) 7 ∷ ds) ≡ 7
unlike ds out left stated (inl h) = by_outputs ds out left stated h
unlike ds out left stated (inr h) = by_second_output ds out left stated h.0 h.1

-- rounding by a divisor: 7 for an output of another length, and otherwise what is made
module _ (by : Divisor) (sums out : List ℕ) (left : List ℤ) where
  pub shaded_refused : Unlike (length out) (length left) (length sums) → Shaded by sums out left (number OtherOutput) out left
  unfolding number
  shaded_refused h =
      let e = unlike [] (length out) (length left) (length sums) h in
      record { answer = sym e; grays = sym (lent_refused _ _ out 7 e (λ z. omega arith)); leftovers = sym (lent_refused _ _ left 7 e (λ z. omega arith)) }

  module _ (e : length out ≡ length sums) (f : length left ≡ length sums) where
    none : first (length_checks sums out left) ≡ 0
    unfolding first
    none = after_outputs [] (length out) (length left) (length sums) e f

    pub shaded_all : {new : List ℕ} {new_left : List ℤ} → new ≡ map (shade_gray by) sums → new_left ≡ map (shade_leftover by) sums
        → Shaded by sums out left 0 new new_left
    shaded_all d g = record { answer = sym none; grays = d ∙ sym (lent_accepted _ _ out none); leftovers = g ∙ sym (lent_accepted _ _ left none) }

-- rounding by a recipe
module _ (r : Recipe) (sums out : List ℕ) (left : List ℤ) where
  -- on a refusal nothing is written
  pub round_refused : (e : Refusal) → first (checks r sums out left) ≡ number e → Rounded r sums out left (number e) out left
  round_refused e h =
      record {
        answer = sym h;
        grays = sym (lent_refused _ _ out (number e) h (number_not_zero e));
        leftovers = sym (lent_refused _ _ left (number e) h (number_not_zero e));
      }

  -- after 1 to 4
  module _ (accepted : first (recipe_checks r) ≡ 0) where
    bright_check : List Check
    bright_check = check (too_bright largest_gray (gain r) sums) 11 ∷ []

    rest : first (checks r sums out left) ≡ first (check (other_output (length out) (length sums) || other_output (length left) (length sums)) 7 ∷ bright_check)
    unfolding round_checks bright_check
    rest = first_rest (recipe_checks r) _ (recipe_numbered r) accepted

    pub round_unlike : Unlike (length out) (length left) (length sums) → Rounded r sums out left (number OtherOutput) out left
    unfolding number
    round_unlike h = round_refused OtherOutput (rest ∙ unlike bright_check (length out) (length left) (length sums) h)

    module _ (e : length out ≡ length sums) (f : length left ≡ length sums) where
      last : (b : Bool) → b ≡ too_bright largest_gray (gain r) sums → first (checks r sums out left) ≡ cond b 11 0
      unfolding first check bright_check
      last b h = rest ∙ after_outputs bright_check (length out) (length left) (length sums) e f ∙ ap (λ y. cond y 11 0) (sym h)

      pub round_bright : true ≡ too_bright largest_gray (gain r) sums → Rounded r sums out left (number TooBright) out left
      unfolding number
      round_bright h = round_refused TooBright (last true h)

      pub round_all : (by : Divisor) → Divides (gain r) by → false ≡ too_bright largest_gray (gain r) sums
          → (n : ℕ) (new : List ℕ) (new_left : List ℤ) → Shaded by sums out left n new new_left → Rounded r sums out left n new new_left
      round_all by d h n new new_left shaded =
          let are = shades_are (gain r) by d sums (none_bright largest_gray (gain r) sums (sym h)) in
          let unrefused = none by sums out left e f in
          record {
            answer = shaded.answer ∙ unrefused ∙ sym (last false h);
            grays = shaded.grays ∙ lent_accepted _ _ out unrefused ∙ are.0 ∙ sym (lent_accepted _ _ out (last false h));
            leftovers = shaded.leftovers ∙ lent_accepted _ _ left unrefused ∙ are.1 ∙ sym (lent_accepted _ _ left (last false h));
          }
