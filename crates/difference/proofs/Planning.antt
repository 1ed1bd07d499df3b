-- What the difference answers: the order of its checks, by what measuring the recipes told, and the sizes where none of them holds.
-- Assumes nothing.
use mathlib.Core.Path.{◌≡◌, sym, ap, ap₂, ◌∙◌}
use mathlib.Core.List.{List, [], ◌∷◌, ◌++◌, append_assoc}
use Prim.Native.Nat.{ℕ, ◌+◌, ◌*◌, ◌^◌, ◌≤◌}
use native.Mathlib.Omega.{arith}
use lib.ListN.{length}
use borrow.Author.Tests.{ltb-false}
use Rattle.std.specs.Prelude.{Ok, Err}
use Rattle.spec.specs.declared.refusal.Refusal.{Refusal}
use Rattle.spec.specs.Recipe.{Recipe, recipe, gain}
use Rattle.spec.specs.Picture.{Picture}
use Rattle.spec.specs.Refusals.{Check, check, first, answer, number, told, other_pixels, other_output, too_few_cells, parity_differs, product_too_heavy, full_size, recipe_checks, size_checks, picture_checks, difference_checks}
use Rattle.laws.proofs.Refusals.{first_front, first_rest, first_none, recipe_numbered, size_numbered, same_length_so, is_sized, picture_sides, picture_passed, picture_other}
use Rattle.laws.proofs.Results.{err_told, ok_told}
use Rattle.filter.proofs.Measuring.{Known}
use Rattle.difference.specs.declared.Operand.{Operand}
use Rattle.difference.specs.declared.Plan.{Plan}
use Rattle.difference.specs.Pairs.{BothAccepted, Moderate, measured_checks, grown_cells, plan_checks, plan_of}
use Rattle.rows.proofs.Taking.{Grown, grown}

-- What a plan says: the recipes and the picture are accepted, the sizes are theirs, and the slices are long enough.
pub record Accepted (a b : Operand) (p : Picture) (out cells : ℕ) (plan : Plan) : Type 0 where
  pub both : BothAccepted a b p plan.middle plan.needed
  pub size : out ≡ p.width * p.height
  pub enough : plan.needed ≤ cells

-- by the first recipe, or by the second and the sides
module _ (a b : Recipe) (p : Picture) (out cells : ℕ) where
  abbrev asked : ℕ
  asked = first (difference_checks a b p out cells)

  abbrev after : List Check
  after =
      check (other_output out (p.width * p.height)) 7
      ∷ check (too_few_cells cells (2 * (full_size a p + full_size b p))) 8
      ∷ check (parity_differs a b) 12 ∷ check (product_too_heavy a b) 13 ∷ []

  pub pair_first : (n : ℕ) → first (recipe_checks a) ≡ n → (n ≡ 0 → ⊥) → asked ≡ n
  unfolding difference_checks
  pair_first n e h = first_front (recipe_checks a) _ n e h

  module _ (one : first (recipe_checks a) ≡ 0) where
    second : asked ≡ first (picture_checks b p ++ after)
    unfolding difference_checks
    second = first_rest (recipe_checks a) _ (recipe_numbered a) one

    pub pair_sides : (n : ℕ) → first (size_checks b p.width p.height) ≡ n → (n ≡ 0 → ⊥) → asked ≡ n
    pair_sides n e h = second ∙ picture_sides b p _ n e h

    pair-rest : first (size_checks b p.width p.height) ≡ 0 → asked ≡ first (check (other_pixels (length p.pixels) (p.width * p.height)) 6 ∷ after)
    unfolding picture_checks
    pair-rest z =
        let sides = size_checks b p.width p.height in
        second ∙ ap first (append_assoc sides _ after) ∙ first_rest sides _ (size_numbered b p.width p.height) z

-- both recipes are known, and the sides are accepted
module _ (a b : Operand) (p : Picture) (out cells : ℕ) (k : Known (recipe a.filter) a.known) (l : Known (recipe b.filter) b.known)
    (z : first (size_checks (recipe b.filter) p.width p.height) ≡ 0) where
  first_grown : Grown (recipe a.filter) p a.known
  first_grown = grown (recipe a.filter) p a.known k (is_sized (recipe b.filter) p.width p.height z).1

  second_grown : Grown (recipe b.filter) p b.known
  second_grown = grown (recipe b.filter) p b.known l (is_sized (recipe b.filter) p.width p.height z).1

  pub first_moderate : Moderate a.known p.width p.height
  first_moderate = record { wide = first_grown.few; tall = first_grown.tall }

  pub second_moderate : Moderate b.known p.width p.height
  second_moderate = record { wide = second_grown.few; tall = second_grown.tall }

  needed_is : grown_cells a.known p.width p.height + grown_cells b.known p.width p.height ≡ 2 * (full_size (recipe a.filter) p + full_size (recipe b.filter) p)
  unfolding grown_cells
  needed_is = omega (arith, first_grown.size, second_grown.size)

  -- 12 and 13
  pair_told : measured_checks a.known b.known ≡ check (parity_differs (recipe a.filter) (recipe b.filter)) 12 ∷ check (product_too_heavy (recipe a.filter) (recipe b.filter)) 13 ∷ []
  unfolding parity_differs product_too_heavy
  pair_told = simp (k.row_reach, l.row_reach, k.column_reach, l.column_reach, k.weight, l.weight)

  -- the plan asks what is left to ask
  planned_is : first (difference_checks (recipe a.filter) (recipe b.filter) p out cells) ≡ first (plan_checks a.known b.known p out cells)
  unfolding plan_checks
  planned_is =
      pair-rest (recipe a.filter) (recipe b.filter) p out cells k.none z
      ∙ ap₂ (λ n rest. first (check (other_pixels (length p.pixels) (p.width * p.height)) 6 ∷ check (other_output out (p.width * p.height)) 7 ∷ check (too_few_cells cells n) 8 ∷ rest)) (sym needed_is) (sym pair_told)

  -- where it refuses
  pub plan_refused : (e : Refusal) → told (λ (x : Plan). x) (Err e) ≡ answer (plan_checks a.known b.known p out cells) (plan_of a.known b.known p)
      → first (difference_checks (recipe a.filter) (recipe b.filter) p out cells) ≡ number e
  plan_refused e t = planned_is ∙ err_told (λ (x : Plan). x) _ _ e t

  -- where it does not: the recipes and the picture are accepted, and the sizes are these
  module _ (plan : Plan) (t : told (λ (x : Plan). x) (Ok plan) ≡ answer (plan_checks a.known b.known p out cells) (plan_of a.known b.known p)) where
    pub plan_none : first (difference_checks (recipe a.filter) (recipe b.filter) p out cells) ≡ 0
    plan_none = planned_is ∙ (ok_told (λ (x : Plan). x) (plan_checks a.known b.known p out cells) (plan_of a.known b.known p) plan t).0

    pub plan_accepted : Accepted a b p out cells plan
    unfolding plan_checks grown_cells product_too_heavy other_output other_pixels too_few_cells
    plan_accepted =
        let ra = recipe a.filter in
        let rb = recipe b.filter in
        let ok = ok_told (λ (x : Plan). x) (plan_checks a.known b.known p out cells) (plan_of a.known b.known p) plan t in
        let six = first_none (other_pixels (length p.pixels) (p.width * p.height)) 5 _ ok.0 in
        let seven = first_none (other_output out (p.width * p.height)) 6 _ six.1 in
        let eight = first_none (too_few_cells cells (grown_cells a.known p.width p.height + grown_cells b.known p.width p.height)) 7 _ seven.1 in
        let pair = ap first (sym pair_told) ∙ eight.1 in
        let passed = picture_passed rb p z (same_length_so (length p.pixels) (p.width * p.height) six.0) in
        let needed = ap (λ (x : Plan). x.needed) ok.1 in
        record {
          both =
              record {
                first = picture_other ra rb p k.none passed;
                second = passed;
                first_known = k;
                second_known = l;
                light = ltb-false (2 ^ 44) (gain ra * gain rb) (first_none _ 12 _ (first_none (parity_differs ra rb) 11 _ pair).1).0;
                middle = ap (λ (x : Plan). x.middle) ok.1 ∙ ap (λ n. 2 * n) first_grown.size;
                cells = needed ∙ needed_is;
              };
          size = same_length_so out (p.width * p.height) seven.0;
          enough = omega (arith, needed, ltb-false cells _ eight.0);
        }
