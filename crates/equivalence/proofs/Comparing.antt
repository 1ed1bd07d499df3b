-- The comparing call: its number, how long the lists of accepted recipes are, and its answer.
-- Assumes nothing.
use mathlib.Core.Path.{◌≡◌, sym, ap, ap₂, ◌∙◌}
use mathlib.Core.Bool.{Bool, ◌&&◌}
use Prim.Native.Nat.{ℕ, ◌≤◌}
use Rattle.spec.specs.declared.Filter.{Filter}
use Rattle.spec.specs.Recipe.{Recipe, recipe, widths}
use Rattle.spec.specs.Same.{same_counts, equivalent}
use Rattle.spec.specs.Refusals.{first, accepted, answer, recipe_checks, compare_checks}
use Rattle.laws.proofs.Refusals.{first_front, first_rest, none_both, answer_accepted, is_accepted, recipe_numbered}
use Rattle.filter.proofs.Measuring.{accepted_counts}

module _ (a b : Recipe) where
  -- refused by the first, or decided by the second
  pub by_first : (n : ℕ) → n ≡ first (recipe_checks a) → (n ≡ 0 → ⊥) → n ≡ first (compare_checks a b)
  unfolding compare_checks
  by_first n e h = sym (first_front (recipe_checks a) (recipe_checks b) n (sym e) h)

  pub by_second : 0 ≡ first (recipe_checks a) → first (recipe_checks b) ≡ first (compare_checks a b)
  unfolding compare_checks
  by_second e = sym (first_rest (recipe_checks a) (recipe_checks b) (recipe_numbered a) (sym e))

  both_accepted : first (compare_checks a b) ≡ 0 → (first (recipe_checks a) ≡ 0) × (first (recipe_checks b) ≡ 0)
  unfolding compare_checks
  both_accepted e = none_both (recipe_checks a) (recipe_checks b) (recipe_numbered a) e

module _ (a b : Filter) (e : 0 ≡ first (compare_checks (recipe a) (recipe b))) where
  none : (first (recipe_checks (recipe a)) ≡ 0) × (first (recipe_checks (recipe b)) ≡ 0)
  none = both_accepted (recipe a) (recipe b) (sym e)

  -- no list is longer than 48
  pub lists_short : ((a.rows.count ≤ 48) × (a.columns.count ≤ 48)) × ((b.rows.count ≤ 48) × (b.columns.count ≤ 48))
  lists_short = (accepted_counts a (is_accepted (recipe a) none.0), accepted_counts b (is_accepted (recipe b) none.1))

  -- the answer by what the comparisons of the rows and of the columns answered
  pub answered : (q r : Bool) → q ≡ same_counts (widths a.rows) (widths b.rows) → r ≡ same_counts (widths a.columns) (widths b.columns)
      → accepted (q && r) ≡ answer (compare_checks (recipe a) (recipe b)) (equivalent (recipe a) (recipe b))
  unfolding recipe equivalent
  answered q r x y =
      ap accepted (ap₂ ◌&&◌ x y) ∙ sym (answer_accepted (compare_checks (recipe a) (recipe b)) (equivalent (recipe a) (recipe b)) (sym e))
