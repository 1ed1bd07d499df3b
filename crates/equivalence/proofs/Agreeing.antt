-- Demand 3: the comparing call says yes exactly when the counts agree, and exactly when no picture and no choice of methods tells the two
-- recipes apart. The picture of a single pixel 1 is enough to tell them apart.
-- Assumes nothing.
use mathlib.Core.Path.{◌≡◌, refl, sym, ap, ap₂, ◌∙◌}
use mathlib.Core.Bool.{Bool, true, ◌&&◌}
use Prim.Native.Nat.{ℕ, zero, suc, ◌+◌, ◌≤◌, ◌<◌}
use native.Mathlib.Omega.{arith}
use lib.ListN.{get_or}
use Rattle.std.specs.Prelude.{Result, Ok, Err}
use Rattle.spec.specs.declared.refusal.Refusal.{Refusal}
use Rattle.spec.specs.declared.Filter.{Filter}
use Rattle.spec.specs.Recipe.{Recipe, recipe, order, gain}
use Rattle.spec.specs.Picture.{largest_gray, Within, Sides, full_sides, full_width_of, full_height_of, exact, full_row}
use Rattle.spec.specs.Same.{same_counts, equivalent, SameCounts}
use Rattle.spec.specs.Refusals.{Answer, first, accepted, recipe_checks, size_checks, compare_checks, bad_sides, bad_side}
use Rattle.laws.proofs.Numbers.{both}
use Rattle.laws.proofs.Lists.{get_d_tab}
use Rattle.laws.proofs.Refusals.{first_rest, first_then, recipe_numbered, picture_passed, picture_other, answer_accepted, is_accepted}
use Rattle.laws.proofs.Counts.{same_balanced, balanced_same}
use Rattle.laws.proofs.Sameness.{dot, counts_gain, counts_width, counts_height, counts_row, sums_counts}
use Rattle.equivalence.specs.Compared.{comparison_told}
use Rattle.equivalence.specs.Yields.{AcceptedRecipe, AcceptedWith, Method}
use Rattle.equivalence.specs.Agreement.{AgreeAlways, SameClaim, AcceptedAlike}
use Rattle.equivalence.proofs.Yielding.{yields_exactly}

-- ---- the call and the counts

counts_said : (a b : Recipe) → equivalent a b ≡ true → SameCounts a b
unfolding equivalent
counts_said a b e =
    let h = both (same_counts a.rows b.rows) (same_counts a.columns b.columns) e in
    record { rows = same_balanced a.rows b.rows h.0; columns = same_balanced a.columns b.columns h.1 }

said_counts : (a b : Recipe) → SameCounts a b → equivalent a b ≡ true
unfolding equivalent
said_counts a b s = ap₂ ◌&&◌ (balanced_same a.rows b.rows s.rows) (balanced_same a.columns b.columns s.columns)

-- the answer that is yes, and the one that is no
pub told_so : (told : Result Bool Refusal) (b : Bool) → comparison_told told ≡ accepted b → told ≡ Ok b
told_so (Ok a) b e = let z : a ≡ b = cc in ap Ok z
told_so (Err r) b e = let z : ◌≡◌ {A = ℕ} 0 1 = cc in absurd (omega arith)

-- ---- the counts and the pictures

-- the single pixel is accepted with every accepted recipe
dot_bytes : Within largest_gray dot
dot_bytes zero = omega arith
dot_bytes (suc k) = omega arith

pub dot_accepted : (r : Recipe) → AcceptedRecipe r → AcceptedWith r dot
unfolding size_checks bad_sides bad_side
dot_accepted r known =
    record { checked = picture_passed r dot (first_then (recipe_checks r) (bad_sides 1 1) 5 (recipe_numbered r) known) refl; bytes = dot_bytes }

module _ (a b : Filter) (known : AcceptedRecipe (recipe a)) (other-known : AcceptedRecipe (recipe b)) where
  a_pos : 0 < gain (recipe a)
  a_pos = (is_accepted (recipe a) known).not_zero

  b_pos : 0 < gain (recipe b)
  b_pos = (is_accepted (recipe b) other-known).not_zero

  counts_agree : (m n : Method) → SameCounts (recipe a) (recipe b) → AgreeAlways m n a b
  unfolding full_sides
  counts_agree m n s p shown other-shown =
      record {
        sides = λ i. record {
          width = counts_width (recipe a) (recipe b) s.rows s.columns p.width i;
          height = counts_height (recipe a) (recipe b) s.rows s.columns p.height i;
        };
        weights = counts_gain (recipe a) (recipe b) s.rows s.columns;
        rows = λ j x y one other.
            (yields_exactly a p shown j m).only x one
            ∙ counts_row (recipe a) (recipe b) s.rows s.columns a_pos b_pos p j
            ∙ sym ((yields_exactly b p other-shown j n).only y other);
      }

  agree_counts : (m n : Method) → AgreeAlways m n a b → SameCounts (recipe a) (recipe b)
  unfolding full_sides full_width_of full_height_of full_row
  agree_counts m n always =
      let shown = dot_accepted (recipe a) known in
      let other-shown = dot_accepted (recipe b) other-known in
      let here = always dot shown other-shown in
      let wide : order (recipe a).rows ≡ order (recipe b).rows = omega (arith, ap (λ (s : Sides). s.width) here.sides) in
      let high : order (recipe a).columns ≡ order (recipe b).columns = omega (arith, ap (λ (s : Sides). s.height) here.sides) in
      let sums : (i j : ℕ) → i ≤ order (recipe a).rows → j ≤ order (recipe a).columns → exact (recipe a) dot i j ≡ exact (recipe b) dot i j =
      λ i j h l.
      sym (get_d_tab (1 + order (recipe a).rows) (λ i. exact (recipe a) dot i j) i 0 (omega arith))
      ∙ ap (λ row. get_or row i 0)
      (here.rows j (full_row (recipe a) dot j) (full_row (recipe b) dot j)
      ((yields_exactly a dot shown j m).yielded (omega arith)) ((yields_exactly b dot other-shown j n).yielded (omega arith)))
      ∙ get_d_tab (1 + order (recipe b).rows) (λ i. exact (recipe b) dot i j) i 0 (omega arith) in
      let counts = sums_counts (recipe a) (recipe b) a_pos b_pos wide high sums in
      record { rows = counts.0; columns = counts.1 }

-- the claim
pub same_exactly : SameClaim
unfolding compare_checks
same_exactly a b known other-known told e =
    let none : first (compare_checks (recipe a) (recipe b)) ≡ 0 =
    first_rest (recipe_checks (recipe a)) (recipe_checks (recipe b)) (recipe_numbered (recipe a)) known ∙ other-known in
    let is : comparison_told told ≡ accepted (equivalent (recipe a) (recipe b)) =
    e ∙ answer_accepted (compare_checks (recipe a) (recipe b)) (equivalent (recipe a) (recipe b)) none in
    record {
      counted = (
        λ same. counts_said (recipe a) (recipe b) (told_true (ap comparison_told (sym same) ∙ is)),
        λ counts. told_so told true (is ∙ ap accepted (said_counts (recipe a) (recipe b) counts)),
      );
      agreed = λ m n. (counts_agree a b known other-known m n, agree_counts a b known other-known m n);
    }
  where
    told_true : {c : Bool} → ◌≡◌ {A = Answer Bool} (accepted true) (accepted c) → c ≡ true
    told_true q = cc

-- acceptance of a picture is by its sides and its pixels, whatever the recipe
pub accepted_alike : AcceptedAlike
accepted_alike a b known p shown = record { checked = picture_other b a p known shown.checked; bytes = shown.bytes }
