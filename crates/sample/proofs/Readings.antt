-- The reading at a picture place, from what is told of the sum and the weight there: the same refusal, or how large they can be, and what is
-- read from them.
-- Assumes nothing.
use mathlib.Core.Path.{◌≡◌, sym, ap, ap₂, subst, ◌∙◌}
use Prim.Native.Nat.{ℕ, ◌*◌, ◌^◌, ◌≤◌, ◌<◌}
use native.Mathlib.Nat.{le_trans}
use Rattle.std.specs.Prelude.{Result, Ok, Err, IfOk}
use Rattle.spec.specs.declared.refusal.Refusal.{Refusal}
use Rattle.spec.specs.Recipe.{Recipe}
use Rattle.spec.specs.Picture.{Picture, largest_gray, Within}
use Rattle.spec.specs.Gray.{Choice, same_sum, place_weight, expressed, reading}
use Rattle.spec.specs.Refusals.{first, answer, reading_checks}
use Rattle.laws.proofs.Inside.{inside_pos, inside_most, sums_inside}
use Rattle.laws.proofs.Results.{told_err, told_ok, err_told, ok_told}
use Rattle.direct.specs.declared.points.Point.{Point}
use Rattle.direct.specs.Answers.{WeighedSum, weighed, weighed_sum, point_told}
use Rattle.sample.proofs.Inside.{is_inside}
use Rattle.sample.specs.declared.Sample.{Sample}
use Rattle.sample.specs.Bounded.{Bounded}
use Rattle.sample.specs.Sampled.{sample_told, sampled_told}

module _ (r : Recipe) (p : Picture) (i j : ℕ) where
  -- the sum is refused
  pub not_read : (e : Refusal) (c : Choice) → point_told (Err e) ≡ answer (reading_checks r p i j) (weighed_sum r p i j)
      → sampled_told (Err e) ≡ answer (reading_checks r p i j) (reading c r p i j)
  not_read e c told =
      told_err sample_told (reading_checks r p i j) (reading c r p i j) e (err_told weighed (reading_checks r p i j) (weighed_sum r p i j) e told)

  -- the sum and the weight are told
  module _ (x : Point) (told : point_told (Ok x) ≡ answer (reading_checks r p i j) (weighed_sum r p i j)) where
    both : (first (reading_checks r p i j) ≡ 0) × (x.sum ≡ same_sum r p i j) × (x.weight ≡ place_weight r p i j)
    both =
        let q = ok_told weighed (reading_checks r p i j) (weighed_sum r p i j) x told in
        (q.0, ap (λ (y : WeighedSum). y.sum) q.1, ap (λ (y : WeighedSum). y.weight) q.1)

    -- of bytes
    pub is_bounded : Within largest_gray p → Bounded x
    unfolding place_weight
    is_bounded small =
        let place = is_inside r p i j both.0 in
        let g = place.picture.recipe.not_zero in
        let is = sym both.2 in
        record {
          not_zero = subst (λ v. 0 < v) is (inside_pos r g p.width p.height i j place.column place.row);
          light = subst (λ v. v ≤ 2 ^ 44) is (le_trans (inside_most r g p.width p.height i j) place.picture.recipe.light);
          dim = subst (λ v. x.sum ≤ largest_gray * v) is (subst (λ y. y ≤ largest_gray * place_weight r p i j) (sym both.1) (sums_inside largest_gray r p small i j));
        }

    pub is_read : (c : Choice) (s : Sample) → sample_told s ≡ expressed c x.weight x.sum → sampled_told (Ok s) ≡ answer (reading_checks r p i j) (reading c r p i j)
    unfolding reading
    is_read c s h = told_ok sample_told (reading_checks r p i j) (reading c r p i j) s both.0 (h ∙ ap₂ (expressed c) both.2 both.1)

-- and so of any answer
pub all_bounded : (r : Recipe) (p : Picture) (i j : ℕ) (x : Result Point Refusal) → point_told x ≡ answer (reading_checks r p i j) (weighed_sum r p i j)
    → Within largest_gray p → IfOk x Bounded
all_bounded r p i j (Ok x) told small = is_bounded r p i j x told small
all_bounded r p i j (Err e) told small = tt
