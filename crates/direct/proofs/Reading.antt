-- The checks of a reading: 15 after those of the picture, what is known once none of them holds, and the sum and the weight
-- that are then told.
-- Assumes nothing.
use mathlib.Core.Path.{◌≡◌, refl, sym, ap, ap₂, ◌∙◌}
use mathlib.Core.Bool.{Bool, true, false, cond, not, ◌&&◌}
use Prim.Native.Nat.{ℕ, ◌+◌, ◌*◌, ◌/◌, ◌<◌}
use lib.Dec.{ltb}
use borrow.Author.Tests.{lt-ltb, ltb-true, not-false}
use Rattle.std.specs.Prelude.{Ok, Err}
use Rattle.spec.specs.declared.refusal.Refusal.{Refusal}
use Rattle.spec.specs.declared.refusal.Refusal.TheVariants.{Outside}
use Rattle.spec.specs.Recipe.{Recipe, order}
use Rattle.spec.specs.Picture.{Picture, Sides as SpecSides, exact, full_sides, full_width_of, full_height_of}
use Rattle.spec.specs.Gray.{same_column, same_row, same_sum, place_weight}
use Rattle.spec.specs.Refusals.{first, answer, number, outside, picture_checks, reading_checks}
use Rattle.laws.proofs.Numbers.{both}
use Rattle.laws.proofs.Inside.{axis, inside_axes}
use Rattle.laws.proofs.Refusals.{AcceptedPicture, first_none, none_both, first_front, first_then, picture_numbered, is_accepted_picture}
use Rattle.laws.proofs.Results.{number_not_zero, told_err, told_ok, err_told, ok_told}
use Rattle.filter.specs.declared.sizes.Sides.{Sides}
use Rattle.filter.specs.Answers.{sides, size_told}
use Rattle.direct.specs.Answers.{weighed, weighed_sum, point_told}

not_both : (a b : Bool) → (a ≡ true → b ≡ true → ⊥) → not (a && b) ≡ true
not_both false b h = refl
not_both true false h = refl
not_both true true h = absurd (h refl refl)

module _ (r : Recipe) (p : Picture) (i j : ℕ) where
  abbrev grown : SpecSides
  grown = full_sides r p.width p.height

  -- 1 to 6
  pub reading_refused : (e : Refusal) → size_told (Err e) ≡ answer (picture_checks r p) grown → size_told (Err e) ≡ answer (reading_checks r p i j) grown
  unfolding reading_checks
  reading_refused e told =
      let one = err_told sides (picture_checks r p) grown e told in
      told_err sides (reading_checks r p i j) grown e (first_front (picture_checks r p) _ (number e) one (number_not_zero e))

  -- 15
  module _ (s : Sides) (told : size_told (Ok s) ≡ answer (picture_checks r p) grown) where
    last : first (reading_checks r p i j) ≡ cond (outside p.width p.height i j) 15 0
    unfolding reading_checks
    last = first_then (picture_checks r p) (outside p.width p.height i j) 15 (picture_numbered r p) (ok_told sides (picture_checks r p) grown s told).0

    pub outside_refused : (i < p.width → j < p.height → ⊥) → size_told (Err Outside) ≡ answer (reading_checks r p i j) grown
    unfolding number outside
    outside_refused h =
        told_err sides (reading_checks r p i j) grown Outside
        (last ∙ ap (λ b. cond b 15 0) (not_both (ltb i p.width) (ltb j p.height) (λ a b. h (ltb-true i p.width a) (ltb-true j p.height b))))

    pub place_accepted : i < p.width → j < p.height → size_told (Ok s) ≡ answer (reading_checks r p i j) grown
    unfolding outside
    place_accepted l g =
        told_ok sides (reading_checks r p i j) grown s
        (last ∙ ap₂ (λ x y. cond (not (x && y)) 15 0) (lt-ltb i p.width l) (lt-ltb j p.height g))
        (ok_told sides (picture_checks r p) grown s told).1

  -- what is known of a place that is accepted
  pub record Placed (s : Sides) : Type 0 where
    pub none : first (reading_checks r p i j) ≡ 0
    pub picture : AcceptedPicture r p
    pub width : s.width ≡ p.width + order r.rows
    pub height : s.height ≡ p.height + order r.columns
    pub column : i < p.width
    pub row : j < p.height

  pub is_placed : (s : Sides) → size_told (Ok s) ≡ answer (reading_checks r p i j) grown → Placed s
  unfolding full_sides full_width_of full_height_of reading_checks outside
  is_placed s told =
      let is = ok_told sides (reading_checks r p i j) grown s told in
      let six = none_both (picture_checks r p) _ (picture_numbered r p) is.0 in
      let within = both (ltb i p.width) (ltb j p.height) (not-false _ (first_none (outside p.width p.height i j) 14 _ six.1).0) in
      record {
        none = is.0;
        picture = is_accepted_picture r p six.0;
        width = ap (λ (x : SpecSides). x.width) is.1;
        height = ap (λ (x : SpecSides). x.height) is.1;
        column = ltb-true i p.width within.0;
        row = ltb-true j p.height within.1;
      }

  pub place_refused : (e : Refusal) → size_told (Err e) ≡ answer (reading_checks r p i j) grown
      → point_told (Err e) ≡ answer (reading_checks r p i j) (weighed_sum r p i j)
  place_refused e told = told_err weighed (reading_checks r p i j) (weighed_sum r p i j) e (err_told sides (reading_checks r p i j) grown e told)

  -- the sum and the weight at the grown place of the same-size blur, by the reaches rx and ry
  pub told_same : (rx ry : ℕ) → first (reading_checks r p i j) ≡ 0 → rx ≡ order r.rows → ry ≡ order r.columns
      → point_told (Ok (record { sum = exact r p (i + rx / 2) (j + ry / 2); weight = axis r.rows p.width (i + rx / 2) * axis r.columns p.height (j + ry / 2) }))
      ≡ answer (reading_checks r p i j) (weighed_sum r p i j)
  unfolding same_sum place_weight same_column same_row
  told_same rx ry none a b =
      told_ok weighed (reading_checks r p i j) (weighed_sum r p i j) _ none
      (ap₂ (λ x y. record { sum = exact r p (i + x / 2) (j + y / 2); weight = axis r.rows p.width (i + x / 2) * axis r.columns p.height (j + y / 2) }) a b
      ∙ ap (λ x. record { sum = exact r p (i + order r.rows / 2) (j + order r.columns / 2); weight = x }) (sym (inside_axes r p.width p.height i j)))
