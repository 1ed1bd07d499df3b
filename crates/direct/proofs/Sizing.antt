-- The checks of a picture, 1 to 6: how they are answered, and what is known once none of them holds.
-- Assumes nothing.
use mathlib.Core.Path.{◌≡◌, ap, ◌∙◌}
use mathlib.Core.Bool.{cond}
use Prim.Native.Nat.{◌+◌, ◌*◌}
use lib.ListN.{length}
use Rattle.std.specs.Prelude.{Ok, Err}
use Rattle.spec.specs.declared.refusal.Refusal.{Refusal}
use Rattle.spec.specs.declared.refusal.Refusal.TheVariants.{OtherPixels}
use Rattle.spec.specs.Recipe.{Recipe, order}
use Rattle.spec.specs.Picture.{Picture, Sides as SpecSides, full_sides, full_width_of, full_height_of}
use Rattle.spec.specs.Refusals.{first, answer, number, other_pixels, size_checks, picture_checks}
use Rattle.laws.proofs.Refusals.{AcceptedPicture, Sized, first_front, first_then, size_numbered, not_stated, is_sized, is_accepted_picture, picture_passed}
use Rattle.laws.proofs.Results.{number_not_zero, told_err, told_ok, err_told, ok_told}
use Rattle.filter.specs.declared.sizes.Sides.{Sides}
use Rattle.filter.specs.Answers.{sides, size_told}

module _ (r : Recipe) (p : Picture) where
  abbrev grown : SpecSides
  grown = full_sides r p.width p.height

  -- 1 to 5
  pub size_refused : (e : Refusal) → size_told (Err e) ≡ answer (size_checks r p.width p.height) grown
      → size_told (Err e) ≡ answer (picture_checks r p) grown
  unfolding picture_checks
  size_refused e told =
      let one = err_told sides (size_checks r p.width p.height) grown e told in
      told_err sides (picture_checks r p) grown e (first_front (size_checks r p.width p.height) _ (number e) one (number_not_zero e))

  module _ (s : Sides) (told : size_told (Ok s) ≡ answer (size_checks r p.width p.height) grown) where
    none : first (size_checks r p.width p.height) ≡ 0
    none = (ok_told sides (size_checks r p.width p.height) grown s told).0

    pub sized : Sized p.width p.height
    sized = (is_sized r p.width p.height none).1

    -- 6
    pub pixels_refused : (length p.pixels ≡ p.width * p.height → ⊥) → size_told (Err OtherPixels) ≡ answer (picture_checks r p) grown
    unfolding number picture_checks
    pixels_refused h =
        told_err sides (picture_checks r p) grown OtherPixels
        (first_then (size_checks r p.width p.height) (other_pixels (length p.pixels) (p.width * p.height)) 6 (size_numbered r p.width p.height) none
        ∙ ap (λ b. cond b 6 0) (not_stated (length p.pixels) (p.width * p.height) h))

    pub size_accepted : length p.pixels ≡ p.width * p.height → size_told (Ok s) ≡ answer (picture_checks r p) grown
    size_accepted h =
        told_ok sides (picture_checks r p) grown s (picture_passed r p none h) (ok_told sides (size_checks r p.width p.height) grown s told).1

-- what is known where the grown sides of a picture are told
pub record Grown (r : Recipe) (p : Picture) (s : Sides) : Type 0 where
  pub none : first (picture_checks r p) ≡ 0
  pub picture : AcceptedPicture r p
  pub width : s.width ≡ p.width + order r.rows
  pub height : s.height ≡ p.height + order r.columns

pub is_grown : (r : Recipe) (p : Picture) (s : Sides) → size_told (Ok s) ≡ answer (picture_checks r p) (full_sides r p.width p.height) → Grown r p s
unfolding full_sides full_width_of full_height_of
is_grown r p s told =
    let is = ok_told sides (picture_checks r p) (full_sides r p.width p.height) s told in
    record {
      none = is.0;
      picture = is_accepted_picture r p is.0;
      width = ap (λ (x : SpecSides). x.width) is.1;
      height = ap (λ (x : SpecSides). x.height) is.1;
    }
