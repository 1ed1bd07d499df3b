-- What is known of a reading that is accepted: an accepted picture, and a place inside it.
-- Assumes nothing.
use mathlib.Core.Path.{◌≡◌}
use Prim.Native.Nat.{ℕ, ◌<◌}
use lib.Dec.{ltb}
use borrow.Author.Tests.{ltb-true}
use Rattle.spec.specs.Recipe.{Recipe}
use Rattle.spec.specs.Picture.{Picture}
use Rattle.spec.specs.Refusals.{first, outside, picture_checks, reading_checks}
use Rattle.std.proofs.lemmas.Bool.{not-false}
use Rattle.laws.proofs.Numbers.{both}
use Rattle.laws.proofs.Refusals.{AcceptedPicture, is_accepted_picture, first_none, none_both, picture_numbered}

pub record Inside (r : Recipe) (p : Picture) (i j : ℕ) : Type 0 where
  pub none : first (picture_checks r p) ≡ 0
  pub picture : AcceptedPicture r p
  pub column : i < p.width
  pub row : j < p.height

pub is_inside : (r : Recipe) (p : Picture) (i j : ℕ) → first (reading_checks r p i j) ≡ 0 → Inside r p i j
unfolding reading_checks outside
is_inside r p i j e =
    let six = none_both (picture_checks r p) _ (picture_numbered r p) e in
    let within = both (ltb i p.width) (ltb j p.height) (not-false _ (first_none (outside p.width p.height i j) 14 _ six.1).0) in
    record {
      none = six.0;
      picture = is_accepted_picture r p six.0;
      column = ltb-true i p.width within.0;
      row = ltb-true j p.height within.1;
    }
