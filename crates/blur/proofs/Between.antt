-- The claims of specs/Between.antt: each grey that the same-size blur leaves is the one that is defined for its place.
-- Assumes nothing.
use mathlib.Core.Path.{◌≡◌, refl, sym, ap, ap₂, ◌∙◌}
use mathlib.Core.List.{List}
use Prim.Native.Nat.{ℕ, ◌*◌, ◌/◌, ◌%◌, ◌<◌}
use native.Mathlib.Nat.{mul_comm, mod-lt, div-lt_iff_lt-mul, div-add-mod'}
use native.Mathlib.Omega.{arith}
use lib.IntN.{pos}
use lib.ListN.{length, get_or, replicate, length-replicate, take-append-drop}
use Rattle.spec.specs.Recipe.{Recipe}
use Rattle.spec.specs.Picture.{Picture}
use Rattle.spec.specs.Gray.{places, same_gray, same_leftover}
use Rattle.spec.specs.Refusals.{first, full_size, picture_checks, same_size_checks}
use Rattle.laws.proofs.Refusals.{none_both, size_numbered, picture_numbered, is_accepted_picture}
use Rattle.laws.proofs.Between.{same_grays_between, grays_rise}
use Rattle.blur.specs.Blurred.{BlurCall}
use Rattle.blur.specs.Between.{BlurCalls, BlurredBetween, BlurredRise}
use Rattle.blur.proofs.Answering.{blur_none, blur_all, left_size, left_at}

-- a call that is lent as much as is asked for, black
pub blur_calls : BlurCalls
unfolding picture_checks
blur_calls r p e =
    let sides = (none_both _ _ (size_numbered r p.width p.height) e).0 in
    let size = p.width * p.height in
    let out : List ℕ = replicate size 0 in
    let left = replicate size (pos 0) in
    let cells : List ℕ = replicate (2 * full_size r p) 0 in
    let none = blur_none r p (length out) (length left) (length cells) sides (is_accepted_picture r p e).size (length-replicate {A = ℕ} size 0)
    (length-replicate size (pos 0)) (omega (arith, length-replicate {A = ℕ} (2 * full_size r p) 0)) in
    record {
      out = out;
      left = left;
      cells = cells;
      number = 0;
      new_out = places p (same_gray r p);
      new_left = places p (same_leftover r p);
      new_cells = cells;
      none = none;
      told = blur_all r p out left cells none _ _ cells refl refl (sym (take-append-drop (2 * full_size r p) cells)) refl;
    }

module _ (r : Recipe) (p : Picture) (c : BlurCall r p) where
  accepted : first (picture_checks r p) ≡ 0
  unfolding same_size_checks
  accepted = (none_both _ _ (picture_numbered r p) c.none).0

  whole : (c.number ≡ 0) × (length c.new_out ≡ p.width * p.height)
  whole = (c.told.grays.answer ∙ c.none, left_size p (same_gray r p) 0 _ c.none c.out c.new_out c.told.grays.output)

  -- the picture place of a grey that is left
  module _ (k : ℕ) (h : k < length c.new_out) where
    wide : 0 < p.width
    wide = omega (arith, whole.1, (is_accepted_picture r p accepted).sides.width.0)

    column : k % p.width < p.width
    column = mod-lt k wide

    row : k / p.width < p.height
    row = (div-lt_iff_lt-mul wide).1 (omega (arith, whole.1, mul_comm p.width p.height))

    gray-left : get_or c.new_out k 0 ≡ same_gray r p (k % p.width) (k / p.width)
    gray-left =
        ap (λ n. get_or c.new_out n 0) (sym (div-add-mod' k p.width))
        ∙ left_at p (same_gray r p) 0 _ c.none c.out c.new_out c.told.grays.output (k % p.width) (k / p.width) column row

pub blurred_between : BlurredBetween
blurred_between r p c = (
  whole r p c,
  λ k h.
      let is = gray-left r p c k h in
      let fits = same_grays_between r p (accepted r p c) (k % p.width) (k / p.width) (column r p c k h) (row r p c k h) in
      (omega (arith, fits.0), omega (arith, fits.1)),
)

pub blurred_rise : BlurredRise
blurred_rise r p q u a b = (
  whole r p a,
  whole r q b,
  λ k h.
      let size : p.width * p.height ≡ q.width * q.height = ap₂ ◌*◌ u.width u.height in
      let in_b : k < length b.new_out = omega (arith, (whole r p a).1, (whole r q b).1) in
      let same : same_gray r q (k % p.width) (k / p.width) ≡ same_gray r q (k % q.width) (k / q.width) =
      ap (λ w. same_gray r q (k % w) (k / w)) u.width in
      omega (arith, gray-left r p a k h, gray-left r q b k in_b, same, grays_rise r p q u (k % p.width) (k / p.width)),
)
