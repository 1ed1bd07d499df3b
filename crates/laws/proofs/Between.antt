-- Greys between the least and the greatest pixel, and greys that rise with the pixels: the claims of spec/specs/Between.antt. Greys rise
-- since sums do and the inside weight is by the sides alone. A picture is the plain one of its least pixel, raised, and the plain one of its
-- greatest is that picture raised; plain pictures keep their grey.
-- Assumes nothing.
use mathlib.Core.Path.{◌≡◌, refl, sym, ap₂, subst, ◌∙◌}
use mathlib.Core.List.{List, [], ◌∷◌}
use Prim.Native.Nat.{ℕ, zero, suc, ◌+◌, ◌*◌, ◌/◌, ◌≤◌, ◌<◌}
use native.Mathlib.Nat.{le_refl, le_of_eq, le_of_suc-le-suc, mul-pos, div-zero, le-div_iff_mul-le, div-mul-le_self}
use native.Mathlib.Decide.{dec_le}
use native.Mathlib.Omega.{arith}
use lib.ListN.{length, get_or, replicate, get_or-replicate}
use Rattle.spec.specs.Words.{least, greatest}
use Rattle.spec.specs.Picture.{Picture}
use Rattle.spec.specs.Gray.{gray, same_column, same_row, same_sum, plain, inside_weight, place_weight, same_gray}
use Rattle.spec.specs.Between.{EndsArePixels, GraysBetween, SameGraysBetween, Raised, GraysRise}
use Rattle.laws.proofs.Refusals.{is_accepted_picture}
use Rattle.laws.proofs.Inside.{exact_rises, raised_under, raised_lists, inside_fits, plain_kept}

-- ---- the least and the greatest entry of a list

-- every entry lies between them
pub least_below : (xs : List ℕ) (k : ℕ) → k < length xs → least xs ≤ get_or xs k 0
unfolding least
least_below [] k h = absurd (omega arith)
least_below (x ∷ []) zero h = le_refl x
least_below (x ∷ []) (suc k) h = absurd (omega arith)
least_below (x ∷ y ∷ ys) zero h = omega arith
least_below (x ∷ y ∷ ys) (suc k) h = omega (arith, least_below (y ∷ ys) k (le_of_suc-le-suc h))

pub greatest_above : (xs : List ℕ) (k : ℕ) → k < length xs → get_or xs k 0 ≤ greatest xs
unfolding greatest
greatest_above [] k h = absurd (omega arith)
greatest_above (x ∷ xs) zero h = omega arith
greatest_above (x ∷ xs) (suc k) h = omega (arith, greatest_above xs k (le_of_suc-le-suc h))

-- and each is itself an entry
abbrev Entry : List ℕ → ℕ → Type 0
Entry xs n = (k : ℕ) × (k < length xs) × (get_or xs k 0 ≡ n)

least_entry : (xs : List ℕ) → 0 < length xs → Entry xs (least xs)
unfolding least
least_entry [] h = absurd (omega arith)
least_entry (x ∷ []) h = (0, h, refl)
least_entry (x ∷ y ∷ ys) h =
    elim (dec_le x (least (y ∷ ys))) [
      | yes l ↦ (0, omega arith, omega arith)
      | no l ↦ let e = least_entry (y ∷ ys) (omega arith) in (suc e.0, omega (arith, e.1), omega (arith, e.2))
    ]

greatest_entry : (xs : List ℕ) → 0 < length xs → Entry xs (greatest xs)
unfolding greatest
greatest_entry [] h = absurd (omega arith)
greatest_entry (x ∷ []) h = (0, h, omega arith)
greatest_entry (x ∷ y ∷ ys) h =
    elim (dec_le (greatest (y ∷ ys)) x) [
      | yes l ↦ (0, omega arith, omega arith)
      | no l ↦ let e = greatest_entry (y ∷ ys) (omega arith) in (suc e.0, omega (arith, e.1), omega (arith, e.2))
    ]

pub ends_are_pixels : EndsArePixels
ends_are_pixels r p e =
    let a = is_accepted_picture r p e in
    let some : 0 < length p.pixels = omega (arith, a.size, mul-pos a.sides.width.0 a.sides.height.0) in (
      least_entry p.pixels some,
      greatest_entry p.pixels some,
      λ g k.
          (omega (arith, least_below p.pixels k.0 k.1, k.2), omega (arith, greatest_above p.pixels k.0 k.1, k.2)),
    )

-- ---- greys that rise with the pixels

-- a grey rises with the sum, over any weight; over 0 it is 0
pub gray_rises : (w s t : ℕ) → s ≤ t → gray w s ≤ gray w t
unfolding gray
gray_rises zero s t h = le_of_eq (div-zero (s + 0 / 2) ∙ sym (div-zero (t + 0 / 2)))
gray_rises (suc w) s t h =
    let some : 0 < suc w = omega arith in
    (le-div_iff_mul-le some).1 (omega (arith, div-mul-le_self (s + suc w / 2) (suc w)))

pub grays_rise : GraysRise
unfolding same_gray same_sum place_weight
grays_rise r p q u i j =
    let same : place_weight r p i j ≡ place_weight r q i j = ap₂ (λ w h. inside_weight r w h i j) u.width u.height in
    subst (λ w. same_gray r p i j ≤ gray w (same_sum r q i j)) same
    (gray_rises (place_weight r p i j) (same_sum r p i j) (same_sum r q i j) (exact_rises r p q (raised_under p q u) (same_column r i) (same_row r j)))

-- ---- greys between the least and the greatest pixel

module _ (p : Picture) (e : length p.pixels ≡ p.width * p.height) where
  abbrev size : ℕ
  size = p.width * p.height

  raised_from : Raised (plain p.width p.height (least p.pixels)) p
  unfolding plain
  raised_from =
      raised_lists p.width p.height (replicate size (least p.pixels)) p.pixels
      (λ k h. omega (arith, get_or-replicate size k (least p.pixels) 0 h, least_below p.pixels k (omega arith)))

  raised_to : Raised p (plain p.width p.height (greatest p.pixels))
  unfolding plain
  raised_to =
      raised_lists p.width p.height p.pixels (replicate size (greatest p.pixels))
      (λ k h. omega (arith, get_or-replicate size k (greatest p.pixels) 0 h, greatest_above p.pixels k (omega arith)))

pub grays_between : GraysBetween
unfolding place_weight plain
grays_between r p e i j some =
    let w = p.width in
    let h = p.height in
    let lo = least p.pixels in
    let hi = greatest p.pixels in (
      omega (arith, (plain_kept r w h lo i j some).0, grays_rise r (plain w h lo) p (raised_from p e) i j),
      omega (arith, (plain_kept r w h hi i j some).0, grays_rise r p (plain w h hi) (raised_to p e) i j),
    )

pub same_grays_between : SameGraysBetween
same_grays_between r p e i j x y = grays_between r p (is_accepted_picture r p e).size i j (inside_fits r p e i j x y).0
