-- How large sums, differences and leftovers are: the claims of spec/specs/Ranges.antt, and what they rest on, over any largest grey.
-- Assumes nothing.
use mathlib.Core.Path.{◌≡◌, subst}
use mathlib.Core.Bool.{Bool, true, false, cond}
use Prim.Native.Nat.{ℕ, zero, suc, ◌+◌, ◌-◌, ◌*◌, ◌/◌, ◌%◌, ◌≤◌, ◌<◌}
use native.Mathlib.Nat.{mul-le-mul_left, mul-le-mul_right, mul_assoc, mul_comm, suc-mul, mul_left_comm, div-lt_iff_lt-mul, div-add-mod', mod-lt, le_of_suc-le-suc}
use native.Mathlib.Omega.{arith}
use lib.Dec.{leb}
use lib.IntN.{pos, neg_ℤ, nat_abs, ◌-ℤ◌}
use lib.Signed.{◌≤ℤ◌}
use Rattle.spec.specs.Recipe.{gain}
use Rattle.spec.specs.Picture.{largest_gray}
use Rattle.spec.specs.Gray.{gray, leftover, same_column, same_row, same_sum, place_weight, same_leftover, nearest, nearest_difference, difference}
use Rattle.spec.specs.Ranges.{SumsFit, DifferencesFit, LeftoversFit, SameLeftoversFit}
use Rattle.laws.proofs.Signed.{not_below_is, same_apart, apart_grows, negated_is}
use Rattle.laws.proofs.Refusals.{is_accepted_picture}
use Rattle.laws.proofs.Exact.{exact_small}
use Rattle.laws.proofs.Inside.{inside_fits}

-- a sum of at most a largest grey times its own weight, times another weight
pub times_other : (most own other s : ℕ) → s ≤ most * own → s * other ≤ most * (own * other)
times_other most own other s h = omega (arith, mul-le-mul_right other h, mul_assoc most own other)

-- a largest grey times a weight, rounded, is at most that grey
nearest_most : (most m d : ℕ) → 0 < d → m ≤ most * d → nearest m d ≤ most
unfolding nearest
nearest_most most m d positive h =
    le_of_suc-le-suc ((div-lt_iff_lt-mul (omega arith)).1 (omega (arith, suc-mul most (2 * d), mul_left_comm most 2 d)))

difference_most : (most x y d : ℕ) → 0 < d → x ≤ most * d → y ≤ most * d → nat_abs (nearest_difference x y d) ≤ most
unfolding nearest_difference
difference_most most x y d positive h l = go (leb y x)
  where
    negated : (n : ℕ) → n ≤ most → nat_abs (neg_ℤ (pos n)) ≤ most
    negated zero e = e
    negated (suc n) e = e

    go : (b : Bool) → nat_abs (cond b (pos (nearest (x - y) d)) (neg_ℤ (pos (nearest (y - x) d)))) ≤ most
    go true = nearest_most most (x - y) d positive (omega arith)
    go false = negated (nearest (y - x) d) (nearest_most most (y - x) d positive (omega arith))

pub sums_fit : SumsFit
sums_fit r p e small i j =
    omega (arith, exact_small r p largest_gray small i j, mul-le-mul_left largest_gray (is_accepted_picture r p e).recipe.light)

pub differences_fit : DifferencesFit
unfolding difference same_sum
differences_fit a b p e f small i j =
    let m = (is_accepted_picture a p e).recipe.not_zero in
    let n = (is_accepted_picture b p f).recipe.not_zero in
    let x = times_other largest_gray (gain a) (gain b) _ (exact_small a p largest_gray small (same_column a i) (same_row a j)) in
    let y = times_other largest_gray (gain b) (gain a) _ (exact_small b p largest_gray small (same_column b i) (same_row b j)) in
    let positive : 0 < gain a * gain b = omega (arith, mul-le-mul_left (gain a) n) in
    difference_most largest_gray _ _ (gain a * gain b) positive x (omega (arith, y, mul_comm (gain b) (gain a)))

-- a leftover is the remainder of the sum and the half, less the half
leftover_is : (w s : ℕ) → leftover w s ≡ pos ((s + w / 2) % w) -ℤ pos (w / 2)
unfolding leftover gray
leftover_is w s =
    let q : (s + w / 2) / w * w + (s + w / 2) % w ≡ s + w / 2 = div-add-mod' (s + w / 2) w in
    same_apart s (w * ((s + w / 2) / w)) ((s + w / 2) % w) (w / 2) (omega (arith, q, mul_comm w ((s + w / 2) / w)))

pub leftovers_fit : LeftoversFit
leftovers_fit w s positive =
    let rest = (s + w / 2) % w in
    let under : rest < w = mod-lt (s + w / 2) positive in
    rw (leftover_is w s) (
      subst (λ z. z ≤ℤ (pos rest -ℤ pos (w / 2))) (negated_is (w / 2)) (apart_grows 0 rest (w / 2) (omega arith)),
      subst (λ z. (pos rest -ℤ pos (w / 2)) ≤ℤ z) (not_below_is (w - 1) (w / 2) (omega arith)) (apart_grows rest (w - 1) (w / 2) (omega arith)),
    )

pub same_leftovers_fit : SameLeftoversFit
unfolding same_leftover
same_leftovers_fit r p e i j h l = leftovers_fit (place_weight r p i j) (same_sum r p i j) (inside_fits r p e i j h l).0
