-- Rounding: that a shift divides by a weight with a single bit set and a reciprocal by any other, so that a quotient over an accepted weight
-- is the grey, how large that is, and that the nearest whole number is rounded alike; and what is made of one sum and of a row of them.
-- Assumes nothing.
use Rattle.std.proofs.Common.{◌≡◌, ℕ, zero, suc, ◌+◌, ◌-◌, ◌*◌, ◌/◌, ◌%◌, ◌^◌, ◌<◌, ◌≤◌, Bool, true, false, cond, eqb, ltb, leb, List, map, length, get_or, pos, ◌-ℤ◌, sym, refl, ap, ◌∙◌, subst, le_of_suc-le-suc, mul-le-mul_right, mod-eq_of_lt, mul_assoc, suc-mul, mul_comm, div-lt_iff_lt-mul, add-mul, mul-le-mul, lt_of_mul-lt-mul_right, mul-le-mul_left, mul-lt-mul_of_pos_right, pow-suc, le-div_iff_mul-le, mul-add, mul_right_comm, div-mul-le_self, le_of_mul-le-mul_right, arith, le-ltb, lt-ltb, eqb-true, leb-false, leb-true}
use native.Mathlib.Nat.{mul-div-le, lt-div-mul-add, div-eq_of_lt-le, div-div-eq-div-mul, pow-zero}
use native.Mathlib.Decide.{dec_le}
use lib.Count.{ones, ones_step, count_trailing_zeros, under}
use Rattle.spec.specs.Picture.{largest_gray}
use Rattle.spec.specs.Gray.{gray, leftover, grays, leftovers, nearest}
use Rattle.laws.proofs.Lists.{tab_agree, tab_map}
use Rattle.laws.proofs.Signed.{not_below_is, same_apart}
use Rattle.gray.specs.Division.{reciprocal_bits, reciprocal_of, divisor, divided, times, estimate, by_reciprocal, quotient, multiple, leftover_of, signed64, shade_gray, shade_leftover, Divides, Bounded}
use Rattle.gray.specs.declared.rounding.Divisor.{Divisor}
use Rattle.gray.specs.declared.rounding.Way.{Way}
use Rattle.gray.specs.declared.rounding.Way.TheVariants.{Shift, Reciprocal}

-- a number below 2^k with no bit set
no_bit : (k n : ℕ) → n < 2 ^ k → ones n ≡ 0 → n ≡ 0
no_bit zero n h e = omega (arith, pow-zero 2)
no_bit (suc k) n h e =
    let step = ones_step n in
    let half : n / 2 < 2 ^ k = omega (arith, pow-suc 2 k) in
    let none = no_bit k (n / 2) half (omega arith) in
    omega arith

-- with a single bit set: 2 to the power of the zeros below it
single_bit : (k n : ℕ) → n < 2 ^ k → ones n ≡ 1 → (2 ^ count_trailing_zeros k n ≡ n) × (count_trailing_zeros k n < k)
unfolding count_trailing_zeros ones
single_bit zero n h e =
    let z : n ≡ 0 = omega (arith, pow-zero 2) in
    absurd (omega (arith, ap ones z))
single_bit (suc k) n h e = go (n % 2) refl (single_bit k (n / 2) half)
  where
    half : n / 2 < 2 ^ k
    half = omega (arith, pow-suc 2 k)

    go : (d : ℕ) → n % 2 ≡ d → (ones (n / 2) ≡ 1 → (2 ^ count_trailing_zeros k (n / 2) ≡ n / 2) × (count_trailing_zeros k (n / 2) < k))
        → (2 ^ under d (count_trailing_zeros k (n / 2)) ≡ n) × (under d (count_trailing_zeros k (n / 2)) < suc k)
    go zero p rest =
        let above = rest (omega (arith, ones_step n)) in
        (pow-suc 2 (count_trailing_zeros k (n / 2)) ∙ omega (arith, above.0), omega (arith, above.1))
    go (suc d) p rest =
        let none = no_bit k (n / 2) half (omega (arith, ones_step n)) in
        (omega arith, omega arith)

-- what the shift of a weight divides by
by_shift : (w : ℕ) → w ≤ 2 ^ 44 → eqb (ones w) 1 ≡ true → 2 ^ (count_trailing_zeros 64 w % 64) ≡ w
by_shift w light e =
    let q = single_bit 64 w (omega arith) (eqb-true (ones w) 1 e) in
    ap (λ k. 2 ^ k) (mod-eq_of_lt q.1) ∙ q.0

-- how a weight divides, by whether it has a single bit set
abbrev way_by : Bool → ℕ → Way
way_by b w = cond b (Shift (count_trailing_zeros 64 w)) (Reciprocal (reciprocal_of w))

-- a number times a reciprocal, in which `unit` stands for 1
abbrev scaled : ℕ → ℕ → ℕ → ℕ
scaled unit w n = n * (unit / w) / unit

-- where the number is at most that unit, this is the quotient or one less
module _ (unit w n : ℕ) (positive : 0 < w) (some : 0 < unit) (near : n ≤ unit) where
  abbrev e : ℕ
  e = scaled unit w n

  not_above : e * w ≤ n
  not_above =
      let r = unit / w in
      le_of_mul-le-mul_right
      (omega (
        arith,
        mul_right_comm e w unit,
        mul-le-mul_right w (div-mul-le_self (n * r) unit),
        mul_assoc n r w,
        mul-le-mul_left n (div-mul-le_self unit w),
      ))
      some

  one_less : n < (e + 2) * w
  one_less =
      let r = unit / w in
      let above : unit ≤ r * w + w = omega (arith, lt-div-mul-add {a = unit} positive) in
      lt_of_mul-lt-mul_right unit
      (omega (
        arith,
        mul-le-mul_left n above,
        mul-add n (r * w) w,
        mul_assoc n r w,
        mul-lt-mul_of_pos_right (lt-div-mul-add {a = n * r} some) positive,
        add-mul (e * unit) unit w,
        mul-le-mul_right w near,
        mul_right_comm (e + 2) w unit,
        ap (λ x. x * w) (add-mul e 2 unit) ∙ add-mul (e * unit) (2 * unit) w,
        mul_assoc 2 unit w,
      ))

  -- the next multiple of the weight tells which
  next_tells : cond (leb ((e + 1) * w) n) (e + 1) e ≡ n / w
  next_tells = go (leb ((e + 1) * w) n) (leb-true _ _) (leb-false _ _)
    where
      go : (b : Bool) → (b ≡ true → (e + 1) * w ≤ n) → (b ≡ false → n < (e + 1) * w) → cond b (e + 1) e ≡ n / w
      go true up down = sym (div-eq_of_lt-le w (up refl) (omega (arith, add-mul e 1 w, add-mul e 2 w, add-mul (e + 1) 1 w, one_less)))
      go false up down = sym (div-eq_of_lt-le w not_above (down refl))

-- a largest grey that a reciprocal's bits suit: a sum times a reciprocal fits 64 bits, and no sum is above what stands for 1. 55 bits suit
-- every largest grey up to 511; for 65,535 at most 48 fit, and suit weights of at most 2^32 in place of 2^44
pub record Suits (most : ℕ) : Type 0 where
  pub fits : (most + 1) * 2 ^ reciprocal_bits ≤ 2 ^ 64
  pub near : (most + 1) * 2 ^ 44 ≤ 2 ^ reciprocal_bits

-- a weight that is not 0 and at most 2^44, and a sum of at most a largest grey times it
module _ (most w s : ℕ) (positive : 0 < w) (light : w ≤ 2 ^ 44) (suits : Suits most) (bounded : s ≤ most * w) where
  abbrev raised : ℕ
  raised = s + w / 2

  raised_less : raised < (most + 1) * w
  raised_less = omega (arith, add-mul most 1 w)

  raised_near : raised ≤ 2 ^ reciprocal_bits
  raised_near = omega (arith, raised_less, mul-le-mul_left (most + 1) light, suits.near)

  fits : raised % 2 ^ 64 ≡ raised
  fits = mod-eq_of_lt (omega (arith, raised_near))

  -- neither product leaves 64 bits
  first_fits : raised * (2 ^ reciprocal_bits / w) < 2 ^ 64
  first_fits =
      let r = 2 ^ reciprocal_bits / w in
      let some : 0 < r = (le-div_iff_mul-le positive).1 (omega (arith, light)) in
      omega (
        arith,
        mul-lt-mul_of_pos_right raised_less some,
        mul_assoc (most + 1) w r,
        mul-le-mul_left (most + 1) (mul-div-le (2 ^ reciprocal_bits) w),
        suits.fits,
      )

  second_fits : (scaled (2 ^ reciprocal_bits) w raised + 1) * w < 2 ^ 64
  second_fits =
      let e = scaled (2 ^ reciprocal_bits) w raised in
      omega (arith, add-mul e 1 w, not_above (2 ^ reciprocal_bits) w raised positive (omega arith) raised_near, raised_near, light)

  by_multiple : by_reciprocal w (reciprocal_of w) raised ≡ raised / w
  unfolding estimate by_reciprocal
  by_multiple =
      let one = 2 ^ reciprocal_bits in
      let e = scaled one w raised in
      ap (λ x. cond (leb ((x / one + 1) * w % 2 ^ 64) raised) (x / one + 1) (x / one)) (mod-eq_of_lt first_fits)
      ∙ ap (λ x. cond (leb x raised) (e + 1) e) (mod-eq_of_lt second_fits)
      ∙ next_tells one w raised positive (omega arith) raised_near

  pub quotient_gray : quotient (divisor w) s ≡ gray w s
  unfolding quotient gray
  quotient_gray = ap (divided (way_by (eqb (ones w) 1) w) w) fits ∙ go (eqb (ones w) 1) (by_shift w light)
    where
      go : (b : Bool) → (b ≡ true → 2 ^ (count_trailing_zeros 64 w % 64) ≡ w) → divided (way_by b w) w raised ≡ raised / w
      go true shift = ap (λ d. raised / d) (shift refl)
      go false shift = by_multiple

  -- its grey is at most that
  pub gray_most : gray w s ≤ most
  unfolding gray
  gray_most = le_of_suc-le-suc ((div-lt_iff_lt-mul positive).1 (omega (arith, suc-mul most w)))

-- what divides by a weight has that weight
pub own_weight : (w : ℕ) (by : Divisor) → Divides w by → by.weight ≡ w
own_weight w by d = ap (λ (x : Divisor). x.weight) d.is

pub divides_own : (w : ℕ) (by : Divisor) → Divides w by → Divides by.weight by
divides_own w by d = subst (λ v. Divides v by) (sym (own_weight w by d)) d

-- what shifts for a weight: 2 to the power of the places is that weight
abbrev places_of : Way → ℕ
places_of (Shift places) = places
places_of (Reciprocal reciprocal) = 0

abbrev shifts : Way → ℕ
shifts (Shift places) = 1
shifts (Reciprocal reciprocal) = 0

pub single_shift : (w : ℕ) (by : Divisor) → Divides w by → (places : ℕ) → by.way ≡ Shift places → (2 ^ places ≡ w) × (places < 64)
single_shift w by d places e = go (eqb (ones w) 1) refl (ap (λ (x : Divisor). x.way) (sym d.is) ∙ e)
  where
    go : (b : Bool) → eqb (ones w) 1 ≡ b → way_by b w ≡ Shift places → (2 ^ places ≡ w) × (places < 64)
    go true one way = subst (λ k. (2 ^ k ≡ w) × (k < 64)) (ap places_of way) (single_bit 64 w (omega (arith, d.light)) (eqb-true (ones w) 1 one))
    go false one way = absurd (omega (arith, ap shifts way))

-- a quotient that is a grey
pub rounded_gray : (most w : ℕ) (by : Divisor) → Divides w by → Suits most → (s q : ℕ) → s ≤ most * w → q ≡ quotient by s → (q ≡ gray w s) × (q ≤ most)
rounded_gray most w by d suits s q bounded e =
    let is = e ∙ ap (λ (x : Divisor). quotient x s) d.is ∙ quotient_gray most w s d.not_zero d.light suits bounded in
    (is, subst (λ x. x ≤ most) (sym is) (gray_most most w s d.not_zero d.light suits bounded))

-- the nearest whole number, a half upwards, is rounded as a grey is
pub nearest_gray : (m d : ℕ) → nearest m d ≡ gray d m
unfolding nearest gray
nearest_gray m d =
    let e : (2 * m + d) / 2 ≡ m + d / 2 = omega arith in
    sym (div-div-eq-div-mul (2 * m + d) 2 d) ∙ ap (λ x. x / d) e

-- ---- what is made of one sum

-- a difference of two numbers below 2^63, in 64 bits and read with a sign
signed_apart : (s p : ℕ) → s < 2 ^ 63 → p < 2 ^ 63 → signed64 ((s + (2 ^ 64 - p)) % 2 ^ 64) ≡ pos s -ℤ pos p
unfolding signed64
signed_apart s p h l =
    elim (dec_le p s) [
      | yes g ↦
          let e : (s + (2 ^ 64 - p)) % 2 ^ 64 ≡ s - p = omega arith in
          ap (λ n. cond (ltb n (2 ^ 63)) (pos n) (pos n -ℤ pos (2 ^ 64))) e
          ∙ ap (λ b. cond b (pos (s - p)) (pos (s - p) -ℤ pos (2 ^ 64))) (lt-ltb (s - p) (2 ^ 63) (omega arith))
          ∙ sym (not_below_is s p g)
      | no g ↦
          let n : ℕ = s + (2 ^ 64 - p) in
          let e : n % 2 ^ 64 ≡ n = omega arith in
          ap (λ n. cond (ltb n (2 ^ 63)) (pos n) (pos n -ℤ pos (2 ^ 64))) e
          ∙ ap (λ b. cond b (pos n) (pos n -ℤ pos (2 ^ 64))) (le-ltb n (2 ^ 63) (omega arith))
          ∙ same_apart n (2 ^ 64) s p (omega arith)
    ]

-- so many weights of a grey that is a byte
multiple_is : (w : ℕ) (by : Divisor) → Divides w by → (count : ℕ) → count ≤ 255 → (multiple by count ≡ count * w) × (count * w ≤ 255 * 2 ^ 44)
unfolding multiple
multiple_is w by d count byte =
    let small : count * w ≤ 255 * 2 ^ 44 = mul-le-mul byte d.light in
    (ap (λ (x : Divisor). times x.way x.weight count) d.is ∙ go (eqb (ones w) 1) (by_shift w d.light) ∙ mod-eq_of_lt (omega arith), small)
  where
    go : (b : Bool) → (b ≡ true → 2 ^ (count_trailing_zeros 64 w % 64) ≡ w) → times (way_by b w) w count ≡ count * w % 2 ^ 64
    go true shift = ap (λ d. count * d % 2 ^ 64) (shift refl)
    go false shift = refl

-- the grey and the leftover, where the weight is not 0 and at most 2^44 and the sum at most the largest grey times it
pub shade_is : (w : ℕ) (by : Divisor) → Divides w by → (s : ℕ) → s ≤ largest_gray * w → (shade_gray by s ≡ gray w s) × (shade_leftover by s ≡ leftover w s)
unfolding shade_gray shade_leftover leftover_of leftover
shade_is w by d s bounded =
    let is = rounded_gray largest_gray w by d (record { fits = omega arith; near = omega arith }) s (quotient by s) bounded refl in
    let m = multiple_is w by d (quotient by s) is.1 in
    let product : multiple by (quotient by s) ≡ w * gray w s = m.0 ∙ mul_comm (quotient by s) w ∙ ap (λ q. w * q) is.0 in
    let low : w * gray w s < 2 ^ 63 = omega (arith, sym product ∙ m.0, m.1) in (
      mod-eq_of_lt (omega (arith, is.1)) ∙ is.0,
      ap (λ p. signed64 ((s + (2 ^ 64 - p)) % 2 ^ 64)) product ∙ signed_apart s (w * gray w s) (omega (arith, d.light)) low,
    )

-- and so of a row of sums
pub shades_are : (w : ℕ) (by : Divisor) → Divides w by → (sums : List ℕ) → Bounded largest_gray w sums
    → (map (shade_gray by) sums ≡ grays w sums) × (map (shade_leftover by) sums ≡ leftovers w sums)
unfolding grays leftovers
shades_are w by d sums b =
    (each (shade_gray by) (gray w) (λ s h. (shade_is w by d s h).0), each (shade_leftover by) (leftover w) (λ s h. (shade_is w by d s h).1))
  where
    each : {A : Type 0} (f g : ℕ → A) → ((s : ℕ) → s ≤ largest_gray * w → f s ≡ g s) → map f sums ≡ map g sums
    each f g same =
        sym (tab_map f 0 sums)
        ∙ tab_agree (length sums) (λ k. f (get_or sums k 0)) (λ k. g (get_or sums k 0)) (λ k h. same (get_or sums k 0) (b k))
        ∙ tab_map g 0 sums
