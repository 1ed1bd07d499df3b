-- Numbers held at a limit, rows of places, factors that are 0, and two tests.
-- Assumes nothing.
use mathlib.Core.Path.{◌≡◌, refl, sym, ap}
use mathlib.Core.Bool.{Bool, true, false, ◌||◌, ◌&&◌, true≢false}
use Prim.Native.Nat.{ℕ, zero, suc, ◌+◌, ◌*◌, ◌≤◌, ◌<◌, min}
use native.Mathlib.Nat.{zero-lt-suc, mul-zero, zero-mul, mul-pos, mul_comm, suc-mul, mul-le-mul_right, le-mul_of_pos_right}
use native.Mathlib.Decide.{dec_le}
use native.Mathlib.Omega.{arith}
use lib.Dec.{eqb, eqb-suc-zero}
use borrow.Author.Tests.{ne_eqb}

-- a product held at a limit does not change where a factor is held there first
pub cap_times : (a n c : ℕ) → min (min a c * n) c ≡ min (a * n) c
cap_times a zero c = omega (arith, mul-zero (min a c), mul-zero a)
cap_times a (suc n) c =
    elim (dec_le a c) [
      | yes h ↦
          let e : min a c ≡ a = omega arith in
          ap (λ x. min (x * suc n) c) e
      | no h ↦
          let e : min a c ≡ c = omega arith in
          let over : c ≤ c * suc n = le-mul_of_pos_right c (zero-lt-suc n) in
          let most : a ≤ a * suc n = le-mul_of_pos_right a (zero-lt-suc n) in
          omega (arith, ap (λ x. x * suc n) e)
    ]

-- row j of rows of w places ends where row j + 1 begins
pub row_fits : (w j rows : ℕ) → j < rows → j * w + w ≤ rows * w
row_fits w j rows h =
    let g : suc j * w ≤ rows * w = mul-le-mul_right w h in
    omega (arith, suc-mul j w)

-- and place i of it is one of all w * h
pub place_fits : (w h i j : ℕ) → i < w → j < h → j * w + i < w * h
place_fits w h i j x y = omega (arith, row_fits w j h y, mul_comm w h)

-- a product is 0 exactly where a factor is
pub zero_factor : (a b : ℕ) → (eqb a 0 || eqb b 0) ≡ eqb (a * b) 0
zero_factor zero b = sym (ap (λ m. eqb m 0) (zero-mul b))
zero_factor (suc a) zero = rw (eqb-suc-zero a) (sym (ap (λ m. eqb m 0) (mul-zero (suc a))))
zero_factor (suc a) (suc b) =
    let h : 0 < suc a * suc b = mul-pos (zero-lt-suc a) (zero-lt-suc b) in
    rw (eqb-suc-zero a, eqb-suc-zero b) (sym (ne_eqb (suc a * suc b) 0 (λ e. omega arith)))

-- two tests of which neither holds, and of which both do
pub neither : (a b : Bool) → (a || b) ≡ false → (a ≡ false) × (b ≡ false)
neither true b e = absurd (true≢false e)
neither false b e = (refl, e)

pub both : (a b : Bool) → (a && b) ≡ true → (a ≡ true) × (b ≡ true)
both true b e = (refl, e)
both false b e = absurd (true≢false (sym e))
