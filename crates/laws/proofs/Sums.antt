-- Sums over an index: f 0 + .. + f (n - 1).
-- Assumes nothing.
use mathlib.Core.Path.{◌≡◌, refl, sym, ap, ap₂, ◌∙◌}
use mathlib.Core.Bool.{cond}
use Prim.Native.Nat.{ℕ, zero, suc, ◌+◌, ◌-◌, ◌*◌, ◌≤◌, ◌<◌, min}
use native.Mathlib.Nat.{le_refl, le_step, add-le-add, mul-add, mul-zero, zero-add, add-zero, zero-mul, suc-mul, zero-min}
use native.Mathlib.Decide.{dec_lt}
use native.Mathlib.Omega.{arith}
use lib.Dec.{ltb}
use borrow.Author.Tests.{lt-ltb, le-ltb}
use Rattle.spec.specs.Words.{sum}

module _ (f g : ℕ → ℕ) where
  -- two sums whose terms agree
  pub sum_agree : (n : ℕ) → ((k : ℕ) → k < n → f k ≡ g k) → sum n f ≡ sum n g
  unfolding sum
  sum_agree zero e = refl
  sum_agree (suc n) e = ap₂ ◌+◌ (sum_agree n (λ k h. e k (le_step h))) (e n (le_refl (suc n)))

  pub sum_le : (n : ℕ) → ((k : ℕ) → k < n → f k ≤ g k) → sum n f ≤ sum n g
  unfolding sum
  sum_le zero e = le_refl 0
  sum_le (suc n) e = add-le-add (sum_le n (λ k h. e k (le_step h))) (e n (le_refl (suc n)))

  pub sum_add : (n : ℕ) → sum n (λ k. f k + g k) ≡ sum n f + sum n g
  unfolding sum
  sum_add zero = refl
  sum_add (suc n) = omega (arith, sum_add n)

module _ (f : ℕ → ℕ) where
  pub sum_scale : (c n : ℕ) → sum n (λ k. c * f k) ≡ c * sum n f
  unfolding sum
  sum_scale c zero = sym (mul-zero c)
  sum_scale c (suc n) = ap (λ s. s + c * f n) (sum_scale c n) ∙ sym (mul-add c (sum n f) (f n))

  -- the first term apart
  pub sum_first : (n : ℕ) → sum (suc n) f ≡ f 0 + sum n (λ k. f (suc k))
  unfolding sum
  sum_first zero = zero-add (f 0) ∙ sym (add-zero (f 0))
  sum_first (suc n) = omega (arith, sum_first n)

  -- the terms from m on apart
  pub sum_split : (m n : ℕ) → sum (m + n) f ≡ sum m f + sum n (λ k. f (m + k))
  unfolding sum
  sum_split m zero = rw (add-zero m) (sym (add-zero (sum m f)))
  sum_split m (suc n) =
      let e : m + suc n ≡ suc (m + n) = omega arith in
      rw e (omega (arith, sum_split m n))

  -- a sum with more terms is no less
  pub sum_grows : (m n : ℕ) → m ≤ n → sum m f ≤ sum n f
  sum_grows m n h =
      let e : n ≡ m + (n - m) = omega arith in
      omega (arith, ap (λ k. sum k f) e, sum_split m (n - m))

  -- terms from m on that are 0 do not count
  pub sum_front : (m n : ℕ) → m ≤ n → ((k : ℕ) → m ≤ k → k < n → f k ≡ 0) → sum n f ≡ sum m f
  unfolding sum
  sum_front m zero h z = let e : m ≡ 0 = omega arith in sym (ap (λ k. sum k f) e)
  sum_front m (suc n) h z =
      elim (dec_lt n m) [
        | yes g ↦ let e : m ≡ suc n = omega arith in sym (ap (λ k. sum k f) e)
        | no g ↦
            let l : m ≤ n = omega arith in
            omega (arith, sum_front m n l (λ k i j. z k i (omega arith)), z n l (omega arith))
      ]

  -- only the terms below n count
  pub sum_below : (m n : ℕ) → sum m (λ k. cond (ltb k n) (f k) 0) ≡ sum (min m n) f
  unfolding sum
  sum_below zero n = sym (ap (λ k. sum k f) (zero-min n))
  sum_below (suc m) n =
      elim (dec_lt m n) [
        | yes h ↦
            let e : min (suc m) n ≡ suc m = omega arith in
            let d : min m n ≡ m = omega arith in
            rw (lt-ltb m n h, e) (ap (λ s. s + f m) (sum_below m n ∙ ap (λ k. sum k f) d))
        | no h ↦
            let l : n ≤ m = omega arith in
            let e : min (suc m) n ≡ min m n = omega arith in
            rw (le-ltb m n l, e) (add-zero _ ∙ sum_below m n)
      ]

pub sum_zero : (n : ℕ) → sum n (λ k. 0) ≡ 0
unfolding sum
sum_zero zero = refl
sum_zero (suc n) = omega (arith, sum_zero n)

-- sums over two indices may be taken in either order
pub sum_swap : (f : ℕ → ℕ → ℕ) (m n : ℕ) → sum m (λ i. sum n (λ j. f i j)) ≡ sum n (λ j. sum m (λ i. f i j))
unfolding sum
sum_swap f zero n = sym (sum_zero n)
sum_swap f (suc m) n =
    ap (λ s. s + sum n (λ j. f m j)) (sum_swap f m n)
    ∙ sym (sum_add (λ j. sum m (λ i. f i j)) (λ j. f m j) n)

-- m rows of n terms, as one sum
pub sum_rows : (g : ℕ → ℕ) (m n : ℕ) → sum (m * n) g ≡ sum m (λ a. sum n (λ b. g (a * n + b)))
unfolding sum
sum_rows g zero n = ap (λ k. sum k g) (zero-mul n)
sum_rows g (suc m) n = ap (λ k. sum k g) (suc-mul m n) ∙ sum_split g (m * n) n ∙ ap (λ t. t + sum n (λ b. g (m * n + b))) (sum_rows g m n)
