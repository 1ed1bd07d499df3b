-- The convolution of sequences, and the box filter as a convolution.
-- Assumes nothing.
use mathlib.Core.Path.{◌≡◌, refl, sym, ap, ap₂, ◌∙◌}
use mathlib.Core.Bool.{Bool, true, false, cond}
use Prim.Native.Nat.{ℕ, zero, suc, ◌-◌, ◌*◌, ◌≤◌}
use native.Mathlib.Nat.{le_refl, zero-add, zero-mul, one-mul, mul-zero, mul_comm, mul_assoc, sub-zero, suc-sub-suc, min_comm}
use native.Mathlib.Omega.{arith}
use lib.Dec.{leb, ltb, leb-suc-suc}
use Rattle.spec.specs.Words.{sum}
use Rattle.laws.proofs.Sums.{sum_agree, sum_first, sum_scale, sum_front, sum_swap, sum_below}
use Rattle.laws.proofs.Sequences.{behind, boxed, behind_zero, behind_suc, behind_start, behind_within, behind_before}

-- at k the sum of f a times g (k - a) over a of 0 to k
unfoldable pub conv : (ℕ → ℕ) → (ℕ → ℕ) → ℕ → ℕ
conv f g k = sum (suc k) (λ a. f a * g (k - a))

-- the sequence of n ones
unfoldable pub ones : ℕ → ℕ → ℕ
ones n k = cond (ltb k n) 1 0

-- a sum, its terms in the reverse order
pub sum_reverse : (h : ℕ → ℕ) (k : ℕ) → sum (suc k) h ≡ sum (suc k) (λ a. h (k - a))
unfolding sum
sum_reverse h zero = refl
sum_reverse h (suc k) =
    omega (
      arith,
      sum_first (λ a. h (suc k - a)) (suc k),
      ap h (sub-zero (suc k)),
      sum_agree (λ a. h (suc k - suc a)) (λ a. h (k - a)) (suc k) (λ a l. ap h (suc-sub-suc k a)),
      sum_reverse h k,
    )

pub conv_agree : (f f' g g' : ℕ → ℕ) (k : ℕ) → ((a : ℕ) → a ≤ k → f a ≡ f' a) → ((a : ℕ) → a ≤ k → g a ≡ g' a) → conv f g k ≡ conv f' g' k
unfolding conv
conv_agree f f' g g' k e d =
    sum_agree (λ a. f a * g (k - a)) (λ a. f' a * g' (k - a)) (suc k) (λ a l. ap₂ ◌*◌ (e a (omega arith)) (d (k - a) (omega arith)))

module _ (f g : ℕ → ℕ) where
  pub conv_comm : (k : ℕ) → conv f g k ≡ conv g f k
  unfolding conv
  conv_comm k =
      sum_reverse (λ a. f a * g (k - a)) k
      ∙ sum_agree (λ a. f (k - a) * g (k - (k - a))) (λ a. g a * f (k - a)) (suc k)
      (λ a h.
      let e : k - (k - a) ≡ a = omega arith in
      mul_comm (f (k - a)) (g (k - (k - a))) ∙ ap (λ b. g b * f (k - a)) e)

  -- terms past k do not count
  pub conv_wide : (m k : ℕ) → k ≤ m → conv f g k ≡ sum (suc m) (λ a. f a * behind g a k)
  unfolding conv
  conv_wide m k h =
      sum_agree (λ a. f a * g (k - a)) (λ a. f a * behind g a k) (suc k)
      (λ a l. ap (λ x. f a * x) (sym (behind_within g a k (omega arith))))
      ∙ sym (sum_front (λ a. f a * behind g a k) (suc k) (suc m) (omega arith)
      (λ a l i. ap (λ x. f a * x) (behind_before g a k l) ∙ mul-zero (f a)))

  -- a delay goes through a convolution
  pub conv_behind : (a k : ℕ) → conv (behind f a) g k ≡ behind (conv f g) a k
  unfolding conv sum
  conv_behind zero k =
      sum_agree (λ b. behind f 0 b * g (k - b)) (λ b. f b * g (k - b)) (suc k) (λ b h. ap (λ x. x * g (k - b)) (behind_zero f b))
      ∙ sym (behind_zero (conv f g) k)
  conv_behind (suc a) zero =
      zero-add (behind f (suc a) 0 * g 0) ∙ ap (λ x. x * g 0) (behind_start f a) ∙ zero-mul (g 0) ∙ sym (behind_start (conv f g) a)
  conv_behind (suc a) (suc k) =
      let rest : sum (suc k) (λ b. behind f (suc a) (suc b) * g (suc k - suc b)) ≡ conv (behind f a) g k =
      sum_agree (λ b. behind f (suc a) (suc b) * g (suc k - suc b)) (λ b. behind f a b * g (k - b)) (suc k)
      (λ b h. ap₂ (λ x y. x * g y) (behind_suc f a b) (suc-sub-suc k b)) in
      let head : behind f (suc a) 0 * g (suc k - 0) ≡ 0 = ap (λ x. x * g (suc k - 0)) (behind_start f a) ∙ zero-mul (g (suc k - 0)) in
      omega (arith, sum_first (λ b. behind f (suc a) b * g (suc k - b)) (suc k), rest, head, conv_behind a k, behind_suc (conv f g) a k)

-- convolutions may be grouped either way
pub conv_assoc : (f g h : ℕ → ℕ) (k : ℕ) → conv (conv f g) h k ≡ conv f (conv g h) k
unfolding conv
conv_assoc f g h k =
    sum_agree (λ c. conv f g c * h (k - c)) (λ c. sum (suc k) (λ a. f a * (behind g a c * h (k - c)))) (suc k)
    (λ c l.
    ap (λ x. x * h (k - c)) (conv_wide f g k c (omega arith))
    ∙ mul_comm (sum (suc k) (λ a. f a * behind g a c)) (h (k - c))
    ∙ sym (sum_scale (λ a. f a * behind g a c) (h (k - c)) (suc k))
    ∙ sum_agree (λ a. h (k - c) * (f a * behind g a c)) (λ a. f a * (behind g a c * h (k - c))) (suc k)
    (λ a m. mul_comm (h (k - c)) (f a * behind g a c) ∙ mul_assoc (f a) (behind g a c) (h (k - c))))
    ∙ sum_swap (λ c a. f a * (behind g a c * h (k - c))) (suc k) (suc k)
    ∙ sum_agree (λ a. sum (suc k) (λ c. f a * (behind g a c * h (k - c)))) (λ a. f a * behind (conv g h) a k) (suc k)
    (λ a l.
    sum_scale (λ c. behind g a c * h (k - c)) (f a) (suc k)
    ∙ ap (λ x. f a * x) (conv_behind g h a k))
    ∙ sym (conv_wide f (conv g h) k k (le_refl k))

-- the box filter of width n is the convolution with n ones
pub boxed_conv : (n : ℕ) (f : ℕ → ℕ) (k : ℕ) → boxed n f k ≡ conv (ones n) f k
unfolding boxed behind conv ones
boxed_conv n f k =
    sum_agree (λ a. cond (leb a k) (f (k - a)) 0) (λ a. cond (ltb a (suc k)) (f (k - a)) 0) n
    (λ a h. ap (λ b. cond b (f (k - a)) 0) (sym (leb-suc-suc a k)))
    ∙ sum_below (λ a. f (k - a)) n (suc k)
    ∙ ap (λ m. sum m (λ a. f (k - a))) (min_comm n (suc k))
    ∙ sym (sum_below (λ a. f (k - a)) (suc k) n)
    ∙ sum_agree (λ a. cond (ltb a n) (f (k - a)) 0) (λ a. cond (ltb a n) 1 0 * f (k - a)) (suc k)
    (λ a h. once (ltb a n) (f (k - a)))
  where
    once : (b : Bool) (x : ℕ) → cond b x 0 ≡ cond b 1 0 * x
    once true x = sym (one-mul x)
    once false x = sym (zero-mul x)
