-- Sequences ℕ → ℕ, 0 before their start, and the box filter on them.
-- Assumes nothing.
use mathlib.Core.Path.{◌≡◌, refl, sym, ap, ◌∙◌}
use mathlib.Core.Bool.{cond}
use Prim.Native.Nat.{ℕ, zero, suc, ◌+◌, ◌-◌, ◌*◌, ◌≤◌, ◌<◌}
use native.Mathlib.Nat.{zero-add, suc-sub-suc, sub-zero, zero-sub, zero-mul, suc-mul}
use native.Mathlib.Omega.{arith}
use lib.Dec.{leb, leb-suc-suc, leb-suc-zero, leb-zero}
use borrow.Author.Tests.{le-leb, lt-leb}
use Rattle.spec.specs.Words.{sum}
use Rattle.laws.proofs.Sums.{sum_agree, sum_zero, sum_add, sum_first, sum_grows, sum_front}

-- f, a places earlier: f (k - a), and 0 where that is before the start
unfoldable pub behind : (ℕ → ℕ) → ℕ → ℕ → ℕ
behind f a k = cond (leb a k) (f (k - a)) 0

-- the box filter of width n: f k + f (k - 1) + .. , n terms
unfoldable pub boxed : ℕ → (ℕ → ℕ) → ℕ → ℕ
boxed n f k = sum n (λ a. behind f a k)

-- the running total f 0 + .. + f k
unfoldable pub running : (ℕ → ℕ) → ℕ → ℕ
running f k = sum (suc k) f

module _ (f : ℕ → ℕ) where
  pub behind_zero : (k : ℕ) → behind f 0 k ≡ f k
  unfolding behind
  behind_zero k = rw (leb-zero k, sub-zero k) refl

  pub behind_suc : (a k : ℕ) → behind f (suc a) (suc k) ≡ behind f a k
  unfolding behind
  behind_suc a k = rw (leb-suc-suc a k, suc-sub-suc k a) refl

  pub behind_start : (a : ℕ) → behind f (suc a) 0 ≡ 0
  unfolding behind
  behind_start a = rw (leb-suc-zero a) refl

  pub behind_within : (a k : ℕ) → a ≤ k → behind f a k ≡ f (k - a)
  unfolding behind
  behind_within a k h = rw (le-leb a k h) refl

  pub behind_before : (a k : ℕ) → k < a → behind f a k ≡ 0
  unfolding behind
  behind_before a k h = rw (lt-leb a k h) refl

  pub running_start : running f 0 ≡ f 0
  unfolding running sum
  running_start = zero-add (f 0)

  pub running_next : (k : ℕ) → running f (suc k) ≡ running f k + f (suc k)
  unfolding running sum
  running_next k = refl

module _ (f : ℕ → ℕ) where
  -- a running total is its last term and the running total before that
  running_step : (a k : ℕ) → behind (running f) a k ≡ behind f a k + behind (running f) (suc a) k
  running_step zero zero =
      omega (arith, behind_zero (running f) 0, behind_zero f 0, behind_start (running f) 0, running_start f)
  running_step zero (suc k) =
      omega (arith, behind_zero (running f) (suc k), behind_zero f (suc k), behind_suc (running f) 0 k, behind_zero (running f) k, running_next f k)
  running_step (suc a) zero =
      omega (arith, behind_start (running f) a, behind_start f a, behind_start (running f) (suc a))
  running_step (suc a) (suc k) =
      omega (arith, behind_suc (running f) a k, behind_suc f a k, behind_suc (running f) (suc a) k, running_step a k)

  -- the box filter is the running total less the running total n places earlier
  pub boxed_running : (n k : ℕ) → boxed n f k + behind (running f) n k ≡ running f k
  unfolding boxed sum
  boxed_running zero k = omega (arith, behind_zero (running f) k)
  boxed_running (suc n) k = omega (arith, boxed_running n k, running_step n k)

  -- a delayed sequence adds up to what has come in
  behind_sum : (a m : ℕ) → sum m (behind f a) ≡ sum (m - a) f
  unfolding sum
  behind_sum zero m = sum_agree (behind f 0) f m (λ k h. behind_zero f k) ∙ ap (λ k. sum k f) (sym (sub-zero m))
  behind_sum (suc a) zero = ap (λ k. sum k f) (sym (zero-sub (suc a)))
  behind_sum (suc a) (suc m) =
      omega (
        arith,
        sum_first (behind f (suc a)) m,
        behind_start f a,
        sum_agree (λ k. behind f (suc a) (suc k)) (behind f a) m (λ k h. behind_suc f a k),
        behind_sum a m,
        ap (λ k. sum k f) (suc-sub-suc m a),
      )

  -- a box filter of width n adds up to n times as much at most
  pub boxed_sum : (n m : ℕ) → sum m (boxed n f) ≤ n * sum m f
  unfolding boxed sum
  boxed_sum zero m = omega (arith, sum_zero m, zero-mul (sum m f))
  boxed_sum (suc n) m =
      omega (
        arith,
        sum_add (boxed n f) (behind f n) m,
        boxed_sum n m,
        behind_sum n m,
        sum_grows f (m - n) m (omega arith),
        suc-mul n (sum m f),
      )

  -- and to n times as much where the last n - 1 values are 0
  pub boxed_whole : (n m : ℕ) → ((k : ℕ) → k < m → m < k + n → f k ≡ 0) → sum m (boxed n f) ≡ n * sum m f
  unfolding boxed sum
  boxed_whole zero m z = omega (arith, sum_zero m, zero-mul (sum m f))
  boxed_whole (suc n) m z =
      omega (
        arith,
        sum_add (boxed n f) (behind f n) m,
        boxed_whole n m (λ k h l. z k h (omega arith)),
        behind_sum n m,
        sum_front f (m - n) m (omega arith) (λ k h l. z k l (omega arith)),
        suc-mul n (sum m f),
      )

-- sequences that agree up to k
module _ (f g : ℕ → ℕ) (k : ℕ) (e : (j : ℕ) → j ≤ k → f j ≡ g j) where
  pub behind_agree : (a : ℕ) → behind f a k ≡ behind g a k
  unfolding behind
  behind_agree a = ap (λ x. cond (leb a k) x 0) (e (k - a) (omega arith))

  pub running_agree : running f k ≡ running g k
  unfolding running
  running_agree = sum_agree f g (suc k) (λ j h. e j (omega arith))
