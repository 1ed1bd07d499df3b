-- Sequences that are alike modulo m stay so under boxes and running totals.
-- Assumes nothing.
use Rattle.std.proofs.Common.{◌≡◌, ℕ, zero, suc, ◌+◌, ◌-◌, ◌*◌, ◌%◌, ◌<◌, ◌≤◌, Bool, true, false, cond, leb, sym, refl, ◌∙◌, ap₂, le_refl, arith}
use native.Mathlib.Nat.{le_step, add-mod}
use Rattle.spec.specs.Words.{sum}
use Rattle.laws.proofs.Sequences.{behind, running}
use Rattle.laws.proofs.Cascades.{spread}

module _ (m : ℕ) where
  pub plus_alike : (a b c d : ℕ) → a % m ≡ b % m → c % m ≡ d % m → (a + c) % m ≡ (b + d) % m
  plus_alike a b c d e g = add-mod a c m ∙ ap₂ (λ x y. (x + y) % m) e g ∙ sym (add-mod b d m)

  pub sum_alike : (f g : ℕ → ℕ) (n : ℕ) → ((k : ℕ) → k < n → f k % m ≡ g k % m) → sum n f % m ≡ sum n g % m
  unfolding sum
  sum_alike f g zero e = refl
  sum_alike f g (suc n) e =
      plus_alike (sum n f) (sum n g) (f n) (g n) (sum_alike f g n (λ k h. e k (le_step h))) (e n (le_refl (suc n)))

  -- sequences that are alike up to k
  module _ (f g : ℕ → ℕ) (k : ℕ) (e : (j : ℕ) → j ≤ k → f j % m ≡ g j % m) where
    behind-alike : (a : ℕ) → behind f a k % m ≡ behind g a k % m
    unfolding behind
    behind-alike a = go (leb a k)
      where
        go : (b : Bool) → cond b (f (k - a)) 0 % m ≡ cond b (g (k - a)) 0 % m
        go true = e (k - a) (omega arith)
        go false = refl

    pub spread_alike : (s n : ℕ) → spread s n f k % m ≡ spread s n g k % m
    unfolding spread
    spread_alike s n = sum_alike (λ a. behind f (a * s) k) (λ a. behind g (a * s) k) n (λ a h. behind-alike (a * s))

    pub running_alike : running f k % m ≡ running g k % m
    unfolding running
    running_alike = sum_alike f g (suc k) (λ j h. e j (omega arith))
