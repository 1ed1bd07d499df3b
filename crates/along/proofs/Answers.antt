-- What the call refuses, and what it answers.
-- Assumes nothing.
use Rattle.std.proofs.Common.{◌≡◌, ℕ, ◌%◌, ◌^◌, ◌<◌, ◌≤◌, ◌⊎◌, inl, inr, true, false, cond, List, length, refl, le-ltb, lt-ltb}
use Rattle.spec.specs.Words.{sum, tab, somewhere}
use Rattle.laws.proofs.Kernels.{at}
use Rattle.laws.proofs.Cascades.{cascaded}
use Rattle.along.specs.Along.{wide, too_much, row_after, total_after}

module _ (count w : ℕ) where
  pub too_long : (48 < count) ⊎ ((count ≤ 48) × (1279 < w)) → too_much count w ≡ true
  unfolding too_much
  too_long (inl h) = rw (lt-ltb 48 count h) refl
  too_long (inr (h, l)) = rw (le-ltb 48 count h, lt-ltb 1279 w l) refl

  pub both_fit : count ≤ 48 → w ≤ 1279 → too_much count w ≡ false
  unfolding too_much
  both_fit h l = rw (le-ltb 48 count h, le-ltb 1279 w l) refl

-- the answer and the row where the call refuses, and where it does not
module _ (ns pixels old : List ℕ) where
  pub refused : too_much (length ns) (length old) ≡ true → (old ≡ row_after ns pixels old) × (0 ≡ total_after ns pixels (length old))
  unfolding row_after total_after
  refused e = (rw e refl, rw e refl)

  pub answered : too_much (length ns) (length old) ≡ false → (new : List ℕ) (r : ℕ)
      → new ≡ tab (length old) (λ k. cascaded 1 ns (at pixels) k % 2 ^ 64)
      → r ≡ cond (somewhere wide ns) (sum (length old) (at pixels) % 2 ^ 64) 0
      → (new ≡ row_after ns pixels old) × (r ≡ total_after ns pixels (length old))
  unfolding row_after total_after
  answered e new r f g = (rw e f, rw e g)
