-- No two pairs of blocks stand for the same job that was read.
-- Assumes nothing.
use mathlib.Core.Path.{◌≡◌, ap}
use mathlib.Core.List.{List}
use Prim.Native.Nat.{ℕ}
use lib.ListN.{length}
use Rattle.blocks.proofs.Standing.{given_one, words_one}
use Rattle.job_c.specs.Jobs.{JobRead, given_job}

pub job_one : (number : ℕ) (a b v w : List ℕ) → length a ≡ 98 → length b ≡ 98 → length v ≡ 3 → length w ≡ 3
    → given_job number a v ≡ given_job number b w → (a ≡ b) × (v ≡ w)
unfolding given_job
job_one number a b v w la lb lv lw e = (
  given_one a b la lb (ap (λ (j : JobRead). j.filter) e),
  words_one v w lv lw (ap (λ (j : JobRead). j.width) e) (ap (λ (j : JobRead). j.height) e) (ap (λ (j : JobRead). j.offset) e),
)
