-- `difference::pair_refusal` meets its contract: the parity on each axis, then the product of the weights, which is held against the limit
-- by a division.
-- Assumes nothing.
use mathlib.Core.Path.{◌≡◌, refl, sym, ap, ap₂, ◌∙◌}
use mathlib.Core.Bool.{Bool, false, true, cond, ◌||◌}
use Prim.Native.Nat.{ℕ, ◌*◌, ◌/◌, ◌%◌, ◌^◌, ◌<◌, ◌≤◌}
use native.Mathlib.Nat.{mul_comm, div-lt_iff_lt-mul, le-div_iff_mul-le}
use native.Mathlib.Omega.{arith}
use borrow.Author.Tests.{lt-ltb, le-ltb}
use lib.Dec.{ltb}
use Rattle.spec.specs.Refusals.{check, first, number, odd_apart, other_pixels}
use Rattle.laws.proofs.Refusals.{as_stated, not_stated}
use Rattle.filter.specs.declared.checks.Measures.{Measures}
use Rattle.difference.specs.Pairs.{measured_checks}
use Rattle.difference.proofs.pair_refusal.Goals as goal
use Rattle.difference.proofs.pair_refusal.Goals.{then-m-n-via-then-m-n, then-m-n-via-else-m-n+then-m-n-2}

module _ (m n : Measures) where
  -- what is told by whether each parity differs, and the product is too large
  told_by : (a b c : Bool) → odd_apart m.row_order n.row_order ≡ a → odd_apart m.column_order n.column_order ≡ b → ltb (2 ^ 44) (m.gain * n.gain) ≡ c
      → first (measured_checks m n) ≡ cond (a || b) 12 (cond c 13 0)
  unfolding first check
  told_by a b c p q r =
      ap₂ (λ x y. cond (x || y) 12 (cond (ltb (2 ^ 44) (m.gain * n.gain)) 13 0)) p q ∙ ap (λ z. cond (a || b) 12 (cond z 13 0)) r

  apart : (a b : ℕ) → (a % 2 ≡ b % 2 → ⊥) → odd_apart a b ≡ true
  unfolding odd_apart other_pixels
  apart a b h = not_stated (a % 2) (b % 2) h

  alike : (a b : ℕ) → a % 2 ≡ b % 2 → odd_apart a b ≡ false
  unfolding odd_apart other_pixels
  alike a b e = as_stated (a % 2) (b % 2) e

  over : 0 < m.gain → 2 ^ 44 / m.gain < n.gain → ltb (2 ^ 44) (m.gain * n.gain) ≡ true
  over h l = lt-ltb (2 ^ 44) (m.gain * n.gain) (omega (arith, (div-lt_iff_lt-mul h).0 l, mul_comm m.gain n.gain))

  within : 0 < m.gain → n.gain ≤ 2 ^ 44 / m.gain → ltb (2 ^ 44) (m.gain * n.gain) ≡ false
  within h l = le-ltb (2 ^ 44) (m.gain * n.gain) (omega (arith, (le-div_iff_mul-le h).0 l, mul_comm m.gain n.gain))

pub returns-then-m-n : goal.returns-then-m-n
unfolding number
returns-then-m-n c =
    let m = c.args.m in
    let n = c.args.n in
    elim c.then-m-n.branch [
      | then-m-n-via-then-m-n w ↦ sym (told_by m n _ _ _ (apart m n m.row_order n.row_order w.if-m-n.true) refl refl)
      | then-m-n-via-else-m-n+then-m-n-2 w ↦
          sym (told_by m n _ _ _ (alike m n m.row_order n.row_order w.if-m-n.false) (apart m n m.column_order n.column_order w.if-m-n-2.true) refl)
    ]

pub returns-then-m-n-3 : goal.returns-then-m-n-3
unfolding number
returns-then-m-n-3 c =
    let m = c.args.m in
    let n = c.args.n in
    sym (told_by m n _ _ _ (alike m n m.row_order n.row_order c.if-m-n.false) (alike m n m.column_order n.column_order c.if-m-n-2.false) (over m n c.requires c.if-m-n-3.true))

pub returns : goal.returns
returns c =
    let m = c.args.m in
    let n = c.args.n in
    sym (told_by m n _ _ _ (alike m n m.row_order n.row_order c.if-m-n.false) (alike m n m.column_order n.column_order c.if-m-n-2.false) (within m n c.requires c.if-m-n-3.false))
