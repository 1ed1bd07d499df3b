-- What each sweep makes of a row that is a sequence modulo m.
-- Assumes nothing.
use Rattle.std.proofs.Common.{◌≡◌, ℕ, zero, suc, ◌+◌, ◌-◌, ◌*◌, ◌%◌, ◌^◌, ◌<◌, ◌≤◌, Bool, true, false, cond, leb, List, length, replicate, sym, refl, ap, ◌∙◌, ap₂, mod-eq_of_lt, mul_assoc, suc-add, pow-suc, zero-add, arith, le-leb}
use native.Mathlib.Nat.{mod-mod}
use native.Mathlib.Decide.{dec_le}
use borrow.Author.Tests.{lt-leb}
use Rattle.spec.specs.Words.{tab}
use Rattle.laws.proofs.Lists.{length_tab, get_d_tab, tab_agree}
use Rattle.laws.proofs.Kernels.{at}
use Rattle.laws.proofs.Sequences.{behind, running, boxed_running, behind_within}
use Rattle.laws.proofs.Cascades.{spread, cascaded, spread_one}
use Rattle.along.specs.Private.{repeat, paired, totalled, minus, less_earlier, differences}
use Rattle.along.proofs.Modulo.{spread_alike, running_alike}
use Rattle.along.proofs.Orders.{totals, totals_last, whole}
use Rattle.along.proofs.Carrying.{spread_two}

-- so many times, and then so many times more
pub repeat_add : {A : Type 0} (c d : ℕ) (f : A → A) (x : A) → repeat d f (repeat c f x) ≡ repeat (c + d) f x
unfolding repeat
repeat_add zero d f x = ap (λ n. repeat n f x) (sym (zero-add d))
repeat_add (suc c) d f x = repeat_add c d f (f x) ∙ ap (λ n. repeat n f x) (sym (suc-add c d))

module _ {A : Type 0} (f : A → A) where
  -- so many of them are done, and the rest is left
  pub repeat_less : (d left : ℕ) (x new target : A) → d ≤ left → new ≡ repeat d f x → repeat left f x ≡ target → repeat (left - d) f new ≡ target
  repeat_less d left x new target h e g =
      let n : d + (left - d) ≡ left = omega arith in
      ap (repeat (left - d) f) e ∙ repeat_add d (left - d) f x ∙ ap (λ n. repeat n f x) n ∙ g

-- the first w values of a sequence modulo m
unfoldable pub row : ℕ → ℕ → (ℕ → ℕ) → List ℕ
row m w f = tab w (λ k. f k % m)

-- a sequence of numbers below m
pub row_exact : (m w : ℕ) (f : ℕ → ℕ) → ((k : ℕ) → f k < m) → tab w f ≡ row m w f
unfolding row
row_exact m w f h = tab_agree w f (λ k. f k % m) (λ k l. sym (mod-eq_of_lt (h k)))

module _ (m w : ℕ) (f : ℕ → ℕ) where
  length_row : length (row m w f) ≡ w
  unfolding row
  length_row = length_tab w (λ k. f k % m)

  at_row : (k : ℕ) → k < w → at (row m w f) k ≡ f k % m
  unfolding row at
  at_row k h = get_d_tab w (λ k. f k % m) k 0 h

  alike : (k : ℕ) → k < w → at (row m w f) k % m ≡ f k % m
  alike k h = ap (λ x. x % m) (at_row k h) ∙ mod-mod (f k) m

  pub paired_row : paired m (row m w f) ≡ row m w (spread 1 2 f)
  unfolding paired row
  paired_row =
      ap (λ n. tab n (λ k. spread 1 2 (at (row m w f)) k % m)) length_row
      ∙ tab_agree w (λ k. spread 1 2 (at (row m w f)) k % m) (λ k. spread 1 2 f k % m)
      (λ k h. spread_alike m (at (row m w f)) f k (λ j l. alike j (omega arith)) 1 2)

pub totalled_row : (w : ℕ) (f : ℕ → ℕ) → totalled (row (2 ^ 64) w f) ≡ row (2 ^ 64) w (running f)
unfolding totalled row
totalled_row w f =
    let xs = row (2 ^ 64) w f in
    ap (λ n. tab n (λ k. running (at xs) k % 2 ^ 64)) (length_row (2 ^ 64) w f)
    ∙ tab_agree w (λ k. running (at xs) k % 2 ^ 64) (λ k. running f k % 2 ^ 64)
    (λ k h. running_alike (2 ^ 64) (at xs) f k (λ j l. alike (2 ^ 64) w f j (omega arith)))

-- several of them
pub pairs_row : (m w c : ℕ) (f : ℕ → ℕ) → repeat c (paired m) (row m w f) ≡ row m w (cascaded 1 (replicate c 2) f)
unfolding repeat cascaded
pairs_row m w zero f = refl
pairs_row m w (suc c) f = ap (repeat c (paired m)) (paired_row m w f) ∙ pairs_row m w c (spread 1 2 f)

pub totals_row : (w c : ℕ) (f : ℕ → ℕ) → repeat c totalled (row (2 ^ 64) w f) ≡ row (2 ^ 64) w (totals c f)
unfolding repeat totals
totals_row w zero f = refl
totals_row w (suc c) f =
    ap (repeat c totalled) (totalled_row w f) ∙ totals_row w c (running f) ∙ ap (row (2 ^ 64) w) (totals_last c f)

-- from running totals the one n places earlier taken away: a box
minus_exact : (a b c : ℕ) → c + b ≡ a → minus (a % 2 ^ 64) (b % 2 ^ 64) ≡ c % 2 ^ 64
unfolding minus
minus_exact a b c e = omega arith

less_earlier_row : (n w : ℕ) (f : ℕ → ℕ) (k : ℕ) → k < w → less_earlier n (row (2 ^ 64) w (running f)) k ≡ spread 1 n f k % 2 ^ 64
unfolding less_earlier
less_earlier_row n w f k h =
    let here = at_row (2 ^ 64) w (running f) k h in
    elim (dec_le n k) [
      | yes g ↦
          rw (le-leb n k g)
          (ap₂ minus here (at_row (2 ^ 64) w (running f) (k - n) (omega arith))
          ∙ minus_exact (running f k) (running f (k - n)) (spread 1 n f k)
          (omega (arith, spread_one n f k, boxed_running f n k, behind_within (running f) n k g)))
      | no g ↦
          let l : k < n = omega arith in
          rw (lt-leb n k l) (here ∙ ap (λ x. x % 2 ^ 64) (sym (whole n f k l)))
    ]

pub differences_row : (n w : ℕ) (f : ℕ → ℕ) → differences n (row (2 ^ 64) w (running f)) ≡ row (2 ^ 64) w (spread 1 n f)
unfolding differences row
differences_row n w f =
    let xs = row (2 ^ 64) w (running f) in
    ap (λ l. tab l (less_earlier n xs)) (length_row (2 ^ 64) w (running f))
    ∙ tab_agree w (less_earlier n xs) (λ k. spread 1 n f k % 2 ^ 64) (less_earlier_row n w f)

-- boxes of width 2 at most double
behind_small : (b : ℕ) (f : ℕ → ℕ) → ((k : ℕ) → f k ≤ b) → (a k : ℕ) → behind f a k ≤ b
unfolding behind
behind_small b f h a k = go (leb a k)
  where
    go : (t : Bool) → cond t (f (k - a)) 0 ≤ b
    go true = h (k - a)
    go false = omega arith

spread_double : (b : ℕ) (f : ℕ → ℕ) → ((k : ℕ) → f k ≤ b) → (k : ℕ) → spread 1 2 f k ≤ 2 * b
spread_double b f h k = omega (arith, spread_two f k, h k, behind_small b f h 1 k)

pub pairs_small : (c b : ℕ) (f : ℕ → ℕ) → ((k : ℕ) → f k ≤ b) → (k : ℕ) → cascaded 1 (replicate c 2) f k ≤ 2 ^ c * b
unfolding cascaded
pairs_small zero b f h k = omega (arith, h k)
pairs_small (suc c) b f h k =
    omega (arith, pairs_small c (2 * b) (spread 1 2 f) (spread_double b f h) k, mul_assoc (2 ^ c) 2 b, ap (λ x. x * b) (pow-suc 2 c))
