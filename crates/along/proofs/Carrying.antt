-- Sweeps that carry something from place to place: one value after the other, two stages at once, and what boxes of width 2 and running
-- totals make of a row.
-- Assumes nothing.
use Rattle.std.proofs.Common.{◌≡◌, ℕ, zero, suc, ◌+◌, ◌%◌, ◌^◌, ◌<◌, ◌≤◌, List, [], ◌∷◌, ◌++◌, length, get_or, take, drop, set, sym, refl, ap, ◌∙◌, ap₂, add-one, arith, append-nil, drop_of_length-le, take_all, drop-cons}
use native.Mathlib.Nat.{mod-mod}
use lib.Seq.{append_snoc, take-suc-set, drop-set-lt}
use Rattle.spec.specs.Words.{sum, tab}
use Rattle.laws.proofs.Lists.{length_tab, get_d_tab, tab_agree}
use Rattle.laws.proofs.Sums.{sum_agree, sum_first}
use Rattle.laws.proofs.Kernels.{at}
use Rattle.laws.proofs.Sequences.{behind, boxed, running, behind_zero, behind_suc, behind_start}
use Rattle.laws.proofs.Cascades.{spread, spread_one}
use mathlib.Core.Path.{fun_ext}
use Rattle.along.specs.declared.stages.Pair.{Pair}
use Rattle.along.specs.declared.stages.Total.{Total}
use Rattle.along.specs.declared.stages.Then.{Then}
use Rattle.along.specs.Private.{repeat, swept, carried, paired, totalled}
use Rattle.along.proofs.Modulo.{plus_alike}

module _ {S A : Type 0} (made : S → A → A) (after : S → A → S) where
  -- one value more
  pub swept_more : (i : ℕ) (s t : S) (d y : A) (l target : List A) → i < length l → y ≡ made s (get_or l i d) → t ≡ after s (get_or l i d)
      → take i l ++ swept made after s (drop i l) ≡ target
      → take (i + 1) (set l i y) ++ swept made after t (drop (i + 1) (set l i y)) ≡ target
  unfolding swept
  swept_more i s t d y l target h e f all =
      ap₂ (λ a b. a ++ swept made after t b)
      (ap (λ n. take n (set l i y)) (add-one i) ∙ take-suc-set l i y h)
      (ap (λ n. drop n (set l i y)) (add-one i) ∙ drop-set-lt (suc i) l i y (omega arith))
      ∙ append_snoc (take i l) y (swept made after t (drop (suc i) l))
      ∙ ap₂ (λ z u. take i l ++ (z ∷ swept made after u (drop (suc i) l))) e f
      ∙ sym (ap (λ a. take i l ++ swept made after s a) (drop-cons l i d h))
      ∙ all

  -- all of them
  pub swept_all : (i : ℕ) (s : S) (l target : List A) → length l ≤ i → take i l ++ swept made after s (drop i l) ≡ target → l ≡ target
  unfolding swept
  swept_all i s l target h t =
      sym (append-nil l) ∙ sym (ap₂ (λ a b. a ++ swept made after s b) (take_all i l h) (drop_of_length-le l {i = i} h)) ∙ t

  -- one value more, written elsewhere than it was read
  pub written_more : (i : ℕ) (s t : S) (d x y : A) (xs l target : List A) → i < length l → length xs ≡ length l → x ≡ get_or xs i d
      → y ≡ made s x → t ≡ after s x → take i l ++ swept made after s (drop i xs) ≡ target
      → take (i + 1) (set l i y) ++ swept made after t (drop (i + 1) xs) ≡ target
  unfolding swept
  written_more i s t d x y xs l target h size q e f all =
      let inside : i < length xs = omega arith in
      ap₂ (λ a b. a ++ swept made after t b)
      (ap (λ n. take n (set l i y)) (add-one i) ∙ take-suc-set l i y h)
      (ap (λ n. drop n xs) (add-one i))
      ∙ append_snoc (take i l) y (swept made after t (drop (suc i) xs))
      ∙ ap₂ (λ z u. take i l ++ (z ∷ swept made after u (drop (suc i) xs))) (e ∙ ap (made s) q) (f ∙ ap (after s) q)
      ∙ sym (ap (λ a. take i l ++ swept made after s a) (drop-cons xs i d inside))
      ∙ all

  pub written_all : (i : ℕ) (s : S) (xs l target : List A) → length l ≤ i → length xs ≤ i → take i l ++ swept made after s (drop i xs) ≡ target
      → l ≡ target
  unfolding swept
  written_all i s xs l target h g t =
      sym (append-nil l) ∙ sym (ap₂ (λ a b. a ++ swept made after s b) (take_all i l h) (drop_of_length-le xs {i = i} g)) ∙ t

-- what a stage is after the values that are left
module _ {S A : Type 0} (after : S → A → S) where
  pub carried_more : (i : ℕ) (s t : S) (d x : A) (xs : List A) (target : S) → i < length xs → x ≡ get_or xs i d → t ≡ after s x
      → carried after s (drop i xs) ≡ target → carried after t (drop (i + 1) xs) ≡ target
  unfolding carried
  carried_more i s t d x xs target h q f all =
      ap₂ (carried after) (f ∙ ap (after s) q) (ap (λ n. drop n xs) (add-one i)) ∙ sym (ap (carried after s) (drop-cons xs i d h)) ∙ all

  pub carried_all : (i : ℕ) (s : S) (xs : List A) (target : S) → length xs ≤ i → carried after s (drop i xs) ≡ target → s ≡ target
  unfolding carried
  carried_all i s xs target h e = sym (ap (carried after s) (drop_of_length-le xs {i = i} h)) ∙ e

-- three of one kind, side by side
abbrev pub three_of : {S : Type 0} → S → S → S → Then S (Then S S)
three_of a b c = record { first = a; second = record { first = b; second = c } }

-- two stages at once
module _ {S T A : Type 0} (m : S → A → A) (a : S → A → S) (n : T → A → A) (b : T → A → T) where
  abbrev pub both_made : Then S T → A → A
  both_made p x = n p.second (m p.first x)

  abbrev pub both_after : Then S T → A → Then S T
  both_after p x = record { first = a p.first x; second = b p.second (m p.first x) }

  swept_both : (s : S) (t : T) (xs : List A) → swept both_made both_after record { first = s; second = t } xs ≡ swept n b t (swept m a s xs)
  unfolding swept
  swept_both s t [] = refl
  swept_both s t (x ∷ xs) = ap (λ l. n t (m s x) ∷ l) (swept_both (a s x) (b t (m s x)) xs)

  pub carried_first : (s : S) (t : T) (xs : List A) → (carried both_after record { first = s; second = t } xs).first ≡ carried a s xs
  unfolding carried
  carried_first s t [] = refl
  carried_first s t (x ∷ xs) = carried_first (a s x) (b t (m s x)) xs

-- the same stage two, three and four times
module _ {S A : Type 0} (m : S → A → A) (a : S → A → S) (s : S) (xs : List A) where
  pub swept_two : swept (both_made m a m a) (both_after m a m a) record { first = s; second = s } xs ≡ repeat 2 (swept m a s) xs
  unfolding repeat
  swept_two = swept_both m a m a s s xs

module _ {S A : Type 0} (m : S → A → A) (a : S → A → S) (s : S) (xs : List A) where
  pub swept_three : swept (both_made m a (both_made m a m a) (both_after m a m a)) (both_after m a (both_made m a m a) (both_after m a m a))
      record { first = s; second = record { first = s; second = s } } xs
      ≡ repeat 3 (swept m a s) xs
  unfolding repeat
  swept_three =
      swept_both m a (both_made m a m a) (both_after m a m a) s record { first = s; second = s } xs ∙ swept_two m a s (swept m a s xs)

  pub swept_four : let m₂ = both_made m a m a in let a₂ = both_after m a m a in let two : Then S S = record { first = s; second = s } in
      swept (both_made m₂ a₂ m₂ a₂) (both_after m₂ a₂ m₂ a₂) record { first = two; second = two } xs ≡ repeat 4 (swept m a s) xs
  unfolding repeat
  swept_four =
      let two : Then S S = record { first = s; second = s } in
      swept_both (both_made m a m a) (both_after m a m a) (both_made m a m a) (both_after m a m a) two two xs
      ∙ ap (swept (both_made m a m a) (both_after m a m a) two) (swept_two m a s xs)
      ∙ swept_two m a s (repeat 2 (swept m a s) xs)

-- a box of width 2
pub spread_two : (f : ℕ → ℕ) (k : ℕ) → spread 1 2 f k ≡ f k + behind f 1 k
unfolding boxed sum
spread_two f k = spread_one 2 f k ∙ omega (arith, behind_zero f k)

-- boxes of width 2: to each value, modulo m, the one that came before it is added
module _ (m : ℕ) where
  abbrev pair_made : Pair ℕ → ℕ → ℕ
  pair_made s x = (x + s.before) % m

  abbrev pair_after : Pair ℕ → ℕ → Pair ℕ
  pair_after s x = record { before = x }

  from_before : (b : ℕ) (xs : List ℕ) → swept pair_made pair_after record { before = b } xs ≡ tab (length xs) (λ k. (at xs k + at (b ∷ xs) k) % m)
  unfolding swept tab at
  from_before b [] = refl
  from_before b (x ∷ xs) = ap (λ l. ((x + b) % m) ∷ l) (from_before x xs)

  before : (xs : List ℕ) (k : ℕ) → at (0 ∷ xs) k ≡ behind (at xs) 1 k
  unfolding at
  before xs zero = sym (behind_start (at xs) 0)
  before xs (suc k) = sym (behind_suc (at xs) 0 k ∙ behind_zero (at xs) k)

  swept_pair : (xs : List ℕ) → swept pair_made pair_after record { before = 0 } xs ≡ paired m xs
  unfolding paired
  swept_pair xs =
      from_before 0 xs
      ∙ tab_agree (length xs) (λ k. (at xs k + at (0 ∷ xs) k) % m) (λ k. spread 1 2 (at xs) k % m)
      (λ k h. ap (λ b. (at xs k + b) % m) (before xs k) ∙ ap (λ v. v % m) (sym (spread_two (at xs) k)))

  pub repeated_pairs : (c : ℕ) (xs : List ℕ) → repeat c (swept pair_made pair_after record { before = 0 }) xs ≡ repeat c (paired m) xs
  repeated_pairs c xs = ap (λ f. repeat c f xs) (fun_ext swept_pair)

-- running totals modulo 2^64
abbrev total_made : Total → ℕ → ℕ
total_made s x = (s.total + x) % 2 ^ 64

abbrev pub total_after : Total → ℕ → Total
total_after s x = record { total = (s.total + x) % 2 ^ 64 }

next : (t x : ℕ) (xs : List ℕ) (k : ℕ) → ((t + x) % 2 ^ 64 + running (at xs) k) % 2 ^ 64 ≡ (t + running (at (x ∷ xs)) (suc k)) % 2 ^ 64
unfolding at running
next t x xs k =
    plus_alike (2 ^ 64) ((t + x) % 2 ^ 64) (t + x) (running (at xs) k) (running (at xs) k) (mod-mod (t + x) (2 ^ 64)) refl
    ∙ ap (λ v. v % 2 ^ 64) (omega (arith, sum_first (at (x ∷ xs)) (suc k)))

from_total : (t : ℕ) (xs : List ℕ) → swept total_made total_after record { total = t } xs ≡ tab (length xs) (λ k. (t + running (at xs) k) % 2 ^ 64)
unfolding swept tab at running sum
from_total t [] = refl
from_total t (x ∷ xs) =
    ap₂ ◌∷◌ (ap (λ v. (t + v) % 2 ^ 64) (omega arith))
    (from_total ((t + x) % 2 ^ 64) xs
    ∙ tab_agree (length xs) (λ k. ((t + x) % 2 ^ 64 + running (at xs) k) % 2 ^ 64) (λ k. (t + running (at (x ∷ xs)) (suc k)) % 2 ^ 64)
    (λ k h. next t x xs k))

swept_total : (xs : List ℕ) → swept total_made total_after record { total = 0 } xs ≡ totalled xs
unfolding totalled
swept_total xs =
    from_total 0 xs
    ∙ tab_agree (length xs) (λ k. (0 + running (at xs) k) % 2 ^ 64) (λ k. running (at xs) k % 2 ^ 64) (λ k h. ap (λ v. v % 2 ^ 64) (omega arith))

pub repeated_totals : (c : ℕ) (xs : List ℕ) → repeat c (swept total_made total_after record { total = 0 }) xs ≡ repeat c totalled xs
repeated_totals c xs = ap (λ f. repeat c f xs) (fun_ext swept_total)

-- what a running total is after a row
carried_from : (t : ℕ) (xs : List ℕ) → t < 2 ^ 64 → (carried total_after record { total = t } xs).total ≡ (t + sum (length xs) (at xs)) % 2 ^ 64
unfolding carried sum at
carried_from t [] h = omega arith
carried_from t (x ∷ xs) h =
    carried_from ((t + x) % 2 ^ 64) xs (omega arith)
    ∙ plus_alike (2 ^ 64) ((t + x) % 2 ^ 64) (t + x) (sum (length xs) (at xs)) (sum (length xs) (at xs)) (mod-mod (t + x) (2 ^ 64)) refl
    ∙ ap (λ v. v % 2 ^ 64) (omega (arith, sum_first (at (x ∷ xs)) (length xs)))

pub carried_total : (w : ℕ) (f : ℕ → ℕ) → (carried total_after record { total = 0 } (tab w f)).total ≡ sum w f % 2 ^ 64
unfolding at
carried_total w f =
    carried_from 0 (tab w f) (omega arith)
    ∙ ap₂ (λ n v. (0 + sum n v) % 2 ^ 64) (length_tab w f) refl
    ∙ ap (λ v. v % 2 ^ 64) (omega (arith, sum_agree (at (tab w f)) f w (λ k h. get_d_tab w f k 0 h)))
