-- The decimal digits of a number: how many there are, and each of them.
-- Assumes nothing.
use mathlib.Core.Path.{◌≡◌, refl, sym, ap, ap₂, ◌∙◌}
use mathlib.Core.List.{List, [], ◌∷◌, ◌++◌, append-nil}
use Prim.Native.Nat.{ℕ, zero, suc, ◌+◌, ◌-◌, ◌*◌, ◌/◌, ◌%◌, ◌^◌, ◌≤◌, ◌<◌}
use native.Mathlib.Nat.{add-zero, mul_assoc, mod-eq_of_lt, div-add-mod, mul-add-div, mul-add-mod_self_left, div-div-eq-div-mul, not-suc-le-zero, le_of_suc-le-suc, zero-lt-suc, le_refl, one-le-pow, pow-suc, pow-le-pow_right, le-div_iff_mul-le, div-lt_iff_lt-mul}
use native.Mathlib.Omega.{arith}
use native.Mathlib.Decide.{dec_lt}
use lib.ListN.{length, get_or, drop, set, length-append, length-set}
use lib.Pow.{pow-add}
use native.Mathlib.Numerals.{add-one}
use lib.Seq.{append_snoc, drop-cons, drop-length, get_or-set_same, drop-set-lt}
use borrow.Author.Tests.{lt-ltb, le-ltb}
use Rattle.spec.specs.Words.{tab}
use Rattle.spec.specs.Program.{decimal_digits, decimal}
use Rattle.laws.proofs.Rows.{get_d_rows}
use Rattle.text.specs.Private.{Counted, digit_pairs}

-- the last digits of a number, as many as asked for, with zeros in front where it has fewer
unfoldable pub places : ℕ → ℕ → List ℕ
places zero n = []
places (suc k) n = places k (n / 10) ++ ((48 + n % 10) ∷ [])

-- the digits of a number below 10, and of any other
module _ (most n : ℕ) where
  pub digits_one : n < 10 → decimal_digits (suc most) n ≡ (48 + n) ∷ []
  unfolding decimal_digits
  digits_one h = rw (lt-ltb n 10 h)

  pub digits_more : 10 ≤ n → decimal_digits (suc most) n ≡ decimal_digits most (n / 10) ++ ((48 + n % 10) ∷ [])
  unfolding decimal_digits
  digits_more h = rw (le-ltb n 10 h)

-- a number has k + 1 digits where 10 ^ k is the largest power of 10 that it reaches
length_digits : (most k n : ℕ) → k < most → (0 < k → 10 ^ k ≤ n) → n < 10 ^ suc k → length (decimal_digits most n) ≡ suc k
length_digits zero k n h low high = absurd (not-suc-le-zero h)
length_digits (suc most) zero n h low high = ap length (digits_one most n high)
length_digits (suc most) (suc k) n h low high =
    let reached : 10 ^ suc k ≤ n = low (zero-lt-suc k) in
    let one = one-le-pow k 10 (omega arith) in
    ap length (digits_more most n (omega (arith, pow-suc 10 k)))
    ∙ length-append (decimal_digits most (n / 10)) ((48 + n % 10) ∷ [])
    ∙ omega (
      arith,
      length_digits most k (n / 10) (le_of_suc-le-suc h) (λ g. omega (arith, pow-suc 10 k)) (omega (arith, pow-suc 10 (suc k))),
    )

-- there are no more digits than asked for
pub digits_most : (most n : ℕ) → length (decimal_digits most n) ≤ most
unfolding decimal_digits
digits_most zero n = le_refl 0
digits_most (suc most) n =
    elim (dec_lt n 10) [
      | yes h ↦ omega (arith, ap length (digits_one most n h))
      | no h ↦
          omega (
            arith,
            ap length (digits_more most n (omega arith)),
            length-append (decimal_digits most (n / 10)) ((48 + n % 10) ∷ []),
            digits_most most (n / 10),
          )
    ]

pub length_decimal : (n : ℕ) → length (decimal n) ≤ 20
unfolding decimal
length_decimal n = digits_most 20 n

-- the powers of 10 that a 64-bit number can reach
pub below_twenty : (k n : ℕ) → 10 ^ k ≤ n → n < 2 ^ 64 → k < 20
below_twenty k n h g =
    elim (dec_lt k 20) [
      | yes l ↦ l
      | no l ↦
          let past : 20 ≤ k = omega arith in
          let p : 10 ^ 20 ≤ 10 ^ k = pow-le-pow_right (zero-lt-suc 9) past in
          absurd (omega arith)
    ]

-- how many digits a number has, from how many there are before its last k
pub counted_past : (k : ℕ) {n r : ℕ} → 10 ^ k ≤ n → Counted (n / 10 ^ k) r → Counted n (r + k)
counted_past k {n} {r} h c =
    let p = one-le-pow k 10 (omega arith) in
    let back : r + k - 1 ≡ r - 1 + k = omega (arith, c.some) in
    let first : 10 ^ (r - 1) ≤ n / 10 ^ k =
    elim (dec_lt 1 r) [
      | yes g ↦ c.reached g
      | no g ↦ let e : r - 1 ≡ 0 = omega arith in rw e ((le-div_iff_mul-le p).1 (omega arith))
    ] in
    record {
      some = omega (arith, c.some);
      below = rw (pow-add 10 r k) ((div-lt_iff_lt-mul p).0 c.below);
      reached = λ g. rw (back, pow-add 10 (r - 1) k) ((le-div_iff_mul-le p).0 first);
    }

pub counted_length : {n r : ℕ} → n < 2 ^ 64 → Counted n r → (r ≡ length (decimal n)) × (r ≤ 20)
unfolding decimal
counted_length {n} {r} g c =
    let k = r - 1 in
    let e : suc k ≡ r = omega (arith, c.some) in
    let most : k < 20 =
    elim (dec_lt 1 r) [
      | yes l ↦ below_twenty k n (c.reached l) g
      | no l ↦ omega arith
    ] in (
      sym (length_digits 20 k n most (λ l. c.reached (omega arith)) (rw e c.below) ∙ e),
      omega arith,
    )

-- a number's digits are its last digits, as many as it has
digits_places : (most n : ℕ) → decimal_digits most n ≡ places (length (decimal_digits most n)) n
unfolding places decimal_digits
digits_places zero n = refl
digits_places (suc most) n =
    elim (dec_lt n 10) [
      | yes h ↦
          let e : 48 + n ≡ 48 + n % 10 = omega arith in
          digits_one most n h ∙ ap (λ d. d ∷ []) e ∙ ap (λ l. places (length l) n) (sym (digits_one most n h))
      | no h ↦
          let m = digits_more most n (omega arith) in
          let size : length (decimal_digits (suc most) n) ≡ suc (length (decimal_digits most (n / 10))) =
          ap length m ∙ length-append (decimal_digits most (n / 10)) ((48 + n % 10) ∷ []) ∙ omega arith in
          m
          ∙ ap (λ l. l ++ ((48 + n % 10) ∷ [])) (digits_places most (n / 10))
          ∙ ap (λ k. places k n) (sym size)
    ]

-- one digit more, written from the right
places_more : (k n : ℕ) (l : List ℕ) → k < length l → places (suc k) n ++ drop (suc k) l ≡ places k (n / 10) ++ drop k (set l k (48 + n % 10))
unfolding places
places_more k n l h =
    append_snoc (places k (n / 10)) (48 + n % 10) (drop (suc k) l)
    ∙ ap (λ t. places k (n / 10) ++ t)
    (sym
    (drop-cons (set l k (48 + n % 10)) k 0 (omega (arith, length-set l k (48 + n % 10)))
    ∙ ap₂ ◌∷◌ (get_or-set_same l k (48 + n % 10) 0 h) (drop-set-lt (suc k) l k (48 + n % 10) (omega arith))))

-- none is written yet
pub none_written : (n : ℕ) (l : List ℕ) → length l ≡ length (decimal n) → decimal n ≡ places (length l) n ++ drop (length l) l
unfolding decimal
none_written n l e =
    digits_places 20 n ∙ ap (λ k. places k n) (sym e) ∙ sym (ap (λ t. places (length l) n ++ t) (drop-length l) ∙ append-nil (places (length l) n))

-- all are written, or all but the first
pub all_written : (n k : ℕ) (l : List ℕ) → k ≤ 0 → places k n ++ drop k l ≡ l
unfolding places
all_written n k l h = let e : k ≡ 0 = omega arith in ap (λ k. places k n ++ drop k l) e

pub first_written : (n k : ℕ) (l : List ℕ) → k ≡ 1 → k ≤ length l → places k n ++ drop k l ≡ set l 0 (48 + n % 10)
unfolding places
first_written n k l e h = ap (λ k. places k n ++ drop k l) e ∙ places_more 0 n l (omega arith)

-- the last two digits of a number, and what is left of it without them
module _ (n : ℕ) where
  last_digit : n % 10 ≡ n % 100 % 10
  last_digit = sym (ap (λ m. m % 10) (div-add-mod n 100)) ∙ ap (λ m. (m + n % 100) % 10) (mul_assoc 10 10 (n / 100)) ∙ mul-add-mod_self_left 10 (10 * (n / 100)) (n % 100)

  without_last : n / 10 ≡ 10 * (n / 100) + n % 100 / 10
  without_last = sym (ap (λ m. m / 10) (div-add-mod n 100)) ∙ ap (λ m. (m + n % 100) / 10) (mul_assoc 10 10 (n / 100)) ∙ mul-add-div (omega arith) (10 * (n / 100)) (n % 100)

  next_digit : n / 10 % 10 ≡ n % 100 / 10
  next_digit = ap (λ m. m % 10) without_last ∙ mul-add-mod_self_left 10 (n / 100) (n % 100 / 10) ∙ mod-eq_of_lt (omega arith)

-- two digits more
places_pair : (k n : ℕ) (l : List ℕ) → suc k < length l
    → places (suc (suc k)) n ++ drop (suc (suc k)) l
    ≡ places k (n / 100) ++ drop k (set (set l (suc k) (48 + n % 100 % 10)) k (48 + n % 100 / 10))
places_pair k n l h =
    let low = 48 + n % 10 in
    let inside : k < length (set l (suc k) low) = omega (arith, length-set l (suc k) low) in
    places_more (suc k) n l h
    ∙ places_more k (n / 10) (set l (suc k) low) inside
    ∙ (λ i. places k (div-div-eq-div-mul n 10 10 i) ++ drop k (set (set l (suc k) (48 + last_digit n i)) k (48 + next_digit n i)))

-- the digits of a pair, in the table of all pairs
digit : ℕ → ℕ → ℕ
digit p zero = 48 + p / 10
digit p (suc k) = 48 + p % 10

module _ (p : ℕ) (h : p < 100) where
  pair_tens : get_or digit_pairs (p * 2) 0 ≡ 48 + p / 10
  unfolding digit_pairs tab digit
  pair_tens = ap (λ k. get_or digit_pairs k 0) (sym (add-zero (p * 2))) ∙ get_d_rows 2 100 digit 0 p 0 h (omega arith)

  pair_ones : get_or digit_pairs (p * 2 + 1) 0 ≡ 48 + p % 10
  unfolding digit_pairs tab digit
  pair_ones = get_d_rows 2 100 digit 0 p 1 h (omega arith)

-- two digits more, those of a pair of the table
pub pair_written : (k n tens ones : ℕ) (l pairs : List ℕ) → 1 < k → k ≤ length l → pairs ≡ digit_pairs
    → tens ≡ get_or pairs (n % 100 * 2) 0 → ones ≡ get_or pairs (n % 100 * 2 + 1) 0
    → places k n ++ drop k l ≡ places (k - 2) (n / 100) ++ drop (k - 2) (set (set l (k - 2 + 1) ones) (k - 2) tens)
pair_written k n tens ones l pairs g h all t o =
    let p = n % 100 in
    let j = k - 2 in
    let here : k ≡ suc (suc j) = omega arith in
    let first = t ∙ ap (λ l. get_or l (p * 2) 0) all ∙ pair_tens p (omega arith) in
    let second = o ∙ ap (λ l. get_or l (p * 2 + 1) 0) all ∙ pair_ones p (omega arith) in
    ap (λ k. places k n ++ drop k l) here
    ∙ places_pair j n l (omega arith)
    ∙ (λ i. places j (n / 100) ++ drop j (set (set l (sym (add-one j) i) (sym second i)) j (sym first i)))
