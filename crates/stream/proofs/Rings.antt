-- A ring of n running totals: how many values the total in each place covers.
-- Assumes nothing.
use Rattle.std.proofs.Common.{◌≡◌, ℕ, suc, ◌+◌, ◌-◌, ◌*◌, ◌/◌, ◌%◌, ◌<◌, ◌≤◌, cond, eqb, ltb, ◌⊎◌, sym, ap, ◌∙◌, ap₂, inl, inr, ⊎_elim, mod-lt, suc-mul, div-add-mod', zero-mul, arith, le-ltb, lt-ltb, eq-eqb, ne_eqb}
use native.Mathlib.Decide.{dec_lt}
use lib.Arith.{digits_div, digits_mod}
use Rattle.laws.proofs.Numbers.{row_fits}
use Rattle.stream.specs.Stages.{covered, slot_before}

module _ (n : ℕ) (pos : 0 < n) where
  -- by the number of rounds q and the place r of the next value
  covered_digits : (q r p : ℕ) → r < n → covered n (q * n + r) p ≡ q * n + suc p - cond (ltb p r) 0 n
  unfolding covered
  covered_digits q r p h = ap₂ (λ a b. a * n + suc p - cond (ltb p b) 0 n) (digits_div q h) (digits_mod q h)

  covered_early : (q r p : ℕ) → r < n → p < r → covered n (q * n + r) p ≡ q * n + suc p
  covered_early q r p h l = covered_digits q r p h ∙ ap (λ b. q * n + suc p - cond b 0 n) (lt-ltb p r l) ∙ omega arith

  covered_late : (q r p : ℕ) → r < n → r ≤ p → covered n (q * n + r) p ≡ q * n + suc p - n
  covered_late q r p h l = covered_digits q r p h ∙ ap (λ b. q * n + suc p - cond b 0 n) (le-ltb p r l)

  -- no value yet
  pub covered_none : (p : ℕ) → p < n → covered n 0 p ≡ 0
  covered_none p h =
      let e : 0 * n + 0 ≡ 0 = omega (arith, zero-mul n) in
      ap (λ k. covered n k p) (sym e) ∙ covered_late 0 0 p pos (omega arith) ∙ omega (arith, zero-mul n)

  -- one value more
  module _ (k : ℕ) where
    q : ℕ
    q = k / n

    r : ℕ
    r = k % n

    below : r < n
    unfolding r
    below = mod-lt k pos

    parts : q * n + r ≡ k
    unfolding q r
    parts = div-add-mod' k n

    -- a total covers no value to come, and misses fewer than n
    pub covered_most : (p : ℕ) → p < n → covered n k p ≤ k
    covered_most p h =
        elim (dec_lt p r) [
          | yes g ↦ omega (arith, ap (λ j. covered n j p) parts, covered_early q r p below g, parts)
          | no g ↦ omega (arith, ap (λ j. covered n j p) parts, covered_late q r p below (omega arith), parts)
        ]

    pub covered_least : (p : ℕ) → p < n → k < covered n k p + n
    covered_least p h =
        elim (dec_lt p r) [
          | yes g ↦ omega (arith, ap (λ j. covered n j p) parts, covered_early q r p below g, parts, below)
          | no g ↦ omega (arith, ap (λ j. covered n j p) parts, covered_late q r p below (omega arith), parts, below)
        ]

    -- the place of the next value has the oldest total, and the place before it the latest
    pub covered_oldest : covered n k (k % n) ≡ suc k - n
    unfolding r
    covered_oldest =
        ap (λ j. covered n j (k % n)) (sym parts) ∙ covered_late q r (k % n) below (omega arith) ∙ omega (arith, parts)

    pub covered_latest : covered n k (slot_before n k) ≡ k
    unfolding slot_before r
    covered_latest =
        elim (dec_lt 0 (k % n)) [
          | yes h ↦
              let e : cond (eqb (k % n) 0) (n - 1) (k % n - 1) ≡ k % n - 1 =
              ap (λ b. cond b (n - 1) (k % n - 1)) (ne_eqb (k % n) 0 (λ z. omega arith)) in
              ap₂ (covered n) (sym parts) e ∙ covered_early q r (k % n - 1) below (omega arith) ∙ omega (arith, parts)
          | no h ↦
              let e : cond (eqb (k % n) 0) (n - 1) (k % n - 1) ≡ n - 1 =
              ap (λ b. cond b (n - 1) (k % n - 1)) (eq-eqb (k % n) 0 (omega arith)) in
              ap₂ (covered n) (sym parts) e ∙ covered_late q r (n - 1) below (omega arith) ∙ omega (arith, parts)
        ]

    pub covered_next : covered n (k + 1) (k % n) ≡ k + 1
    unfolding r
    covered_next =
        elim (dec_lt (suc r) n) [
          | yes h ↦
              let e : q * n + suc r ≡ k + 1 = omega (arith, parts) in
              ap (λ j. covered n j (k % n)) (sym e) ∙ covered_early q (suc r) (k % n) h (omega arith) ∙ omega (arith, parts)
          | no h ↦
              let e : suc q * n + 0 ≡ k + 1 = omega (arith, parts, below, suc-mul q n) in
              ap (λ j. covered n j (k % n)) (sym e) ∙ covered_late (suc q) 0 (k % n) pos (omega arith) ∙ omega (arith, parts, below, suc-mul q n)
        ]

    pub covered_other : (s : ℕ) → s < n → (s ≡ k % n → ⊥) → covered n (k + 1) s ≡ covered n k s
    unfolding r
    covered_other s l d =
        elim (dec_lt (suc r) n) [
          | yes h ↦
              let e : q * n + suc r ≡ k + 1 = omega (arith, parts) in
              elim (dec_lt s r) [
                | yes g ↦
                    ap (λ j. covered n j s) (sym e) ∙ covered_early q (suc r) s h (omega arith)
                    ∙ sym (ap (λ j. covered n j s) (sym parts) ∙ covered_early q r s below g)
                | no g ↦
                    let u : suc r ≤ s = lt-so (omega arith) in
                    ap (λ j. covered n j s) (sym e) ∙ covered_late q (suc r) s h u
                    ∙ sym (ap (λ j. covered n j s) (sym parts) ∙ covered_late q r s below (omega arith))
              ]
          | no h ↦
              let e : suc q * n + 0 ≡ k + 1 = omega (arith, parts, below, suc-mul q n) in
              let u : s < r = lt-under (omega (arith, below)) in
              ap (λ j. covered n j s) (sym e) ∙ covered_late (suc q) 0 s pos (omega arith)
              ∙ sym (ap (λ j. covered n j s) (sym parts) ∙ covered_early q r s below u ∙ omega (arith, suc-mul q n))
        ]
      where
        lt-so : r ≤ s → suc r ≤ s
        lt-so v =
            elim (dec_lt r s) [
              | yes w ↦ w
              | no w ↦ let e : s ≡ k % n = omega arith in absurd (d e)
            ]

        lt-under : s ≤ r → s < r
        lt-under v =
            elim (dec_lt s r) [
              | yes w ↦ w
              | no w ↦ let e : s ≡ k % n = omega arith in absurd (d e)
            ]

-- Slots of w cells in a ring of n: both the slot of a row and the one before it are inside, and they are apart.
module _ (n : ℕ) (e w : ℕ) (two : 1 < n) where
  before_cases : ((slot_before n e ≡ n - 1) × (e % n ≡ 0)) ⊎ ((slot_before n e ≡ e % n - 1) × (0 < e % n))
  unfolding slot_before
  before_cases =
      elim (dec_lt 0 (e % n)) [
        | yes h ↦ inr (ap (λ b. cond b (n - 1) (e % n - 1)) (ne_eqb (e % n) 0 (λ z. omega arith)), h)
        | no h ↦
            let z : e % n ≡ 0 = omega arith in
            inl (ap (λ b. cond b (n - 1) (e % n - 1)) (eq-eqb (e % n) 0 z), z)
      ]

  pub slot_less : e % n < n
  slot_less = mod-lt e (omega arith)

  pub before_less : slot_before n e < n
  before_less = ⊎_elim (λ u. omega (arith, u.0)) (λ u. omega (arith, u.0, slot_less)) before_cases

  pub slot_inside : e % n * w + w ≤ n * w
  slot_inside = row_fits w (e % n) n slot_less

  pub before_inside_lem : slot_before n e * w + w ≤ n * w
  before_inside_lem = row_fits w (slot_before n e) n before_less

  pub slots_apart : (slot_before n e * w + w ≤ e % n * w) ⊎ (e % n * w + w ≤ slot_before n e * w)
  slots_apart =
      ⊎_elim
      (λ u. inr (row_fits w (e % n) (slot_before n e) (omega (arith, u.0, u.1))))
      (λ u. inl (row_fits w (slot_before n e) (e % n) (omega (arith, u.0, u.1))))
      before_cases
