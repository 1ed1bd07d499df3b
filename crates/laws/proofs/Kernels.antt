-- The coefficients of a cascade of boxes: their length, each of them as a sequence, and how large they can be.
-- Assumes nothing.
use mathlib.Core.Path.{◌≡◌, refl, sym, ap, ◌∙◌}
use mathlib.Core.List.{List, [], ◌∷◌}
use Prim.Native.Nat.{ℕ, zero, suc, ◌+◌, ◌-◌, ◌*◌, ◌≤◌, ◌<◌}
use native.Mathlib.Nat.{le_trans, le_of_eq, mul-zero, zero-mul, mul-le-mul_left}
use native.Mathlib.Decide.{dec_lt, dec_le}
use native.Mathlib.Omega.{arith}
use lib.ListN.{length, get_or, replicate, length-replicate, get_or-replicate, get_or-eq_default}
use borrow.Author.Tests.{lt-ltb, le-ltb}
use Rattle.spec.specs.Words.{sum, tab, total, product}
use Rattle.spec.specs.Recipe.{box, convolve, kernel, box_order, order, weight}
use Rattle.laws.proofs.Sums.{sum_agree, sum_first, sum_zero}
use Rattle.laws.proofs.Lists.{length_tab, get_d_tab, get_d_tab_past, tab_get_d, tab_agree, factor_pos}
use Rattle.laws.proofs.Sequences.{behind, boxed, running, boxed_running, boxed_sum, behind_agree, running_agree}
use Rattle.laws.proofs.Convolution.{conv, ones, conv_agree, boxed_conv}

-- a list as a sequence: 0 past its end
unfoldable pub at : List ℕ → ℕ → ℕ
at xs k = get_or xs k 0

pub at_box : (n k : ℕ) → at (box n) k ≡ ones n k
unfolding at box ones
at_box n k =
    elim (dec_lt k n) [
      | yes h ↦ rw (lt-ltb k n h) (get_or-replicate n k 1 0 h)
      | no h ↦
          let l : n ≤ k = omega arith in
          rw (le-ltb k n l) (get_or-eq_default (replicate n 1) 0 (rw length-replicate l))
    ]

-- two lists convolved, as sequences
pub at_convolve : (p q : List ℕ) (k : ℕ) → at (convolve p q) k ≡ conv (at p) (at q) k
unfolding convolve conv at
at_convolve p q k =
    elim (dec_lt k (length p + length q - 1)) [
      | yes h ↦ get_d_tab (length p + length q - 1) (λ k. sum (suc k) (λ a. get_or p a 0 * get_or q (k - a) 0)) k 0 h
      | no h ↦
          get_d_tab_past (length p + length q - 1) (λ k. sum (suc k) (λ a. get_or p a 0 * get_or q (k - a) 0)) k 0 (omega arith)
          ∙ sym (sum_agree (λ a. get_or p a 0 * get_or q (k - a) 0) (λ a. 0) (suc k)
          (λ a l.
          elim (dec_le (length p) a) [
            | yes g ↦ ap (λ x. x * get_or q (k - a) 0) (get_or-eq_default p 0 g) ∙ zero-mul (get_or q (k - a) 0)
            | no g ↦
                let m : length q ≤ k - a = omega arith in
                ap (λ x. get_or p a 0 * x) (get_or-eq_default q 0 m) ∙ mul-zero (get_or p a 0)
          ])
          ∙ sum_zero (suc k))
    ]

-- one box more is one box filter more
pub at_kernel : (n : ℕ) (ns : List ℕ) (k : ℕ) → at (kernel (n ∷ ns)) k ≡ boxed n (at (kernel ns)) k
unfolding kernel
at_kernel n ns k =
    at_convolve (box n) (kernel ns) k
    ∙ conv_agree (at (box n)) (ones n) (at (kernel ns)) (at (kernel ns)) k (λ a h. at_box n a) (λ a h. refl)
    ∙ sym (boxed_conv n (at (kernel ns)) k)

-- the single coefficient 1
impulse_sum : (m : ℕ) → sum m (at (kernel [])) ≤ 1
unfolding kernel at sum
impulse_sum zero = omega arith
impulse_sum (suc m) = omega (arith, sum_first (at (kernel [])) m, sum_zero m)

-- coefficients add up to the weight at most
pub kernel_sum : (ns : List ℕ) (m : ℕ) → sum m (at (kernel ns)) ≤ weight ns
unfolding weight product
kernel_sum [] m = impulse_sum m
kernel_sum (n ∷ ns) m =
    le_trans (le_of_eq (sum_agree (at (kernel (n ∷ ns))) (boxed n (at (kernel ns))) m (λ k h. at_kernel n ns k)))
    (le_trans (boxed_sum (at (kernel ns)) n m) (mul-le-mul_left n (kernel_sum ns m)))

pub length_box : (n : ℕ) → length (box n) ≡ n
unfolding box
length_box n = length-replicate n 1

pub length_convolve : (p q : List ℕ) → length (convolve p q) ≡ length p + length q - 1
unfolding convolve
length_convolve p q = length_tab _ _

-- as many coefficients as the reach and one
pub length_kernel : (ns : List ℕ) → 0 < weight ns → length (kernel ns) ≡ order ns + 1
unfolding kernel box_order order total weight product
length_kernel [] h = refl
length_kernel (zero ∷ ns) h = omega (arith, zero-mul (product ns))
length_kernel (suc n ∷ ns) h =
    omega (arith, length_convolve (box (suc n)) (kernel ns), length_box (suc n), length_kernel ns (factor_pos (suc n) (product ns) h))

-- the single coefficient 1 stands at 0
pub impulse_start : (k : ℕ) → k ≡ 0 → at (kernel []) k ≡ 1
unfolding kernel at
impulse_start k e = rw e refl

pub impulse_later : (k : ℕ) → (k ≡ 0 → ⊥) → at (kernel []) k ≡ 0
unfolding kernel at
impulse_later zero h = absurd (h refl)
impulse_later (suc k) h = refl

-- a list that holds a sequence as far as it goes
abbrev pub Holds : (ℕ → ℕ) → List ℕ → Type 0
Holds f l = (k : ℕ) → k < length l → at l k ≡ f k

pub tab_holds : (n : ℕ) (f : ℕ → ℕ) → Holds f (tab n f)
unfolding at
tab_holds n f k h = get_d_tab n f k 0 (rw length_tab at h)

pub holds_tab : (f : ℕ → ℕ) (l : List ℕ) → Holds f l → l ≡ tab (length l) f
unfolding at
holds_tab f l h = sym (tab_get_d 0 l) ∙ tab_agree (length l) (λ k. get_or l k 0) f h

-- Running totals, and from each the total n places earlier taken away: one box filter more.
module _ (f : ℕ → ℕ) (l : List ℕ) (h : Holds f l) where
  abbrev Totals : List ℕ → Type 0
  Totals m = m ≡ tab (length l) (running (at l))

  totals_hold : (m : List ℕ) → Totals m → Holds (running f) m
  totals_hold m e k g =
      let s : length m ≡ length l = ap length e ∙ length_tab (length l) (running (at l)) in
      ap (λ x. at x k) e
      ∙ tab_holds (length l) (running (at l)) k (rw length_tab (omega arith))
      ∙ running_agree (at l) f k (λ j i. h j (omega arith))

  totals_behind : (m : List ℕ) → Totals m → (n k : ℕ) → k < length m → behind (at m) n k ≡ behind (running f) n k
  totals_behind m e n k g = behind_agree (at m) (running f) k (λ j i. totals_hold m e j (omega arith)) n

  pub totals_rise : (m : List ℕ) → Totals m → (n k : ℕ) → k < length m → behind (at m) n k ≤ at m k
  totals_rise m e n k g = omega (arith, totals_behind m e n k g, totals_hold m e k g, boxed_running f n k)

  pub totals_box : (m d : List ℕ) (n : ℕ) → Totals m → d ≡ tab (length m) (λ k. at m k - behind (at m) n k) → Holds (boxed n f) d
  totals_box m d n e p k g =
      let s : length d ≡ length m = ap length p ∙ length_tab (length m) (λ k. at m k - behind (at m) n k) in
      let i : k < length m = omega arith in
      omega (
        arith,
        ap (λ x. at x k) p,
        tab_holds (length m) (λ k. at m k - behind (at m) n k) k (rw length_tab i),
        totals_behind m e n k i,
        totals_hold m e k i,
        boxed_running f n k,
      )
