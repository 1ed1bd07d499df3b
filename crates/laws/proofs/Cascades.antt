-- Cascades of box filters on sequences. A box with a spread s adds up every s-th earlier value: s is 1 along a row, and the width of
-- a row down a picture that is stored row by row.
-- Assumes nothing.
use mathlib.Core.Path.{◌≡◌, refl, sym, ap, ◌∙◌}
use mathlib.Core.List.{List, [], ◌∷◌, ◌++◌}
use Prim.Native.Nat.{ℕ, zero, suc, ◌+◌, ◌-◌, ◌*◌, ◌≤◌, ◌<◌}
use native.Mathlib.Nat.{le_refl, le_trans, mul-zero, zero-mul, one-mul, mul-one, suc-mul, zero-add, add_comm}
use native.Mathlib.Decide.{dec_le}
use native.Mathlib.Omega.{arith}
use native.Mathlib.Numerals.{add-one}
use lib.ListN.{length, get_or, take, get_or-eq_default}
use lib.Seq.{take-suc}
use Rattle.spec.specs.Words.{sum}
use Rattle.spec.specs.Recipe.{kernel, order, weight}
use Rattle.laws.proofs.Sums.{sum_agree, sum_zero, sum_first, sum_front, sum_swap}
use Rattle.laws.proofs.Lists.{first_pos, rest_pos}
use Rattle.laws.proofs.Sequences.{behind, boxed, behind_zero, behind_within, behind_before, behind_agree}
use Rattle.laws.proofs.Convolution.{conv, ones, conv_agree, conv_comm, conv_assoc, conv_wide, boxed_conv}
use Rattle.laws.proofs.Kernels.{at, at_kernel, impulse_start, impulse_later, length_kernel}

-- the box filter of width n with a spread s: f k + f (k - s) + .. , n terms
unfoldable pub spread : ℕ → ℕ → (ℕ → ℕ) → ℕ → ℕ
spread s n f k = sum n (λ a. behind f (a * s) k)

-- box filters one after the other, the first of the list first
unfoldable pub cascaded : ℕ → List ℕ → (ℕ → ℕ) → ℕ → ℕ
cascaded s [] f = f
cascaded s (n ∷ ns) f = cascaded s ns (spread s n f)

pub spread_one : (n : ℕ) (f : ℕ → ℕ) (k : ℕ) → spread 1 n f k ≡ boxed n f k
unfolding spread boxed
spread_one n f k = sum_agree (λ a. behind f (a * 1) k) (λ a. behind f a k) n (λ a h. ap (λ b. behind f b k) (mul-one a))

-- sequences that agree up to k
pub spread_agree : (s n : ℕ) (f g : ℕ → ℕ) (k : ℕ) → ((j : ℕ) → j ≤ k → f j ≡ g j) → spread s n f k ≡ spread s n g k
unfolding spread
spread_agree s n f g k e = sum_agree (λ a. behind f (a * s) k) (λ a. behind g (a * s) k) n (λ a h. behind_agree f g k e (a * s))

pub cascaded_agree : (s : ℕ) (ns : List ℕ) (f g : ℕ → ℕ) (k : ℕ) → ((j : ℕ) → j ≤ k → f j ≡ g j) → cascaded s ns f k ≡ cascaded s ns g k
unfolding cascaded
cascaded_agree s [] f g k e = e k (le_refl k)
cascaded_agree s (n ∷ ns) f g k e =
    cascaded_agree s ns (spread s n f) (spread s n g) k (λ j h. spread_agree s n f g j (λ i l. e i (le_trans l h)))

-- a box of width 1 changes nothing
pub spread_unit : (s : ℕ) (f : ℕ → ℕ) (k : ℕ) → spread s 1 f k ≡ f k
unfolding spread sum
spread_unit s f k = zero-add (behind f (0 * s) k) ∙ ap (λ b. behind f b k) (zero-mul s) ∙ behind_zero f k

-- a box where the last n values are 0
pub spread_black : (n : ℕ) (f : ℕ → ℕ) (k : ℕ) → ((j : ℕ) → j ≤ k → k < j + n → f j ≡ 0) → spread 1 n f k ≡ 0
unfolding boxed
spread_black n f k z =
    spread_one n f k
    ∙ sum_agree (λ a. behind f a k) (λ a. 0) n
    (λ a h.
    elim (dec_le a k) [
      | yes g ↦ behind_within f a k g ∙ z (k - a) (omega arith) (omega arith)
      | no g ↦ behind_before f a k (omega arith)
    ])
    ∙ sum_zero n

-- delays add up
pub behind_behind : (f : ℕ → ℕ) (a b k : ℕ) → behind (behind f a) b k ≡ behind f (a + b) k
behind_behind f a b k =
    elim (dec_le b k) [
      | yes h ↦
          behind_within (behind f a) b k h
          ∙ elim (dec_le (a + b) k) [
            | yes g ↦
                let e : k - b - a ≡ k - (a + b) = omega arith in
                behind_within f a (k - b) (omega arith) ∙ ap f e ∙ sym (behind_within f (a + b) k g)
            | no g ↦ behind_before f a (k - b) (omega arith) ∙ sym (behind_before f (a + b) k (omega arith))
          ]
      | no h ↦ behind_before (behind f a) b k (omega arith) ∙ sym (behind_before f (a + b) k (omega arith))
    ]

-- a delay of a sum, and of a multiple
pub behind_sum : (m : ℕ) (f : ℕ → ℕ → ℕ) (b k : ℕ) → behind (λ j. sum m (λ a. f a j)) b k ≡ sum m (λ a. behind (f a) b k)
behind_sum m f b k =
    elim (dec_le b k) [
      | yes h ↦
          behind_within (λ j. sum m (λ a. f a j)) b k h
          ∙ sum_agree (λ a. f a (k - b)) (λ a. behind (f a) b k) m (λ a l. sym (behind_within (f a) b k h))
      | no h ↦
          let g : k < b = omega arith in
          behind_before (λ j. sum m (λ a. f a j)) b k g
          ∙ sym (sum_agree (λ a. behind (f a) b k) (λ a. 0) m (λ a l. behind_before (f a) b k g) ∙ sum_zero m)
    ]

pub behind_times : (c : ℕ) (f : ℕ → ℕ) (b k : ℕ) → behind (λ j. c * f j) b k ≡ c * behind f b k
behind_times c f b k =
    elim (dec_le b k) [
      | yes h ↦ behind_within (λ j. c * f j) b k h ∙ ap (λ x. c * x) (sym (behind_within f b k h))
      | no h ↦
          let g : k < b = omega arith in
          behind_before (λ j. c * f j) b k g ∙ sym (ap (λ x. c * x) (behind_before f b k g) ∙ mul-zero c)
    ]

-- a box after a box
pub spread_twice : (s t n m : ℕ) (f : ℕ → ℕ) (k : ℕ) → spread s n (spread t m f) k ≡ sum n (λ a. sum m (λ b. behind f (b * t + a * s) k))
unfolding spread
spread_twice s t n m f k =
    sum_agree (λ a. behind (λ j. sum m (λ b. behind f (b * t) j)) (a * s) k) (λ a. sum m (λ b. behind f (b * t + a * s) k)) n
    (λ a h.
    behind_sum m (λ b. behind f (b * t)) (a * s) k
    ∙ sum_agree (λ b. behind (behind f (b * t)) (a * s) k) (λ b. behind f (b * t + a * s) k) m (λ b l. behind_behind f (b * t) (a * s) k))

-- boxes may be taken in either order, whatever their spreads
pub spread_comm : (s t n m : ℕ) (f : ℕ → ℕ) (k : ℕ) → spread s n (spread t m f) k ≡ spread t m (spread s n f) k
spread_comm s t n m f k =
    spread_twice s t n m f k
    ∙ sum_swap (λ a b. behind f (b * t + a * s) k) n m
    ∙ sum_agree (λ b. sum n (λ a. behind f (b * t + a * s) k)) (λ b. sum n (λ a. behind f (a * s + b * t) k)) m
    (λ b h. sum_agree (λ a. behind f (b * t + a * s) k) (λ a. behind f (a * s + b * t) k) n (λ a l. ap (λ c. behind f c k) (add_comm (b * t) (a * s))))
    ∙ sym (spread_twice t s m n f k)

-- the running sum of document 01: y (k) + v (k - n s) = y (k - s) + v (k)
pub slide : (s n : ℕ) (f : ℕ → ℕ) (k : ℕ) → spread s n f k + behind f (n * s) k ≡ behind (spread s n f) s k + f k
unfolding spread sum
slide s n f k =
    let first : behind f (0 * s) k ≡ f k = ap (λ b. behind f b k) (zero-mul s) ∙ behind_zero f k in
    let rest : sum n (λ a. behind f (suc a * s) k) ≡ behind (λ j. sum n (λ a. behind f (a * s) j)) s k =
    sum_agree (λ a. behind f (suc a * s) k) (λ a. behind (behind f (a * s)) s k) n
    (λ a h. ap (λ b. behind f b k) (suc-mul a s) ∙ sym (behind_behind f (a * s) s k))
    ∙ sym (behind_sum n (λ a. behind f (a * s)) s k) in
    omega (arith, sum_first (λ a. behind f (a * s) k) n, first, rest)

-- a cascade without a width of 0 makes no value smaller
pub spread_grows : (s n : ℕ) (f : ℕ → ℕ) (k : ℕ) → 0 < n → f k ≤ spread s n f k
unfolding spread
spread_grows s zero f k h = omega arith
spread_grows s (suc n) f k h =
    omega (arith, sum_first (λ a. behind f (a * s) k) n, ap (λ b. behind f b k) (zero-mul s), behind_zero f k)

pub cascaded_grows : (s : ℕ) (ns : List ℕ) (f : ℕ → ℕ) (k : ℕ) → 0 < weight ns → f k ≤ cascaded s ns f k
unfolding cascaded weight
cascaded_grows s [] f k h = le_refl (f k)
cascaded_grows s (n ∷ ns) f k h =
    le_trans (spread_grows s n f k (first_pos n ns h)) (cascaded_grows s ns (spread s n f) k (rest_pos n ns h))

-- a convolution with a sequence that is 0 past m
pub conv_short : (f g : ℕ → ℕ) (m k : ℕ) → ((a : ℕ) → m < a → f a ≡ 0) → conv f g k ≡ sum (suc m) (λ a. f a * behind g a k)
conv_short f g m k z =
    conv_wide f g (m + k) k (omega arith)
    ∙ sum_front (λ a. f a * behind g a k) (suc m) (suc (m + k)) (omega arith)
    (λ a h l. ap (λ x. x * behind g a k) (z a h) ∙ zero-mul (behind g a k))

-- coefficients are 0 past the reach
pub kernel_short : (ns : List ℕ) → 0 < weight ns → (a : ℕ) → order ns < a → at (kernel ns) a ≡ 0
unfolding at
kernel_short ns h a l = get_or-eq_default (kernel ns) 0 (omega (arith, length_kernel ns h))

-- a convolution with a sequence that is 0 past its start, and with the single coefficient 1
pub conv_first : (f g : ℕ → ℕ) (k : ℕ) → ((a : ℕ) → 0 < a → f a ≡ 0) → conv f g k ≡ f 0 * g k
unfolding sum
conv_first f g k z =
    conv_short f g 0 k z ∙ zero-add (f 0 * behind g 0 k) ∙ ap (λ x. f 0 * x) (behind_zero g k)

pub conv_impulse : (f : ℕ → ℕ) (k : ℕ) → conv (at (kernel [])) f k ≡ f k
conv_impulse f k =
    conv_first (at (kernel [])) f k (λ a h. impulse_later a (λ e. omega arith)) ∙ ap (λ x. x * f k) (impulse_start 0 refl) ∙ one-mul (f k)

-- a cascade is the convolution with its coefficients
pub cascaded_conv : (ns : List ℕ) (f : ℕ → ℕ) (k : ℕ) → cascaded 1 ns f k ≡ conv (at (kernel ns)) f k
unfolding cascaded
cascaded_conv [] f k = sym (conv_impulse f k)
cascaded_conv (n ∷ ns) f k =
    let u = at (kernel ns) in
    cascaded_conv ns (spread 1 n f) k
    ∙ conv_agree u u (spread 1 n f) (conv (ones n) f) k (λ a h. refl) (λ a h. spread_one n f a ∙ boxed_conv n f a)
    ∙ sym (conv_assoc u (ones n) f k)
    ∙ conv_agree (conv u (ones n)) (at (kernel (n ∷ ns))) f f k
    (λ a h. conv_comm u (ones n) a ∙ sym (at_kernel n ns a ∙ boxed_conv n u a)) (λ a h. refl)

-- one box more at the end is one box filter more too
at_kernel_last : (n : ℕ) (ns : List ℕ) (k : ℕ) → at (kernel (ns ++ n ∷ [])) k ≡ boxed n (at (kernel ns)) k
at_kernel_last n [] k = at_kernel n [] k
at_kernel_last n (m ∷ ns) k =
    let u = at (kernel ns) in
    let longer = at (kernel (ns ++ n ∷ [])) in
    at_kernel m (ns ++ n ∷ []) k
    ∙ sym (spread_one m longer k)
    ∙ spread_agree 1 m longer (spread 1 n u) k (λ j l. at_kernel_last n ns j ∙ sym (spread_one n u j))
    ∙ spread_comm 1 1 m n u k
    ∙ spread_agree 1 n (spread 1 m u) (at (kernel (m ∷ ns))) k (λ j l. spread_one m u j ∙ sym (at_kernel m ns j))
    ∙ spread_one n (at (kernel (m ∷ ns))) k

pub at_kernel_more : (ns : List ℕ) (i : ℕ) (k : ℕ) → i < length ns
    → at (kernel (take (i + 1) ns)) k ≡ boxed (get_or ns i 0) (at (kernel (take i ns))) k
at_kernel_more ns i k h = rw (add-one i, take-suc ns i 0 h) (at_kernel_last (get_or ns i 0) (take i ns) k)
