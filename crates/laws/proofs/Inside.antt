-- The inside weight: the claims of spec/specs/Inside.antt. It is the product of two sums along the axes, each a box filter of the side on
-- the coefficients; every coefficient within the reach is at least 1.
-- Assumes nothing.
use mathlib.Core.Path.{◌≡◌, refl, sym, ap, ap₂, ◌∙◌}
use mathlib.Core.Bool.{Bool, true, false, cond, ◌&&◌}
use mathlib.Core.List.{List, [], ◌∷◌}
use Prim.Native.Nat.{ℕ, suc, ◌+◌, ◌-◌, ◌*◌, ◌/◌, ◌≤◌, ◌<◌}
use native.Mathlib.Nat.{le_refl, le_trans, le_of_eq, zero-add, mul_comm, mul_assoc, mul-one, one-mul, mul-zero, zero-mul, mul-pos, mul-le-mul, mul-le-mul_left, add-mul, div-eq_of_lt-le}
use native.Mathlib.Decide.{dec_le, dec_lt}
use native.Mathlib.Omega.{arith}
use lib.Dec.{leb, ltb}
use lib.ListN.{get_or, replicate, get_or-replicate}
use borrow.Author.Tests.{ltb-true, lt-ltb}
use Rattle.spec.specs.Words.{sum, total, product}
use Rattle.spec.specs.Recipe.{Recipe, kernel, box_order, order, weight, gain}
use Rattle.spec.specs.Picture.{Picture, picture, Within, pixel, pixel_back, exact}
use Rattle.spec.specs.Gray.{gray, leftover, same_column, same_row, same_sum, plain, inside_weight, place_weight, same_gray, same_leftover, expressed, reading}
use Rattle.spec.specs.Refusals.{alone}
use Rattle.spec.specs.Inside.{InsideProduct, InsideFits, SumsInside, AwayFromRim, PlainKept}
use Rattle.spec.specs.Between.{Raised}
use Rattle.laws.proofs.Sums.{sum_agree, sum_le, sum_scale, sum_grows, sum_front}
use Rattle.laws.proofs.Lists.{first_pos, rest_pos}
use Rattle.laws.proofs.Numbers.{place_fits}
use Rattle.laws.proofs.Sequences.{behind, boxed, running, behind_zero, behind_within, behind_before, boxed_running, boxed_whole}
use Rattle.laws.proofs.Convolution.{ones, conv_comm, boxed_conv}
use Rattle.laws.proofs.Kernels.{at, at_kernel, kernel_sum, impulse_start}
use Rattle.laws.proofs.Cascades.{conv_short, kernel_short}
use Rattle.laws.proofs.Exact.{pixel_right, pixel_below, pixel_inside, rows_pos, columns_pos}
use Rattle.laws.proofs.Refusals.{is_accepted_picture}
use Rattle.laws.proofs.Signed.{same_apart}

-- ---- two sums along the axes

-- the coefficients of a list that fall inside a line of n places, at i, added up
unfoldable pub axis : List ℕ → ℕ → ℕ → ℕ
axis ns n i = sum (suc (order ns)) (λ a. at (kernel ns) a * behind (ones n) a i)

-- a plain picture at a place
plain_back : (w h c i a j b : ℕ) → pixel_back (plain w h c) i a j b ≡ c * (behind (ones w) a i * behind (ones h) b j)
unfolding pixel_back pixel plain behind ones
plain_back w h c i a j b = go (leb a i) (leb b j) (ltb (i - a) w) (ltb (j - b) h) stored
  where
    stored : ltb (i - a) w ≡ true → ltb (j - b) h ≡ true → get_or (replicate (w * h) c) ((j - b) * w + (i - a)) 0 ≡ c
    stored p q = get_or-replicate (w * h) ((j - b) * w + (i - a)) c 0 (place_fits w h (i - a) (j - b) (ltb-true (i - a) w p) (ltb-true (j - b) h q))

    go : (s t u v : Bool) → (u ≡ true → v ≡ true → get_or (replicate (w * h) c) ((j - b) * w + (i - a)) 0 ≡ c)
        → cond (s && t) (cond (u && v) (get_or (replicate (w * h) c) ((j - b) * w + (i - a)) 0) 0) 0
        ≡ c * (cond s (cond u 1 0) 0 * cond t (cond v 1 0) 0)
    go true true true true e = e refl refl ∙ sym (mul-one c)
    go true true true false e = sym (mul-zero c)
    go true true false v e = sym (ap (λ x. c * x) (zero-mul (cond v 1 0)) ∙ mul-zero c)
    go true false u v e = sym (ap (λ x. c * x) (mul-zero (cond u 1 0)) ∙ mul-zero c)
    go false t u v e = sym (ap (λ x. c * x) (zero-mul (cond t (cond v 1 0) 0)) ∙ mul-zero c)

sum_product : (f g : ℕ → ℕ) (m n : ℕ) → sum m (λ a. sum n (λ b. f a * g b)) ≡ sum m f * sum n g
sum_product f g m n =
    sum_agree (λ a. sum n (λ b. f a * g b)) (λ a. sum n g * f a) m (λ a h. sum_scale g (f a) n ∙ mul_comm (f a) (sum n g))
    ∙ sum_scale f (sum n g) m
    ∙ mul_comm (sum n g) (sum m f)

-- factors in another order
shuffle : (x y c s t : ℕ) → x * y * (c * (s * t)) ≡ c * (x * s * (y * t))
shuffle x y c s t =
    sym (mul_assoc (x * y) c (s * t))
    ∙ ap (λ z. z * (s * t)) (mul_comm (x * y) c)
    ∙ mul_assoc c (x * y) (s * t)
    ∙ ap (λ z. c * z)
    (mul_assoc x y (s * t)
    ∙ ap (λ z. x * z) (sym (mul_assoc y s t) ∙ ap (λ z. z * t) (mul_comm y s) ∙ mul_assoc s y t)
    ∙ sym (mul_assoc x s (y * t)))

module _ (r : Recipe) (w h : ℕ) where
  -- the exact sums of a plain picture
  exact_plain : (c i j : ℕ) → exact r (plain w h c) i j ≡ c * (axis r.rows w i * axis r.columns h j)
  unfolding exact axis at
  exact_plain c i j =
      let R = at (kernel r.rows) in
      let C = at (kernel r.columns) in
      let m = suc (order r.rows) in
      let n = suc (order r.columns) in
      let u : ℕ → ℕ = λ a. R a * behind (ones w) a i in
      let v : ℕ → ℕ = λ b. C b * behind (ones h) b j in
      sum_agree (λ a. sum n (λ b. R a * C b * pixel_back (plain w h c) i a j b)) (λ a. c * sum n (λ b. u a * v b)) m
      (λ a l.
      sum_agree (λ b. R a * C b * pixel_back (plain w h c) i a j b) (λ b. c * (u a * v b)) n
      (λ b k. ap (λ x. R a * C b * x) (plain_back w h c i a j b) ∙ shuffle (R a) (C b) c (behind (ones w) a i) (behind (ones h) b j))
      ∙ sum_scale (λ b. u a * v b) c n)
      ∙ sum_scale (λ a. sum n (λ b. u a * v b)) c m
      ∙ ap (λ x. c * x) (sum_product u v m n)

  -- and so the inside weight, and the sums of a plain picture by it
  pub inside_axes : (i j : ℕ) → inside_weight r w h i j ≡ axis r.rows w (same_column r i) * axis r.columns h (same_row r j)
  unfolding inside_weight same_sum
  inside_axes i j = exact_plain 1 (same_column r i) (same_row r j) ∙ one-mul _

  pub plain_sum : (c i j : ℕ) → same_sum r (plain w h c) i j ≡ c * inside_weight r w h i j
  unfolding same_sum
  plain_sum c i j = exact_plain c (same_column r i) (same_row r j) ∙ ap (λ x. c * x) (sym (inside_axes i j))

-- a list along a row of its own
single : axis [] 1 (0 + order [] / 2) ≡ 1
unfolding axis sum order total kernel at behind ones
single = refl

pub inside_alone : (ns : List ℕ) (n k : ℕ) → inside_weight (alone ns) n 1 k 0 ≡ axis ns n (k + order ns / 2)
unfolding alone same_column same_row
inside_alone ns n k = inside_axes (alone ns) n 1 k 0 ∙ ap (λ x. axis ns n (k + order ns / 2) * x) single ∙ mul-one _

pub inside_product : InsideProduct
unfolding same_column same_row
inside_product r w h i j =
    inside_axes r w h i j ∙ sym (ap₂ ◌*◌ (inside_alone r.rows w i) (inside_alone r.columns h j))

-- ---- coefficients

-- they add up to the weight
pub kernel_whole : (ns : List ℕ) → 0 < weight ns → sum (suc (order ns)) (at (kernel ns)) ≡ weight ns
unfolding weight product box_order order total sum
kernel_whole [] h = zero-add (at (kernel []) 0) ∙ impulse_start 0 refl
kernel_whole (n ∷ ns) h =
    let K = at (kernel ns) in
    let some = first_pos n ns h in
    let m = suc (order (n ∷ ns)) in
    let black : (k : ℕ) → order ns < k → K k ≡ 0 = kernel_short ns (rest_pos n ns h) in
    sum_agree (at (kernel (n ∷ ns))) (boxed n K) m (λ k l. at_kernel n ns k)
    ∙ boxed_whole K n m (λ k l g. black k (omega arith))
    ∙ ap (λ x. n * x) (sum_front K (suc (order ns)) m (omega arith) (λ k l g. black k (omega arith)) ∙ kernel_whole ns (rest_pos n ns h))

-- each within the reach is at least 1
one_of : (f : ℕ → ℕ) (n c : ℕ) → c < n → f c ≤ sum n f
unfolding sum
one_of f n c l = le_trans (omega arith) (sum_grows f (suc c) n l)

pub kernel_pos : (ns : List ℕ) → 0 < weight ns → (a : ℕ) → a ≤ order ns → 0 < at (kernel ns) a
unfolding weight order total box_order boxed
kernel_pos [] h a l = le_of_eq (sym (impulse_start a (omega arith)))
kernel_pos (n ∷ ns) h a l =
    let some = first_pos n ns h in
    let K = at (kernel ns) in
    elim (dec_le a (order ns)) [
      | yes g ↦
          omega (arith, kernel_pos ns (rest_pos n ns h) a g, behind_zero K a, one_of (λ c. behind K c a) n 0 some, at_kernel n ns a)
      | no g ↦
          let c : ℕ = a - order ns in
          let e : a - c ≡ order ns = omega arith in
          omega (
            arith,
            kernel_pos ns (rest_pos n ns h) (order ns) (le_refl (order ns)),
            behind_within K c a (omega arith) ∙ ap K e,
            one_of (λ c. behind K c a) n c (omega arith),
            at_kernel n ns a,
          )
    ]

-- ---- one sum along an axis

module _ (ns : List ℕ) (h : 0 < weight ns) where
  abbrev K : ℕ → ℕ
  K = at (kernel ns)

  -- a box filter of the side on the coefficients
  pub axis_box : (n i : ℕ) → axis ns n i ≡ boxed n K i
  unfolding axis
  axis_box n i = sym (conv_short K (ones n) (order ns) i (kernel_short ns h)) ∙ conv_comm K (ones n) i ∙ sym (boxed_conv n K i)

  -- at most the weight
  pub axis_most : (n i : ℕ) → axis ns n i ≤ weight ns
  unfolding running
  axis_most n i = omega (arith, axis_box n i, boxed_running K n i, kernel_sum ns (suc i))

  -- where the whole list falls inside
  pub axis_whole : (n i : ℕ) → order ns ≤ i → i < n → axis ns n i ≡ weight ns
  unfolding running
  axis_whole n i l m =
      let all : sum (suc i) K ≡ sum (suc (order ns)) K = sum_front K (suc (order ns)) (suc i) (omega arith) (λ k g f. kernel_short ns h k (omega arith)) in
      omega (arith, axis_box n i, boxed_running K n i, behind_before (running K) n i m, all, kernel_whole ns h)

  -- not 0 at a place of the line: the coefficient in the middle falls inside
  pub axis_pos : (n k : ℕ) → k < n → 0 < axis ns n (k + order ns / 2)
  unfolding axis ones
  axis_pos n k l =
      let m : ℕ = order ns / 2 in
      let i : ℕ = k + m in
      let e : i - m ≡ k = omega arith in
      let here : behind (ones n) m i ≡ 1 = behind_within (ones n) m i (omega arith) ∙ ap (ones n) e ∙ ap (λ b. cond b 1 0) (lt-ltb k n l) in
      let times : K m * behind (ones n) m i ≡ K m = ap (λ x. K m * x) here ∙ mul-one (K m) in
      omega (arith, kernel_pos ns h m (omega arith), times, one_of (λ a. K a * behind (ones n) a i) (suc (order ns)) m (omega arith))

-- ---- the inside weight

module _ (r : Recipe) (g : 0 < gain r) (w h i j : ℕ) where
  pub inside_pos : i < w → j < h → 0 < inside_weight r w h i j
  unfolding same_column same_row
  inside_pos x y =
      le_trans (mul-pos (axis_pos r.rows (rows_pos r g) w i x) (axis_pos r.columns (columns_pos r g) h j y)) (le_of_eq (sym (inside_axes r w h i j)))

  pub inside_most : inside_weight r w h i j ≤ gain r
  unfolding gain
  inside_most =
      le_trans (le_of_eq (inside_axes r w h i j)) (mul-le-mul (axis_most r.rows (rows_pos r g) w (same_column r i)) (axis_most r.columns (columns_pos r g) h (same_row r j)))

  pub inside_whole : order r.rows ≤ same_column r i → same_column r i < w → order r.columns ≤ same_row r j → same_row r j < h → inside_weight r w h i j ≡ gain r
  unfolding gain
  inside_whole a b c d =
      inside_axes r w h i j ∙ ap₂ ◌*◌ (axis_whole r.rows (rows_pos r g) w (same_column r i) a b) (axis_whole r.columns (columns_pos r g) h (same_row r j) c d)

pub inside_fits : InsideFits
unfolding place_weight
inside_fits r p e i j x y =
    let g = (is_accepted_picture r p e).recipe.not_zero in
    (inside_pos r g p.width p.height i j x y, inside_most r g p.width p.height i j)

pub away_from_rim : AwayFromRim
unfolding reading place_weight
away_from_rim r p e i j k =
    let is = inside_whole r (is_accepted_picture r p e).recipe.not_zero p.width p.height i j k.0 k.1 k.2 k.3 in
    (is, λ c. ap (λ x. expressed c x (same_sum r p i j)) is)

-- ---- sums

-- every pixel of the one picture is at most that of the other
abbrev pub Under : Picture → Picture → Type 0
Under p q = (i j : ℕ) → pixel p i j ≤ pixel q i j

-- exact sums rise with the pixels
pub exact_rises : (r : Recipe) (p q : Picture) → Under p q → (i j : ℕ) → exact r p i j ≤ exact r q i j
unfolding exact pixel_back
exact_rises r p q u i j =
    sum_le _ _ (suc (order r.rows)) (λ a l. sum_le _ _ (suc (order r.columns)) (λ b k. mul-le-mul_left _ (go (leb a i && leb b j) a b)))
  where
    go : (s : Bool) (a b : ℕ) → cond s (pixel p (i - a) (j - b)) 0 ≤ cond s (pixel q (i - a) (j - b)) 0
    go true a b = u (i - a) (j - b)
    go false a b = le_refl 0

-- pictures of the same sides, of which the one is at most the other at every picture place: outside both are black
pub raised_under : (p q : Picture) → Raised p q → Under p q
raised_under p q u i j =
    elim (dec_lt i p.width) [
      | yes x ↦
          elim (dec_lt j p.height) [
            | yes y ↦ u.pixels i j x y
            | no y ↦ le_of_eq (pixel_below p i j (omega arith) ∙ sym (pixel_below q i j (omega (arith, u.height))))
          ]
      | no x ↦ le_of_eq (pixel_right p i j (omega arith) ∙ sym (pixel_right q i j (omega (arith, u.width))))
    ]

-- by their lists of pixels
pub raised_lists : (w h : ℕ) (xs ys : List ℕ) → ((k : ℕ) → k < w * h → get_or xs k 0 ≤ get_or ys k 0) → Raised (picture w h xs) (picture w h ys)
unfolding at
raised_lists w h xs ys e =
    record {
      width = refl;
      height = refl;
      pixels = λ i j x y.
          omega (arith, pixel_inside (picture w h xs) i j x y, pixel_inside (picture w h ys) i j x y, e (j * w + i) (place_fits w h i j x y));
    }

-- a picture of pixels of at most so much lies under the plain one
under_plain : (most : ℕ) (p : Picture) → Within most p → Under p (plain p.width p.height most)
unfolding plain
under_plain most p small =
    let size = p.width * p.height in
    raised_under p (plain p.width p.height most)
    (raised_lists p.width p.height p.pixels (replicate size most) (λ k h. omega (arith, small k, get_or-replicate size k most 0 h)))

pub sums_inside : SumsInside
unfolding place_weight same_sum
sums_inside most r p small i j =
    le_trans (exact_rises r p (plain p.width p.height most) (under_plain most p small) (same_column r i) (same_row r j))
    (le_of_eq (plain_sum r p.width p.height most i j))

-- a multiple of the weight, rounded
multiple_gray : (w c : ℕ) → 0 < w → gray w (c * w) ≡ c
unfolding gray
multiple_gray w c h = div-eq_of_lt-le w (omega arith) (omega (arith, add-mul c 1 w))

pub plain_kept : PlainKept
unfolding same_gray same_leftover leftover place_weight plain
plain_kept r w h c i j some =
    let I = inside_weight r w h i j in
    let s = same_sum r (plain w h c) i j in
    let is = plain_sum r w h c i j in
    let grey : gray I s ≡ c = ap (gray I) is ∙ multiple_gray I c some in
    let all : I * gray I s ≡ s = ap (λ x. I * x) grey ∙ mul_comm I c ∙ sym is in
    (grey, same_apart s (I * gray I s) 0 0 (omega (arith, all)))
