-- When two recipes are the same: exactly when every width but 1 occurs as often in each list of the one as in the same list of the other.
-- So it is for the coefficients of a list, whose boxes have a spread of 1, and for the exact sums of pictures.
-- Assumes nothing.
use mathlib.Core.Path.{◌≡◌, refl, sym, ap, ap₂, subst, ◌∙◌}
use mathlib.Core.Bool.{Bool, true, false, cond}
use mathlib.Core.Logic.{◌↔◌}
use mathlib.Core.List.{List, [], ◌∷◌, map}
use Prim.Native.Nat.{ℕ, zero, suc, ◌+◌, ◌*◌, ◌≤◌, ◌<◌}
use native.Mathlib.Nat.{le_trans, le_of_eq, mul-one, one-mul, zero-mul}
use native.Mathlib.Decide.{dec_le}
use native.Mathlib.Omega.{arith}
use lib.Dec.{eqb}
use lib.ListN.{length, replicate}
use borrow.Author.Tests.{eqb-true, eqb-false}
use Rattle.spec.specs.Words.{sum, tab, total, product, occurs}
use Rattle.spec.specs.Recipe.{Recipe, kernel, box_order, order, weight, gain}
use Rattle.spec.specs.Picture.{Picture, picture, full_width_of, full_height_of, pixel, pixel_back, exact, full_row}
use Rattle.spec.specs.Same.{struck}
use Rattle.laws.proofs.Sums.{sum_agree, sum_first, sum_zero}
use Rattle.laws.proofs.Sequences.{behind, boxed, behind_zero, behind_start}
use Rattle.laws.proofs.Lists.{tab_agree, first_pos, rest_pos}
use Rattle.laws.proofs.Convolution.{conv_comm}
use Rattle.laws.proofs.Kernels.{at, at_kernel, impulse_start}
use Rattle.laws.proofs.Cascades.{spread, cascaded, cascaded_conv, conv_first, conv_impulse, kernel_short}
use Rattle.laws.proofs.Exact.{line, pixel_right, pixel_below, exact_cascaded, rows_pos, columns_pos}
use Rattle.laws.proofs.Counts.{Balanced, balanced_order, total_order, product_order, occurs_none, occurs_here, occurs_other, struck_one, struck_other, struck_total, struck_product}
use Rattle.laws.proofs.Spreads.{Box, boxes, ends, spreads, Balance, kernels_same}

-- ---- the boxes of document 01, with a spread of 1

unfoldable plain : List ℕ → List Box
plain ns = map (λ n. record { width = n; spread = 1 }) ns

plain_ends : (ns : List ℕ) → ends (plain ns) ≡ ns
unfolding ends plain
plain_ends [] = refl
plain_ends (n ∷ ns) = ap₂ ◌∷◌ (mul-one n) (plain_ends ns)

plain_spreads : (ns : List ℕ) → spreads (plain ns) ≡ replicate (length ns) 1
unfolding spreads plain
plain_spreads [] = refl
plain_spreads (n ∷ ns) = ap (λ l. 1 ∷ l) (plain_spreads ns)

plain_boxes : (ns : List ℕ) (f : ℕ → ℕ) (k : ℕ) → boxes (plain ns) f k ≡ cascaded 1 ns f k
unfolding boxes plain cascaded
plain_boxes [] f k = refl
plain_boxes (n ∷ ns) f k = plain_boxes ns (spread 1 n f) k

-- their balance is that every width but 1 occurs as often
occurs_ones : (n m : ℕ) → (1 ≡ n → ⊥) → occurs n (replicate m 1) ≡ 0
occurs_ones n zero h = occurs_none n
occurs_ones n (suc m) h = occurs_other n 1 (replicate m 1) h ∙ occurs_ones n m h

all_ones : (m : ℕ) → occurs 1 (replicate m 1) ≡ m
all_ones zero = occurs_none 1
all_ones (suc m) = occurs_here 1 1 (replicate m 1) refl ∙ ap suc (all_ones m)

-- 1 for a width other than 1
other : ℕ → ℕ
other n = cond (eqb n 1) 0 1

ones_and_others : (ns : List ℕ) → length ns ≡ occurs 1 ns + total other ns
unfolding occurs total other
ones_and_others [] = refl
ones_and_others (n ∷ ns) = go (eqb n 1) (ones_and_others ns)
  where
    go : (b : Bool) → length ns ≡ occurs 1 ns + total other ns → suc (length ns) ≡ cond b 1 0 + occurs 1 ns + (cond b 0 1 + total other ns)
    go true e = omega arith
    go false e = omega arith

module _ (ns ms : List ℕ) where
  plain_counts : (u : ℕ)
      → (occurs u (ends (plain ns)) ≡ occurs u ns) × (occurs u (ends (plain ms)) ≡ occurs u ms)
      × (occurs u (spreads (plain ns)) ≡ occurs u (replicate (length ns) 1)) × (occurs u (spreads (plain ms)) ≡ occurs u (replicate (length ms) 1))
  plain_counts u = (ap (occurs u) (plain_ends ns), ap (occurs u) (plain_ends ms), ap (occurs u) (plain_spreads ns), ap (occurs u) (plain_spreads ms))

  -- at a width other than 1
  at_other : (n : ℕ) → (n ≡ 1 → ⊥)
      → (occurs n (ends (plain ns)) + occurs n (spreads (plain ms)) ≡ occurs n (struck ns))
      × (occurs n (ends (plain ms)) + occurs n (spreads (plain ns)) ≡ occurs n (struck ms))
  at_other n h =
      let ns-none = occurs_ones n (length ns) (λ d. h (sym d)) in
      let ms-none = occurs_ones n (length ms) (λ d. h (sym d)) in
      (omega (arith, plain_counts n, ms-none, struck_other n ns h), omega (arith, plain_counts n, ns-none, struck_other n ms h))

  plain_balanced : Balance (plain ns) (plain ms) → Balanced (struck ns) (struck ms)
  plain_balanced b n = go (eqb n 1) refl
    where
      go : (c : Bool) → eqb n 1 ≡ c → occurs n (struck ns) ≡ occurs n (struck ms)
      go true q =
          let is : n ≡ 1 = eqb-true n 1 q in
          ap (λ m. occurs m (struck ns)) is ∙ struck_one ns ∙ sym (ap (λ m. occurs m (struck ms)) is ∙ struck_one ms)
      go false q = omega (arith, b n, at_other n (eqb-false n 1 q))

  balanced_plain : Balanced (struck ns) (struck ms) → Balance (plain ns) (plain ms)
  unfolding other
  balanced_plain b n = go (eqb n 1) refl
    where
      others : total other ns ≡ total other ms
      others = sym (struck_total other refl ns) ∙ total_order other (balanced_order (struck ns) (struck ms) b) ∙ struck_total other refl ms

      at_one : occurs 1 (ends (plain ns)) + occurs 1 (spreads (plain ms)) ≡ occurs 1 (ends (plain ms)) + occurs 1 (spreads (plain ns))
      at_one = omega (arith, plain_counts 1, all_ones (length ns), all_ones (length ms), ones_and_others ns, ones_and_others ms, others)

      go : (c : Bool) → eqb n 1 ≡ c → occurs n (ends (plain ns)) + occurs n (spreads (plain ms)) ≡ occurs n (ends (plain ms)) + occurs n (spreads (plain ns))
      go true q =
          subst (λ u. occurs u (ends (plain ns)) + occurs u (spreads (plain ms)) ≡ occurs u (ends (plain ms)) + occurs u (spreads (plain ns)))
          (sym (eqb-true n 1 q)) at_one
      go false q = omega (arith, b n, at_other n (eqb-false n 1 q))

-- coefficients are the kernel of these boxes, so they agree exactly when the counts do
plain_kernel : (ns : List ℕ) (k : ℕ) → boxes (plain ns) (at (kernel [])) k ≡ at (kernel ns) k
plain_kernel ns k =
    plain_boxes ns (at (kernel [])) k
    ∙ cascaded_conv ns (at (kernel [])) k
    ∙ conv_comm (at (kernel ns)) (at (kernel [])) k
    ∙ conv_impulse (at (kernel ns)) k

module _ (ns ms : List ℕ) (p : 0 < weight ns) (q : 0 < weight ms) where
  law : ((k : ℕ) → boxes (plain ns) (at (kernel [])) k ≡ boxes (plain ms) (at (kernel [])) k) ↔ Balance (plain ns) (plain ms)
  unfolding weight
  law = kernels_same (plain ns) (plain ms) (le_trans p (le_of_eq (ap product (sym (plain_ends ns))))) (le_trans q (le_of_eq (ap product (sym (plain_ends ms)))))

  kernels_counts : ((k : ℕ) → at (kernel ns) k ≡ at (kernel ms) k) → Balanced (struck ns) (struck ms)
  kernels_counts e = plain_balanced ns ms (law.0 (λ k. plain_kernel ns k ∙ e k ∙ sym (plain_kernel ms k)))

  counts_kernels : Balanced (struck ns) (struck ms) → (k : ℕ) → at (kernel ns) k ≡ at (kernel ms) k
  counts_kernels b k = sym (plain_kernel ns k) ∙ law.1 (balanced_plain ns ms b) k ∙ plain_kernel ms k

-- so do the reach and the weight
module _ (ns ms : List ℕ) (b : Balanced (struck ns) (struck ms)) where
  counts_order : order ns ≡ order ms
  unfolding box_order order
  counts_order =
      sym (struck_total box_order refl ns)
      ∙ total_order box_order (balanced_order (struck ns) (struck ms) b)
      ∙ struck_total box_order refl ms

  counts_weight : weight ns ≡ weight ms
  unfolding weight
  counts_weight = sym (struck_product ns) ∙ product_order (balanced_order (struck ns) (struck ms) b) ∙ struck_product ms

-- ---- the exact sums

-- the picture of a single pixel 1
abbrev pub dot : Picture
dot = picture 1 1 (1 ∷ [])

dot_lit : line dot 0 0 ≡ 1
unfolding line pixel
dot_lit = refl

dot_right : (i v : ℕ) → 0 < i → line dot v i ≡ 0
unfolding line
dot_right i v h = pixel_right dot i v h

dot_below : (i v : ℕ) → 0 < v → line dot v i ≡ 0
unfolding line
dot_below i v h = pixel_below dot i v h

-- its exact sums are the products of the coefficients
dot_across : (r : Recipe) (i v : ℕ) → cascaded 1 r.rows (line dot v) i ≡ line dot v 0 * at (kernel r.rows) i
dot_across r i v =
    cascaded_conv r.rows (line dot v) i
    ∙ conv_comm (at (kernel r.rows)) (line dot v) i
    ∙ conv_first (line dot v) (at (kernel r.rows)) i (λ a h. dot_right a v h)

dot_sums : (r : Recipe) → 0 < gain r → (i j : ℕ) → exact r dot i j ≡ at (kernel r.rows) i * at (kernel r.columns) j
dot_sums r h i j =
    let R = at (kernel r.rows) in
    exact_cascaded r dot h i j
    ∙ cascaded_conv r.columns (λ v. cascaded 1 r.rows (line dot v) i) j
    ∙ conv_comm (at (kernel r.columns)) (λ v. cascaded 1 r.rows (line dot v) i) j
    ∙ conv_first (λ v. cascaded 1 r.rows (line dot v) i) (at (kernel r.columns)) j
    (λ v l. dot_across r i v ∙ ap (λ x. x * R i) (dot_below 0 v l) ∙ zero-mul (R i))
    ∙ ap (λ x. x * at (kernel r.columns) j) (dot_across r i 0 ∙ ap (λ x. x * R i) dot_lit ∙ one-mul (R i))

-- the first coefficient is 1
boxed_first : (n : ℕ) (f : ℕ → ℕ) → 0 < n → boxed n f 0 ≡ f 0
unfolding boxed
boxed_first zero f h = absurd (omega arith)
boxed_first (suc n) f h =
    omega (
      arith,
      sum_first (λ a. behind f a 0) n,
      behind_zero f 0,
      sum_agree (λ a. behind f (suc a) 0) (λ a. 0) n (λ a l. behind_start f a),
      sum_zero n,
    )

kernel_first : (ns : List ℕ) → 0 < weight ns → at (kernel ns) 0 ≡ 1
unfolding weight
kernel_first [] h = impulse_start 0 refl
kernel_first (n ∷ ns) h =
    at_kernel n ns 0 ∙ boxed_first n (at (kernel ns)) (first_pos n ns h) ∙ kernel_first ns (rest_pos n ns h)

-- coefficients that agree as far as the reach
kernels_within : (ns ms : List ℕ) → 0 < weight ns → 0 < weight ms → order ns ≡ order ms
    → ((k : ℕ) → k ≤ order ns → at (kernel ns) k ≡ at (kernel ms) k) → (k : ℕ) → at (kernel ns) k ≡ at (kernel ms) k
kernels_within ns ms p q x e k =
    elim (dec_le k (order ns)) [
      | yes h ↦ e k h
      | no h ↦ kernel_short ns p k (omega arith) ∙ sym (kernel_short ms q k (omega arith))
    ]

module _ (a b : Recipe) where
  -- Where the counts agree, so do the grown sides, the weight and every exact sum of every picture.
  module _ (e : Balanced (struck a.rows) (struck b.rows)) (d : Balanced (struck a.columns) (struck b.columns)) where
    pub counts_gain : gain a ≡ gain b
    unfolding gain
    counts_gain = ap₂ ◌*◌ (counts_weight a.rows b.rows e) (counts_weight a.columns b.columns d)

    pub counts_width : (w : ℕ) → full_width_of a w ≡ full_width_of b w
    unfolding full_width_of
    counts_width w = ap (λ n. w + n) (counts_order a.rows b.rows e)

    pub counts_height : (h : ℕ) → full_height_of a h ≡ full_height_of b h
    unfolding full_height_of
    counts_height h = ap (λ n. h + n) (counts_order a.columns b.columns d)

    counts-exact : 0 < gain a → 0 < gain b → (x : Picture) (i j : ℕ) → exact a x i j ≡ exact b x i j
    unfolding exact at
    counts-exact p q x i j =
        let R = at (kernel a.rows) in
        let C = at (kernel a.columns) in
        ap₂ (λ m n. sum (suc m) (λ u. sum (suc n) (λ v. R u * C v * pixel_back x i u j v)))
        (counts_order a.rows b.rows e) (counts_order a.columns b.columns d)
        ∙ sum_agree (λ u. sum (suc (order b.columns)) (λ v. R u * C v * pixel_back x i u j v))
        (λ u. sum (suc (order b.columns)) (λ v. at (kernel b.rows) u * at (kernel b.columns) v * pixel_back x i u j v)) (suc (order b.rows))
        (λ u h.
        sum_agree (λ v. R u * C v * pixel_back x i u j v) (λ v. at (kernel b.rows) u * at (kernel b.columns) v * pixel_back x i u j v)
        (suc (order b.columns))
        (λ v l.
        ap₂ (λ y z. y * z * pixel_back x i u j v) (counts_kernels a.rows b.rows (rows_pos a p) (rows_pos b q) e u)
        (counts_kernels a.columns b.columns (columns_pos a p) (columns_pos b q) d v)))

    pub counts_row : 0 < gain a → 0 < gain b → (x : Picture) (j : ℕ) → full_row a x j ≡ full_row b x j
    unfolding full_row
    counts_row p q x j =
        ap (λ n. tab n (λ i. exact a x i j)) (counts_width x.width)
        ∙ tab_agree (full_width_of b x.width) (λ i. exact a x i j) (λ i. exact b x i j) (λ i h. counts-exact p q x i j)

  -- Where the grown sides and the exact sums of the single pixel agree, so do the counts.
  module _ (p : 0 < gain a) (q : 0 < gain b) (x : order a.rows ≡ order b.rows) (y : order a.columns ≡ order b.columns)
      (e : (i j : ℕ) → i ≤ order a.rows → j ≤ order a.columns → exact a dot i j ≡ exact b dot i j) where
    products : (i j : ℕ) → i ≤ order a.rows → j ≤ order a.columns
        → at (kernel a.rows) i * at (kernel a.columns) j ≡ at (kernel b.rows) i * at (kernel b.columns) j
    products i j h l = sym (dot_sums a p i j) ∙ e i j h l ∙ dot_sums b q i j

    -- each axis by the first coefficient of the other
    rows_agree : (k : ℕ) → k ≤ order a.rows → at (kernel a.rows) k ≡ at (kernel b.rows) k
    rows_agree k h =
        sym (mul-one (at (kernel a.rows) k))
        ∙ ap (λ c. at (kernel a.rows) k * c) (sym (kernel_first a.columns (columns_pos a p)))
        ∙ products k 0 h (omega arith)
        ∙ ap (λ c. at (kernel b.rows) k * c) (kernel_first b.columns (columns_pos b q))
        ∙ mul-one (at (kernel b.rows) k)

    columns-agree : (k : ℕ) → k ≤ order a.columns → at (kernel a.columns) k ≡ at (kernel b.columns) k
    columns-agree k h =
        sym (one-mul (at (kernel a.columns) k))
        ∙ ap (λ c. c * at (kernel a.columns) k) (sym (kernel_first a.rows (rows_pos a p)))
        ∙ products 0 k (omega arith) h
        ∙ ap (λ c. c * at (kernel b.columns) k) (kernel_first b.rows (rows_pos b q))
        ∙ one-mul (at (kernel b.columns) k)

    pub sums_counts : Balanced (struck a.rows) (struck b.rows) × Balanced (struck a.columns) (struck b.columns)
    sums_counts = (
      kernels_counts a.rows b.rows (rows_pos a p) (rows_pos b q)
          (kernels_within a.rows b.rows (rows_pos a p) (rows_pos b q) x rows_agree),
      kernels_counts a.columns b.columns (columns_pos a p) (columns_pos b q)
          (kernels_within a.columns b.columns (columns_pos a p) (columns_pos b q) y columns-agree),
    )
