-- The exact sum of document 01 as a cascade along the rows and then one down the columns, how large it can be, and where it stands in
-- the list of all grown rows.
-- Assumes nothing.
use mathlib.Core.Path.{◌≡◌, refl, sym, ap, ap₂, ◌∙◌}
use mathlib.Core.Bool.{Bool, true, false, cond, ◌&&◌}
use mathlib.Core.List.{List}
use Prim.Native.Nat.{ℕ, suc, ◌+◌, ◌-◌, ◌*◌, ◌≤◌, ◌<◌}
use native.Mathlib.Nat.{le_trans, le_of_eq, mul_comm, mul_assoc, mul-le-mul_left}
use native.Mathlib.Decide.{dec_le}
use native.Mathlib.Omega.{arith}
use lib.Dec.{leb, ltb}
use lib.ListN.{length, get_or}
use borrow.Author.Tests.{lt-ltb, le-ltb}
use Rattle.spec.specs.Words.{sum}
use Rattle.spec.specs.Recipe.{Recipe, kernel, order, weight, gain}
use Rattle.spec.specs.Picture.{Picture, pixel, pixel_back, exact, full_width_of, full_height_of, full_row, full}
use Rattle.laws.proofs.Sums.{sum_agree, sum_le, sum_scale, sum_swap}
use Rattle.laws.proofs.Lists.{factor_pos}
use Rattle.laws.proofs.Sequences.{behind, behind_within, behind_before}
use Rattle.laws.proofs.Convolution.{conv_agree}
use Rattle.laws.proofs.Kernels.{at, kernel_sum}
use Rattle.laws.proofs.Rows.{length_rows, get_d_rows}
use Rattle.laws.proofs.Cascades.{cascaded, cascaded_conv, conv_short, kernel_short, behind_sum, behind_times}

-- a pixel inside the picture, and black outside it
pub pixel_right : (p : Picture) (i j : ℕ) → p.width ≤ i → pixel p i j ≡ 0
unfolding pixel
pixel_right p i j h = rw (le-ltb i p.width h) refl

pub pixel_below : (p : Picture) (i j : ℕ) → p.height ≤ j → pixel p i j ≡ 0
unfolding pixel
pixel_below p i j h = rw (le-ltb j p.height h) (go (ltb i p.width))
  where
    go : (b : Bool) → cond (b && false) (get_or p.pixels (j * p.width + i) 0) 0 ≡ 0
    go true = refl
    go false = refl

pub pixel_inside : (p : Picture) (i j : ℕ) → i < p.width → j < p.height → pixel p i j ≡ at p.pixels (j * p.width + i)
unfolding pixel at
pixel_inside p i j h l = rw (lt-ltb i p.width h, lt-ltb j p.height l) refl

-- row j of a picture as a sequence
unfoldable pub line : Picture → ℕ → ℕ → ℕ
line p j i = pixel p i j

-- the two parts of a weight that is not 0
pub rows_pos : (r : Recipe) → 0 < gain r → 0 < weight r.rows
unfolding gain
rows_pos r h = factor_pos (weight r.columns) (weight r.rows) (rw (mul_comm (weight r.columns) (weight r.rows)) h)

pub columns_pos : (r : Recipe) → 0 < gain r → 0 < weight r.columns
unfolding gain
columns_pos r h = factor_pos (weight r.rows) (weight r.columns) h

module _ (r : Recipe) (p : Picture) where
  -- row j through the row coefficients, at i
  unfoldable pub across : ℕ → ℕ → ℕ
  across i j = sum (suc (order r.rows)) (λ a. at (kernel r.rows) a * behind (line p j) a i)

  -- the pixels a places to the left and b rows up
  back : (i a j b : ℕ) → pixel_back p i a j b ≡ behind (λ v. behind (line p v) a i) b j
  unfolding pixel_back behind line
  back i a j b = go (leb a i) (leb b j)
    where
      go : (s t : Bool) → cond (s && t) (pixel p (i - a) (j - b)) 0 ≡ cond t (cond s (pixel p (i - a) (j - b)) 0) 0
      go true true = refl
      go true false = refl
      go false true = refl
      go false false = refl

  -- the sum over the rows of the window
  pub exact_down : (i j : ℕ) → exact r p i j ≡ sum (suc (order r.columns)) (λ b. at (kernel r.columns) b * behind (across i) b j)
  unfolding exact at across
  exact_down i j =
      let R = at (kernel r.rows) in
      let C = at (kernel r.columns) in
      let m = suc (order r.rows) in
      let n = suc (order r.columns) in
      sum_swap (λ a b. R a * C b * pixel_back p i a j b) m n
      ∙ sum_agree (λ b. sum m (λ a. R a * C b * pixel_back p i a j b)) (λ b. C b * behind (across i) b j) n
      (λ b h.
      sum_agree (λ a. R a * C b * pixel_back p i a j b) (λ a. C b * behind (λ v. R a * behind (line p v) a i) b j) m
      (λ a l.
      ap₂ ◌*◌ (mul_comm (R a) (C b)) (back i a j b)
      ∙ mul_assoc (C b) (R a) (behind (λ v. behind (line p v) a i) b j)
      ∙ ap (λ x. C b * x) (sym (behind_times (R a) (λ v. behind (line p v) a i) b j)))
      ∙ sum_scale (λ a. behind (λ v. R a * behind (line p v) a i) b j) (C b) m
      ∙ ap (λ x. C b * x) (sym (behind_sum m (λ a v. R a * behind (line p v) a i) b j)))

  -- a cascade along the rows, then one down the columns
  pub exact_cascaded : 0 < gain r → (i j : ℕ) → exact r p i j ≡ cascaded 1 r.columns (λ v. cascaded 1 r.rows (line p v) i) j
  unfolding across
  exact_cascaded h i j =
      exact_down i j
      ∙ sym (conv_short (at (kernel r.columns)) (across i) (order r.columns) j (kernel_short r.columns (columns_pos r h)))
      ∙ conv_agree (at (kernel r.columns)) (at (kernel r.columns)) (across i) (λ v. cascaded 1 r.rows (line p v) i) j (λ a l. refl)
      (λ v l.
      sym (cascaded_conv r.rows (line p v) i
      ∙ conv_short (at (kernel r.rows)) (line p v) (order r.rows) i (kernel_short r.rows (rows_pos r h))))
      ∙ sym (cascaded_conv r.columns (λ v. cascaded 1 r.rows (line p v) i) j)

  -- No pixel is above a bound.
  module _ (most : ℕ) (small : (k : ℕ) → get_or p.pixels k 0 ≤ most) where
    pub pixel_small : (i j : ℕ) → pixel p i j ≤ most
    unfolding pixel
    pixel_small i j = go (ltb i p.width && ltb j p.height)
      where
        go : (b : Bool) → cond b (get_or p.pixels (j * p.width + i) 0) 0 ≤ most
        go true = small (j * p.width + i)
        go false = omega arith

    behind_small : (f : ℕ → ℕ) (b : ℕ) → ((k : ℕ) → f k ≤ b) → (a k : ℕ) → behind f a k ≤ b
    behind_small f b h a k =
        elim (dec_le a k) [
          | yes g ↦ le_trans (le_of_eq (behind_within f a k g)) (h (k - a))
          | no g ↦ omega (arith, behind_before f a k (omega arith))
        ]

    -- coefficients times values of at most so much
    weighed : (ns : List ℕ) (m b : ℕ) (f : ℕ → ℕ) → ((a : ℕ) → f a ≤ b) → sum m (λ a. at (kernel ns) a * f a) ≤ b * weight ns
    weighed ns m b f h =
        le_trans
        (sum_le (λ a. at (kernel ns) a * f a) (λ a. b * at (kernel ns) a) m
        (λ a l. le_trans (mul-le-mul_left (at (kernel ns) a) (h a)) (le_of_eq (mul_comm (at (kernel ns) a) b))))
        (le_trans (le_of_eq (sum_scale (at (kernel ns)) b m)) (mul-le-mul_left b (kernel_sum ns m)))

    pub across_small : (i j : ℕ) → across i j ≤ most * weight r.rows
    unfolding across line
    across_small i j =
        weighed r.rows (suc (order r.rows)) most (λ a. behind (line p j) a i)
        (λ a. behind_small (line p j) most (λ k. pixel_small k j) a i)

    pub exact_small : (i j : ℕ) → exact r p i j ≤ most * gain r
    unfolding gain
    exact_small i j =
        le_trans (le_of_eq (exact_down i j))
        (le_trans
        (weighed r.columns (suc (order r.columns)) (most * weight r.rows) (λ b. behind (across i) b j)
        (λ b. behind_small (across i) (most * weight r.rows) (across_small i) b j))
        (le_of_eq (mul_assoc most (weight r.rows) (weight r.columns))))

-- all grown rows: their length, and the exact sum at each place
pub length_full : (r : Recipe) (p : Picture) → length (full r p) ≡ full_height_of r p.height * full_width_of r p.width
unfolding full full_row
length_full r p = length_rows (full_width_of r p.width) (full_height_of r p.height) (λ j i. exact r p i j)

pub get_d_full : (r : Recipe) (p : Picture) (j i : ℕ) → j < full_height_of r p.height → i < full_width_of r p.width
    → get_or (full r p) (j * full_width_of r p.width + i) 0 ≡ exact r p i j
unfolding full full_row
get_d_full r p j i h l = get_d_rows (full_width_of r p.width) (full_height_of r p.height) (λ j i. exact r p i j) 0 j i h l
