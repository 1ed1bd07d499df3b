-- A recipe worked on the exact sums of another: the exact sums of both lists joined. And what the joined recipe says of its parts.
-- Assumes nothing.
use mathlib.Core.Path.{◌≡◌, refl, sym, ap, ap₂, ◌∙◌}
use mathlib.Core.Bool.{Bool, true, false, cond, ◌&&◌}
use mathlib.Core.List.{List, [], ◌∷◌, ◌++◌, flatten}
use Prim.Native.Nat.{ℕ, suc, ◌+◌, ◌-◌, ◌*◌, ◌/◌, ◌%◌, ◌≤◌, ◌<◌}
use native.Mathlib.Nat.{le_trans, le_of_eq, mul_comm, mul_assoc, mul-zero, mod-lt, div-add-mod', le-mul_of_pos_right}
use native.Mathlib.Decide.{dec_lt}
use native.Mathlib.Omega.{arith}
use lib.Dec.{leb}
use lib.ListN.{get_or, length-append}
use Rattle.spec.specs.Words.{tab}
use Rattle.spec.specs.Recipe.{Recipe, kernel, box_order, order, weight, gain, joined}
use Rattle.spec.specs.Picture.{Picture, pixel, pixel_back, exact, full_width_of, full_height_of, full_row, full, grown}
use Rattle.laws.proofs.Sums.{sum_agree, sum_zero}
use Rattle.laws.proofs.Lists.{total_append, product_append, factor_pos, tab_agree}
use Rattle.laws.proofs.Kernels.{at}
use Rattle.laws.proofs.Cascades.{spread, cascaded, cascaded_agree, spread_comm}
use Rattle.laws.proofs.Exact.{pixel_right, pixel_below, pixel_inside, get_d_full}
use Rattle.laws.proofs.Refusals.{Accepted}
use Rattle.laws.proofs.Flat.{flat, filtered, filtered_exact}

-- ---- cascades one after the other

cascaded_append : (s : ℕ) (ns ms : List ℕ) (f : ℕ → ℕ) (k : ℕ) → cascaded s (ns ++ ms) f k ≡ cascaded s ms (cascaded s ns f) k
unfolding cascaded
cascaded_append s [] ms f k = refl
cascaded_append s (n ∷ ns) ms f k = cascaded_append s ns ms (spread s n f) k

-- a box and a cascade, and two cascades, may be taken in either order, whatever their spreads
spread_through : (s t n : ℕ) (ms : List ℕ) (f : ℕ → ℕ) (k : ℕ) → cascaded s ms (spread t n f) k ≡ spread t n (cascaded s ms f) k
unfolding cascaded
spread_through s t n [] f k = refl
spread_through s t n (m ∷ ms) f k =
    cascaded_agree s ms (spread s m (spread t n f)) (spread t n (spread s m f)) k (λ j l. spread_comm s t m n f j)
    ∙ spread_through s t n ms (spread s m f) k

cascaded_comm : (s t : ℕ) (ns ms : List ℕ) (f : ℕ → ℕ) (k : ℕ) → cascaded s ns (cascaded t ms f) k ≡ cascaded t ms (cascaded s ns f) k
unfolding cascaded
cascaded_comm s t [] ms f k = refl
cascaded_comm s t (n ∷ ns) ms f k =
    cascaded_agree s ns (spread s n (cascaded t ms f)) (cascaded t ms (spread s n f)) k (λ j l. sym (spread_through t s n ms f j))
    ∙ cascaded_comm s t ns ms (spread s n f) k

-- sequences that agree up to k
pub filtered_agree : (r : Recipe) (W : ℕ) (f g : ℕ → ℕ) (k : ℕ) → ((j : ℕ) → j ≤ k → f j ≡ g j) → filtered r W f k ≡ filtered r W g k
unfolding filtered
filtered_agree r W f g k e =
    cascaded_agree W r.columns (cascaded 1 r.rows f) (cascaded 1 r.rows g) k
    (λ i l. cascaded_agree 1 r.rows f g i (λ j m. e j (omega arith)))

-- recipe B on what recipe A leaves, in rows of W places
pub filtered_joined : (a b : Recipe) (W : ℕ) (f : ℕ → ℕ) (k : ℕ) → filtered b W (filtered a W f) k ≡ filtered (joined a b) W f k
unfolding filtered joined
filtered_joined a b W f k =
    let g = cascaded 1 a.rows f in
    cascaded_agree W b.columns (cascaded 1 b.rows (cascaded W a.columns g)) (cascaded W a.columns (cascaded 1 b.rows g)) k
    (λ j l. cascaded_comm 1 W b.rows a.columns g j)
    ∙ sym (cascaded_append W a.columns b.columns (cascaded 1 b.rows g) k)
    ∙ cascaded_agree W (a.columns ++ b.columns) (cascaded 1 b.rows g) (cascaded 1 (a.rows ++ b.rows) f) k
    (λ j l. sym (cascaded_append 1 a.rows b.rows f j))

-- ---- outside the grown picture there is nothing

module _ (r : Recipe) (p : Picture) where
  nothing : (i j : ℕ) → ((a b : ℕ) → a ≤ order r.rows → b ≤ order r.columns → pixel p (i - a) (j - b) ≡ 0) → exact r p i j ≡ 0
  unfolding exact pixel_back
  nothing i j z =
      sum_agree _ (λ a. 0) (suc (order r.rows))
      (λ a l.
      sum_agree _ (λ b. 0) (suc (order r.columns))
      (λ b k.
      ap (λ x. get_or (kernel r.rows) a 0 * get_or (kernel r.columns) b 0 * x) (go (leb a i && leb b j) _ (z a b (omega arith) (omega arith)))
      ∙ mul-zero (get_or (kernel r.rows) a 0 * get_or (kernel r.columns) b 0))
      ∙ sum_zero (suc (order r.columns)))
      ∙ sum_zero (suc (order r.rows))
    where
      go : (s : Bool) (x : ℕ) → x ≡ 0 → cond s x 0 ≡ 0
      go true x e = e
      go false x e = refl

  exact_right : (i j : ℕ) → full_width_of r p.width ≤ i → exact r p i j ≡ 0
  unfolding full_width_of
  exact_right i j h = nothing i j (λ a b l k. pixel_right p (i - a) (j - b) (omega arith))

  exact_below : (i j : ℕ) → full_height_of r p.height ≤ j → exact r p i j ≡ 0
  unfolding full_height_of
  exact_below i j h = nothing i j (λ a b l k. pixel_below p (i - a) (j - b) (omega arith))

  -- the exact sums as a picture
  abbrev pub sums : Picture
  sums = grown r p.width p.height (full r p)

  sums_pixel : (i j : ℕ) → pixel sums i j ≡ exact r p i j
  unfolding grown at
  sums_pixel i j =
      elim (dec_lt i (full_width_of r p.width)) [
        | yes h ↦
            elim (dec_lt j (full_height_of r p.height)) [
              | yes g ↦ pixel_inside sums i j h g ∙ get_d_full r p j i g h
              | no g ↦ pixel_below sums i j (omega arith) ∙ sym (exact_below i j (omega arith))
            ]
        | no h ↦ pixel_right sums i j (omega arith) ∙ sym (exact_right i j (omega arith))
      ]

  -- what the recipe leaves in rows of W places is that picture
  pub filtered_sums : 0 < gain r → (W : ℕ) → 0 < W → full_width_of r p.width ≤ W → (k : ℕ) → filtered r W (flat p W) k ≡ flat sums W k
  unfolding flat full_width_of
  filtered_sums g W w room k =
      let q : k / W * W + k % W ≡ k = div-add-mod' k W in
      ap (filtered r W (flat p W)) (sym q) ∙ filtered_exact r p W room g (k % W) (k / W) (mod-lt k w) ∙ sym (sums_pixel (k % W) (k / W))

-- ---- the joined recipe

module _ (a b : Recipe) where
  pub gain_joined : gain (joined a b) ≡ gain a * gain b
  unfolding gain weight joined
  gain_joined =
      ap₂ ◌*◌ (product_append a.rows b.rows) (product_append a.columns b.columns)
      ∙ exchange (weight a.rows) (weight b.rows) (weight a.columns) (weight b.columns)
    where
      exchange : (x y u v : ℕ) → x * y * (u * v) ≡ x * u * (y * v)
      exchange x y u v =
          mul_assoc x y (u * v)
          ∙ ap (λ z. x * z) (sym (mul_assoc y u v) ∙ ap (λ z. z * v) (mul_comm y u) ∙ mul_assoc u y v)
          ∙ sym (mul_assoc x u (y * v))

  -- no width of a part is 0 where none of the whole is
  front_pos : 0 < gain (joined a b) → 0 < gain a
  front_pos g = factor_pos (gain b) (gain a) (le_trans g (le_of_eq (gain_joined ∙ mul_comm (gain a) (gain b))))

  end_pos : 0 < gain (joined a b) → 0 < gain b
  end_pos g = factor_pos (gain a) (gain b) (le_trans g (le_of_eq gain_joined))

  -- the grown sides
  pub width_joined : (w : ℕ) → full_width_of (joined a b) w ≡ full_width_of b (full_width_of a w)
  unfolding full_width_of joined order
  width_joined w = omega (arith, total_append box_order a.rows b.rows)

  pub height_joined : (h : ℕ) → full_height_of (joined a b) h ≡ full_height_of b (full_height_of a h)
  unfolding full_height_of joined order
  height_joined h = omega (arith, total_append box_order a.columns b.columns)

  -- each part of an accepted recipe is accepted
  pub joined_accepted : Accepted (joined a b) → Accepted a × Accepted b
  unfolding joined order
  joined_accepted k =
      let e = gain_joined in
      let x = front_pos k.not_zero in
      let y = end_pos k.not_zero in
      let rl = length-append a.rows b.rows in
      let cl = length-append a.columns b.columns in
      let ro = total_append box_order a.rows b.rows in
      let co = total_append box_order a.columns b.columns in (
        record {
          rows_short = omega (arith, k.rows_short);
          columns_short = omega (arith, k.columns_short);
          not_zero = x;
          row_reach = omega (arith, k.row_reach);
          column_reach = omega (arith, k.column_reach);
          light = le_trans (le-mul_of_pos_right (gain a) y) (le_trans (le_of_eq (sym e)) k.light);
        },
        record {
          rows_short = omega (arith, k.rows_short);
          columns_short = omega (arith, k.columns_short);
          not_zero = y;
          row_reach = omega (arith, k.row_reach);
          column_reach = omega (arith, k.column_reach);
          light = le_trans (le-mul_of_pos_right (gain b) x) (le_trans (le_of_eq (mul_comm (gain b) (gain a) ∙ sym e)) k.light);
        },
      )

  -- recipe B on the exact sums of recipe A
  module _ (p : Picture) (g : 0 < gain (joined a b)) where
    exact-joined : (i j : ℕ) → i < full_width_of (joined a b) p.width → exact b (sums a p) i j ≡ exact (joined a b) p i j
    unfolding full_width_of grown
    exact-joined i j h =
        let W = full_width_of (joined a b) p.width in
        let wide = width_joined p.width in
        sym (filtered_exact b (sums a p) W (le_of_eq (sym wide)) (end_pos g) i j h)
        ∙ filtered_agree b W (flat (sums a p) W) (filtered a W (flat p W)) (j * W + i)
        (λ k l. sym (filtered_sums a p (front_pos g) W (omega arith) (omega arith) k))
        ∙ filtered_joined a b W (flat p W) (j * W + i)
        ∙ filtered_exact (joined a b) p W (le_of_eq refl) g i j h

    pub full_joined : full b (sums a p) ≡ full (joined a b) p
    unfolding full full_row grown
    full_joined =
        ap₂ (λ W H. flatten (tab H (λ j. tab W (λ i. exact b (sums a p) i j)))) (sym (width_joined p.width)) (sym (height_joined p.height))
        ∙ ap flatten (tab_agree _ _ _ (λ j l. tab_agree _ _ _ (λ i h. exact-joined i j h)))
