-- A picture as one sequence, laid in rows of W places: where W is no less than the grown width a cascade along the rows is one along
-- the sequence, since the black places at the end of each row keep the rows apart. A cascade down the columns is one with a spread of a
-- row.
-- Assumes nothing.
use mathlib.Core.Path.{◌≡◌, refl, sym, ap, ap₂, ◌∙◌}
use mathlib.Core.List.{List, [], ◌∷◌}
use Prim.Native.Nat.{ℕ, zero, suc, ◌+◌, ◌-◌, ◌*◌, ◌/◌, ◌%◌, ◌≤◌, ◌<◌}
use native.Mathlib.Nat.{le_trans, le_of_eq, zero-mul, suc-mul, add-mul, mul-one, mul_comm, mul-le-mul_right, mod-lt, div-add-mod', div-lt_iff_lt-mul}
use native.Mathlib.Decide.{dec_le}
use native.Mathlib.Omega.{arith}
use lib.Arith.{digits_div, digits_mod}
use lib.ListN.{length, get_or}
use lib.Seq.{ext_get_or}
use Rattle.spec.specs.Recipe.{Recipe, kernel, order, gain}
use Rattle.spec.specs.Picture.{Picture, pixel, exact, full_width_of, full_height_of, full}
use Rattle.laws.proofs.Sums.{sum_agree}
use Rattle.laws.proofs.Sequences.{behind, behind_within, behind_before}
use Rattle.laws.proofs.Kernels.{at, Holds}
use Rattle.laws.proofs.Cascades.{spread, cascaded, cascaded_agree, cascaded_conv, conv_short, kernel_short}
use Rattle.laws.proofs.Exact.{pixel_right, line, rows_pos, exact_cascaded, exact_small, length_full, get_d_full}

-- a picture in rows of W places, one after the other: its pixels, and black to their right and below them
unfoldable pub flat : Picture → ℕ → ℕ → ℕ
flat p W k = pixel p (k % W) (k / W)

-- a recipe's widths over a sequence in rows of W places: the row widths, and then the column widths
unfoldable pub filtered : Recipe → ℕ → (ℕ → ℕ) → ℕ → ℕ
filtered r W f = cascaded W r.columns (cascaded 1 r.rows f)

-- column i of row j, in rows of W places
module _ (W : ℕ) (i : ℕ) (h : i < W) where
  pub flat_at : (p : Picture) (j : ℕ) → flat p W (j * W + i) ≡ pixel p i j
  unfolding flat
  flat_at p j = ap₂ (pixel p) (digits_mod j h) (digits_div j h)

  -- a rows up is a times W places back
  rows_up : (g : ℕ → ℕ) (a v : ℕ) → behind g (a * W) (v * W + i) ≡ behind (λ u. g (u * W + i)) a v
  rows_up g a v =
      elim (dec_le a v) [
        | yes l ↦
            let m : a * W ≤ v * W = mul-le-mul_right W l in
            let e : v * W + i - a * W ≡ (v - a) * W + i = omega (arith, apart a v l) in
            behind_within g (a * W) (v * W + i) (omega arith) ∙ ap g e ∙ sym (behind_within (λ u. g (u * W + i)) a v l)
        | no l ↦
            let m : suc v * W ≤ a * W = mul-le-mul_right W (omega arith) in
            behind_before g (a * W) (v * W + i) (omega (arith, suc-mul v W)) ∙ sym (behind_before (λ u. g (u * W + i)) a v (omega arith))
      ]
    where
      apart : (a v : ℕ) → a ≤ v → v * W ≡ (v - a) * W + a * W
      apart a v l =
          let e : v ≡ (v - a) + a = omega arith in
          ap (λ x. x * W) e ∙ add-mul (v - a) a W

  -- a cascade down the columns
  pub cascaded_down : (ns : List ℕ) (g : ℕ → ℕ) (j : ℕ) → cascaded W ns g (j * W + i) ≡ cascaded 1 ns (λ v. g (v * W + i)) j
  unfolding cascaded spread
  cascaded_down [] g j = refl
  cascaded_down (n ∷ ns) g j =
      cascaded_down ns (spread W n g) j
      ∙ cascaded_agree 1 ns (λ v. spread W n g (v * W + i)) (spread 1 n (λ v. g (v * W + i))) j
      (λ v l.
      sum_agree (λ a. behind g (a * W) (v * W + i)) (λ a. behind (λ u. g (u * W + i)) (a * 1) v) n
      (λ a m. rows_up g a v ∙ ap (λ b. behind (λ u. g (u * W + i)) b v) (sym (mul-one a))))

module _ (r : Recipe) (p : Picture) (W : ℕ) (room : p.width + order r.rows ≤ W) where
  -- going back no more than the row reach never meets a pixel of the row above
  back_along : (i j a : ℕ) → i < W → a ≤ order r.rows → behind (flat p W) a (j * W + i) ≡ behind (line p j) a i
  unfolding line
  back_along i j a h l =
      elim (dec_le a i) [
        | yes g ↦
            let e : j * W + i - a ≡ j * W + (i - a) = omega arith in
            behind_within (flat p W) a (j * W + i) (omega arith)
            ∙ ap (flat p W) e
            ∙ flat_at W (i - a) (omega arith) p j
            ∙ sym (behind_within (line p j) a i g)
        | no g ↦ above (omega arith) j ∙ sym (behind_before (line p j) a i (omega arith))
      ]
    where
      above : i < a → (v : ℕ) → behind (flat p W) a (v * W + i) ≡ 0
      above g zero = behind_before (flat p W) a (0 * W + i) (omega (arith, zero-mul W))
      above g (suc v) =
          let e : suc v * W + i - a ≡ v * W + (W + i - a) = omega (arith, suc-mul v W) in
          behind_within (flat p W) a (suc v * W + i) (omega (arith, suc-mul v W))
          ∙ ap (flat p W) e
          ∙ flat_at W (W + i - a) (omega arith) p v
          ∙ pixel_right p (W + i - a) v (omega arith)

  -- a cascade along the rows
  pub cascaded_along : 0 < gain r → (i j : ℕ) → i < W → cascaded 1 r.rows (flat p W) (j * W + i) ≡ cascaded 1 r.rows (line p j) i
  cascaded_along g i j h =
      let R = at (kernel r.rows) in
      let m = order r.rows in
      let short = kernel_short r.rows (rows_pos r g) in
      cascaded_conv r.rows (flat p W) (j * W + i)
      ∙ conv_short R (flat p W) m (j * W + i) short
      ∙ sum_agree (λ a. R a * behind (flat p W) a (j * W + i)) (λ a. R a * behind (line p j) a i) (suc m)
      (λ a l. ap (λ x. R a * x) (back_along i j a h (omega arith)))
      ∙ sym (cascaded_conv r.rows (line p j) i ∙ conv_short R (line p j) m i short)

  -- both cascades
  pub filtered_exact : 0 < gain r → (i j : ℕ) → i < W → filtered r W (flat p W) (j * W + i) ≡ exact r p i j
  unfolding filtered
  filtered_exact g i j h =
      cascaded_down W i h r.columns (cascaded 1 r.rows (flat p W)) j
      ∙ cascaded_agree 1 r.columns (λ v. cascaded 1 r.rows (flat p W) (v * W + i)) (λ v. cascaded 1 r.rows (line p v) i) j
      (λ v l. cascaded_along g i v h)
      ∙ sym (exact_cascaded r p g i j)

  -- in rows of the grown width: a list of the grown size that holds it is the list of all exact sums
  module _ (g : 0 < gain r) (w : 0 < p.width) where
    pub filtered_full : W ≡ full_width_of r p.width → (l : List ℕ) → length l ≡ W * full_height_of r p.height → Holds (filtered r W (flat p W)) l → l ≡ full r p
    unfolding at
    filtered_full f l e h =
        let H = full_height_of r p.height in
        let pos : 0 < W = omega arith in
        ext_get_or 0 l (full r p) (e ∙ mul_comm W H ∙ ap (λ x. H * x) f ∙ sym (length_full r p))
        (λ k m.
        let q : k / W * W + k % W ≡ k = div-add-mod' k W in
        let u : k < H * W = omega (arith, mul_comm W H) in
        h k m
        ∙ ap (filtered r W (flat p W)) (sym q)
        ∙ filtered_exact g (k % W) (k / W) (mod-lt k pos)
        ∙ sym (get_d_full r p (k / W) (k % W) ((div-lt_iff_lt-mul pos).1 u) (le_trans (mod-lt k pos) (le_of_eq f)))
        ∙ ap (λ n. get_or (full r p) n 0) (ap (λ x. k / W * x + k % W) (sym f) ∙ q))

    pub filtered_small : (most : ℕ) → ((k : ℕ) → get_or p.pixels k 0 ≤ most) → (k : ℕ) → filtered r W (flat p W) k ≤ most * gain r
    filtered_small most small k =
        let pos : 0 < W = omega arith in
        let q : k / W * W + k % W ≡ k = div-add-mod' k W in
        le_trans (le_of_eq (ap (filtered r W (flat p W)) (sym q) ∙ filtered_exact g (k % W) (k / W) (mod-lt k pos)))
        (exact_small r p most small (k % W) (k / W))
