-- Sequences through coefficients: a loop that adds up the terms of the window, cut to where the sequence is not 0; the sums that
-- the inside weight is made of; and the exact sum.
-- Assumes nothing.
use mathlib.Core.Path.{◌≡◌, refl, sym, ap, ap₂, subst, ◌∙◌}
use mathlib.Core.List.{List, ◌++◌, flatten}
use Prim.Native.Nat.{ℕ, suc, ◌+◌, ◌-◌, ◌*◌, ◌≤◌, ◌<◌, min}
use native.Mathlib.Nat.{le_trans, le_of_eq, mul-add, mul-zero, mul-one, mul_comm, mul-le-mul_left, mul-le-mul_right, suc-mul}
use native.Mathlib.Decide.{dec_le, dec_lt}
use native.Mathlib.Numerals.{add-one}
use native.Mathlib.Omega.{arith}
use lib.ListN.{length, get_or, take, drop, length-drop, get_or-eq_default}
use lib.Seq.{get_or-take, get_or-drop, length-take-le}
use borrow.Author.Tests.{lt-ltb, le-ltb}
use Rattle.spec.specs.Words.{sum, tab}
use Rattle.spec.specs.Recipe.{Recipe, kernel, order, weight, gain}
use Rattle.spec.specs.Picture.{Picture, exact, full_width_of, full_height_of, full_row, full, picture}
use Rattle.laws.proofs.Sums.{sum_agree, sum_zero, sum_grows, sum_front}
use Rattle.laws.proofs.Lists.{tab_agree}
use Rattle.laws.proofs.Sequences.{behind, behind_within, behind_before, behind_agree}
use Rattle.laws.proofs.Convolution.{ones}
use Rattle.laws.proofs.Kernels.{at, length_kernel}
use Rattle.laws.proofs.Exact.{pixel_right, pixel_below, pixel_inside, line, across, exact_down, rows_pos, columns_pos}
use Rattle.laws.proofs.Inside.{axis}
use Rattle.laws.proofs.Rows.{length_rows, rows_more}
use Rattle.laws.proofs.Slices.{Mixed}
use Rattle.direct.specs.Windows.{through, window, windows, mass}

-- A sequence f, no value of which is above most, through the coefficients ks at i.
module _ (ks : List ℕ) (f : ℕ → ℕ) (i most : ℕ) where
  abbrev pub term : ℕ → ℕ
  term a = at ks a * behind f a i

  -- a loop over the window that has added up the terms below a
  pub record Weighed (a acc : ℕ) : Type 0 where
    pub is : acc ≡ sum a term
    pub small : acc ≤ most * sum a (at ks)

  -- no term counts at which the sequence is past its end, n
  pub weighed_start : (n a : ℕ) → ((k : ℕ) → n ≤ k → f k ≡ 0) → a ≡ i + 1 - n → 0 < n → Weighed a 0
  weighed_start n a z e p =
      record {
        is =
            sym (sum_agree term (λ k. 0) a
            (λ k h.
            let l : k ≤ i = omega arith in
            ap (λ x. at ks k * x) (behind_within f k i l ∙ z (i - k) (omega arith)) ∙ mul-zero (at ks k))
            ∙ sum_zero a);
        small = omega arith;
      }

  pub weighed_more : {a acc : ℕ} (v : ℕ) → Weighed a acc → a ≤ i → v ≡ f (i - a) → v ≤ most → Weighed (a + 1) (acc + at ks a * v)
  unfolding sum
  weighed_more {a} {acc} v w h e l =
      let next : sum (a + 1) term ≡ sum a term + at ks a * v =
      ap (λ k. sum k term) (add-one a) ∙ ap (λ x. sum a term + at ks a * x) (behind_within f a i h ∙ sym e) in
      let all : sum (a + 1) (at ks) ≡ sum a (at ks) + at ks a = ap (λ k. sum k (at ks)) (add-one a) in
      let here : at ks a * v ≤ most * at ks a = le_trans (mul-le-mul_left (at ks a) l) (le_of_eq (mul_comm (at ks a) most)) in
      record {
        is = ap (λ x. x + at ks a * v) w.is ∙ sym next;
        small = omega (arith, w.small, here, ap (λ x. most * x) all, mul-add most (sum a (at ks)) (at ks a));
      }

  pub weighed_fits : {a acc : ℕ} → Weighed a acc → a ≤ length ks → acc ≤ most * mass ks
  unfolding mass
  weighed_fits {a} w h = le_trans w.small (mul-le-mul_left most (sum_grows (at ks) a (length ks) h))

  -- no term counts at which the sequence is before its start
  pub weighed_all : {a acc : ℕ} → Weighed a acc → a ≡ min (length ks) (i + 1) → acc ≡ through ks f i
  unfolding through
  weighed_all {a} w e =
      w.is
      ∙ elim (dec_le (length ks) (i + 1)) [
        | yes h ↦
            let same : a ≡ length ks = omega arith in
            ap (λ n. sum n term) same
        | no h ↦
            sym (sum_front term a (length ks) (omega arith)
            (λ k l g. ap (λ x. at ks k * x) (behind_before f k i (omega arith)) ∙ mul-zero (at ks k)))
      ]

-- a line of n ones
ones_within : (n k : ℕ) → k < n → ones n k ≡ 1
unfolding ones
ones_within n k h = rw (lt-ltb k n h) refl

pub ones_past : (n k : ℕ) → n ≤ k → ones n k ≡ 0
unfolding ones
ones_past n k h = rw (le-ltb k n h) refl

-- through the coefficients, one that is inside the line counts as it stands
pub weighed_one : (ks : List ℕ) (n i : ℕ) {a acc : ℕ} → Weighed ks (ones n) i 1 a acc → a ≤ i → i < a + n → Weighed ks (ones n) i 1 (a + 1) (acc + at ks a)
weighed_one ks n i {a} {acc} w h l =
    subst (λ x. Weighed ks (ones n) i 1 (a + 1) (acc + x)) (mul-one (at ks a))
    (weighed_more ks (ones n) i 1 1 w h (sym (ones_within n (i - a) (omega arith))) (omega arith))

-- and through R or C such a line is one of the two sums that the inside weight is made of
pub through_axis : (ns : List ℕ) → 0 < weight ns → (n i : ℕ) → through (kernel ns) (ones n) i ≡ axis ns n i
unfolding through axis
through_axis ns h n i =
    ap (λ m. sum m (λ a. at (kernel ns) a * behind (ones n) a i)) (length_kernel ns h ∙ add-one (order ns))

-- sequences that agree
pub through_agree : (ks : List ℕ) (f g : ℕ → ℕ) (i : ℕ) → ((k : ℕ) → f k ≡ g k) → through ks f i ≡ through ks g i
unfolding through
through_agree ks f g i e =
    sum_agree (λ a. at ks a * behind f a i) (λ a. at ks a * behind g a i) (length ks)
    (λ a h. ap (λ x. at ks a * x) (behind_agree f g i (λ k l. e k) a))

-- a row past the last of a picture
pub row_past : (rs : List ℕ) (w h : ℕ) (ps : List ℕ) (i v : ℕ) → h ≤ v → through rs (line (picture w h ps) v) i ≡ 0
unfolding through line
row_past rs w h ps i v past =
    through_agree rs (line (picture w h ps) v) (λ k. 0) i (λ k. pixel_below (picture w h ps) k v past)
    ∙ sum_agree (λ a. at rs a * behind (λ k. 0) a i) (λ a. 0) (length rs)
    (λ a l. ap (λ x. at rs a * x) (behind-nothing a) ∙ mul-zero (at rs a))
    ∙ sum_zero (length rs)
  where
    behind-nothing : (a : ℕ) → behind (λ k. 0) a i ≡ 0
    behind-nothing a =
        elim (dec_le a i) [
          | yes l ↦ behind_within (λ k. 0) a i l
          | no l ↦ behind_before (λ k. 0) a i (omega arith)
        ]

-- the exact sum: the rows through R, then down the columns through C
pub window_exact : (r : Recipe) (p : Picture) → 0 < gain r → (i j : ℕ) → window (kernel r.rows) (kernel r.columns) p i j ≡ exact r p i j
unfolding window through across
window_exact r p h i j =
    let across-size : length (kernel r.rows) ≡ suc (order r.rows) = length_kernel r.rows (rows_pos r h) ∙ add-one (order r.rows) in
    let down-size : length (kernel r.columns) ≡ suc (order r.columns) = length_kernel r.columns (columns_pos r h) ∙ add-one (order r.columns) in
    through_agree (kernel r.columns) (λ v. sum (length (kernel r.rows)) (λ a. at (kernel r.rows) a * behind (line p v) a i)) (across r p i) j
    (λ v. ap (λ n. sum n (λ a. at (kernel r.rows) a * behind (line p v) a i)) across-size)
    ∙ ap (λ n. sum n (λ b. at (kernel r.columns) b * behind (across r p i) b j)) down-size
    ∙ sym (exact_down r p i j)

-- row v of a picture, as the part of its pixels that is lent
pub line_part : (w h v : ℕ) (ps : List ℕ) (from to : ℕ) → from ≡ v * w → to ≡ from + w → v < h → to ≤ length ps
    → (k : ℕ) → at (take (to - from) (drop from ps)) k ≡ line (picture w h ps) v k
unfolding at line
line_part w h v ps from to e d g fits k =
    let size : to - from ≡ w = omega arith in
    let p = picture w h ps in
    rw size
    (elim (dec_lt k w) [
      | yes l ↦
          get_or-take w (drop from ps) k 0 l ∙ get_or-drop from ps k 0 ∙ ap (λ n. get_or ps (n + k) 0) e ∙ sym (pixel_inside p k v l g)
      | no l ↦
          let past : w ≤ k = omega arith in
          let len : length (take w (drop from ps)) ≡ w = length-take-le w (drop from ps) (omega (arith, length-drop from ps)) in
          get_or-eq_default (take w (drop from ps)) 0 (omega arith) ∙ sym (pixel_right p k v past)
    ])

-- The places of the grown picture: how many there are, what stands at each, and an output that is written row by row.
module _ (rs cs : List ℕ) (p : Picture) where
  abbrev W : ℕ
  W = p.width + length rs - 1

  abbrev H : ℕ
  H = p.height + length cs - 1

  pub length_windows : length (windows rs cs p) ≡ H * W
  unfolding windows
  length_windows = length_rows W H (λ j i. window rs cs p i j)

  -- a row ends inside the output
  pub row_fits : (j from size : ℕ) → from ≡ j * W → j < H → size ≡ H * W → from + W ≤ size
  row_fits j from size e h s = omega (arith, suc-mul j W, mul-le-mul_right W h)

  -- one row more, which was lent and came back as ys
  pub row_more : (j from n : ℕ) {old l : List ℕ} (ys : List ℕ) → Mixed from (windows rs cs p) old l → from ≡ j * W → j < H → from + W ≤ length old
      → n ≡ W → ys ≡ tab n (λ i. window rs cs p i j)
      → Mixed (from + W) (windows rs cs p) old (take from l ++ (ys ++ drop (from + W - from) (drop from l)))
  unfolding windows
  row_more j from n ys m e h fits s d =
      rows_more W H (λ j i. window rs cs p i j) 0 j from ys m e h fits (d ∙ ap (λ k. tab k (λ i. window rs cs p i j)) s)

-- with R and C they are all exact sums
pub windows_full : (r : Recipe) (p : Picture) → 0 < gain r → windows (kernel r.rows) (kernel r.columns) p ≡ full r p
unfolding windows full full_row full_width_of full_height_of
windows_full r p h =
    let W : p.width + length (kernel r.rows) - 1 ≡ p.width + order r.rows = omega (arith, length_kernel r.rows (rows_pos r h)) in
    let H : p.height + length (kernel r.columns) - 1 ≡ p.height + order r.columns = omega (arith, length_kernel r.columns (columns_pos r h)) in
    ap₂ (λ m n. flatten (tab m (λ j. tab n (λ i. window (kernel r.rows) (kernel r.columns) p i j)))) H W
    ∙ ap flatten
    (tab_agree (p.height + order r.columns) (λ j. tab (p.width + order r.rows) (λ i. window (kernel r.rows) (kernel r.columns) p i j))
    (λ j. tab (p.width + order r.rows) (λ i. exact r p i j))
    (λ j l.
    tab_agree (p.width + order r.rows) (λ i. window (kernel r.rows) (kernel r.columns) p i j) (λ i. exact r p i j)
    (λ i m. window_exact r p h i j)))
