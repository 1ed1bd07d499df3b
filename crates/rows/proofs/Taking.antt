-- The part of a grown row that the same-size blur takes, the first row that it takes, and that twice the grown size is enough cells for
-- the one pass.
-- Assumes nothing.
use mathlib.Core.Path.{◌≡◌, refl, sym, ap, ap₂, subst, ◌∙◌}
use mathlib.Core.Bool.{Bool, true, false, cond}
use mathlib.Core.List.{List, [], ◌∷◌}
use Prim.Native.Nat.{ℕ, ◌+◌, ◌-◌, ◌*◌, ◌/◌, ◌≤◌, ◌<◌}
use native.Mathlib.Nat.{le_trans, le_of_eq, mul-add, mul-one, mul-le-mul, mul-le-mul_left, mul_left_comm}
use native.Mathlib.Decide.{dec_lt}
use native.Mathlib.Omega.{arith}
use lib.Dec.{ltb, eqb}
use lib.ListN.{length, get_or, take, drop, length-drop, get_or-eq_default}
use lib.Seq.{length-take-le, get_or-take, get_or-drop}
use borrow.Author.Tests.{le-ltb, ltb-false, eqb-true, eqb-false}
use Rattle.spec.specs.Words.{total}
use Rattle.spec.specs.declared.Filter.{Filter}
use Rattle.spec.specs.Recipe.{Recipe, recipe, box_order, order, gain}
use Rattle.spec.specs.Picture.{Picture, picture, Within, exact, full_width_of, full_height_of, full_row}
use Rattle.spec.specs.Stream.{box_cells, cascade_cells, stream_cells}
use Rattle.spec.specs.Gray.{same_column, same_row, same_sum}
use Rattle.spec.specs.Refusals.{first, too_few_cells, size_checks, picture_checks, start_checks, full_size}
use Rattle.laws.proofs.Lists.{length_tab, get_d_tab}
use Rattle.laws.proofs.Exact.{exact_small}
use Rattle.laws.proofs.Refusals.{Sized, AcceptedPicture, grown_most, none_both, first_then, size_numbered, is_sized}
use Rattle.filter.specs.declared.checks.Measures.{Measures}
use Rattle.filter.proofs.Measuring.{Known}
use Rattle.stream.specs.declared.calls.State.{State}
use Rattle.stream.specs.Calls.{state_at}
use Rattle.rows.specs.Streaming.{Streamed}
use Rattle.rows.specs.Taking.{Taken}

-- ---- the places that are taken

module _ (r : Recipe) (p : Picture) (j : ℕ) (row : List ℕ) (is : row ≡ full_row r p (same_row r j)) where
  pub long : length row ≡ full_width_of r p.width
  unfolding full_row
  long = ap length is ∙ length_tab (full_width_of r p.width) (λ i. exact r p i (same_row r j))

  module _ (left n : ℕ) (half : left ≡ order r.rows / 2) (many : n ≡ p.width) where
    -- the sums from the left place on, as many as the picture is wide
    abbrev taken : List ℕ
    taken = take n (drop left row)

    pub taken_length : length taken ≡ p.width
    unfolding full_width_of
    taken_length = length-take-le n (drop left row) (omega (arith, length-drop left row, long)) ∙ many

    pub taken_at : (i : ℕ) → i < p.width → get_or taken i 0 ≡ same_sum r p i j
    unfolding full_row full_width_of same_sum same_column
    taken_at i h =
        let place : left + i ≡ i + order r.rows / 2 = omega arith in
        get_or-take n (drop left row) i 0 (omega arith)
        ∙ get_or-drop left row i 0
        ∙ ap₂ (λ l k. get_or l k 0) is place
        ∙ get_d_tab (p.width + order r.rows) (λ k. exact r p k (same_row r j)) (i + order r.rows / 2) 0 (omega arith)

    pub taken_bounded : (most : ℕ) → Within most p → (i : ℕ) → get_or taken i 0 ≤ most * gain r
    unfolding same_sum
    taken_bounded most small i =
        elim (dec_lt i p.width) [
          | yes h ↦ le_trans (le_of_eq (taken_at i h)) (exact_small r p most small (same_column r i) (same_row r j))
          | no h ↦ omega (arith, get_or-eq_default taken 0 (past i (omega arith)))
        ]
      where
        past : (i : ℕ) → p.width ≤ i → length taken ≤ i
        past i h = omega (arith, taken_length)

-- ---- work cells

box_enough : (n : ℕ) → box_cells n ≤ 2 * (n - 1)
unfolding box_cells
box_enough n = go (ltb n 2) (eqb n 2) (λ e. ltb-false n 2 e) (λ e. eqb-true n 2 e) (λ e. eqb-false n 2 e)
  where
    go : (a b : Bool) → (a ≡ false → 2 ≤ n) → (b ≡ true → n ≡ 2) → (b ≡ false → n ≡ 2 → ⊥) → cond a 0 (cond b 1 n) ≤ 2 * (n - 1)
    go true b two is other = omega arith
    go false true two is other = omega (arith, two refl)
    go false false two is other = omega (arith, two refl)

cascade_enough : (ns : List ℕ) → cascade_cells ns ≤ 2 * order ns
unfolding cascade_cells box_order order total
cascade_enough [] = omega arith
cascade_enough (n ∷ ns) = omega (arith, box_enough n, cascade_enough ns)

-- twice the grown size is always enough
pub stream_enough : (r : Recipe) (p : Picture) → 0 < p.height → stream_cells r p.width ≤ 2 * full_size r p
unfolding stream_cells full_size full_width_of full_height_of
stream_enough r p h =
    let W = p.width + order r.rows in
    let rows = cascade_enough r.rows in
    let columns : W * cascade_cells r.columns ≤ W * (2 * order r.columns) = mul-le-mul_left W (cascade_enough r.columns) in
    let once : W * 1 ≤ W * p.height = mul-le-mul_left W h in
    omega (
      arith,
      rows,
      columns,
      once,
      mul-one W,
      mul-add W p.height (order r.columns),
      mul_left_comm W 2 (order r.columns),
    )

-- The grown size as it is computed from what measuring the recipe told, and how large it can be.
pub record Grown (r : Recipe) (p : Picture) (m : Measures) : Type 0 where
  pub wide : p.width + m.row_order ≡ full_width_of r p.width
  pub few : p.width + m.row_order ≤ 1279
  pub tall : p.height + m.column_order ≤ 1279
  pub size : (p.width + m.row_order) * (p.height + m.column_order) ≡ full_size r p
  pub most : (p.width + m.row_order) * (p.height + m.column_order) ≤ 1279 * 1279

pub grown : (r : Recipe) (p : Picture) (m : Measures) → Known r m → Sized p.width p.height → Grown r p m
unfolding full_size full_width_of full_height_of
grown r p m k s =
    let most = grown_most r p.width p.height k.accepted s in
    let few : p.width + m.row_order ≤ 1279 = omega (arith, k.row_reach, most.0) in
    let tall : p.height + m.column_order ≤ 1279 = omega (arith, k.column_reach, most.1) in
    record {
      wide = ap (λ n. p.width + n) k.row_reach;
      few = few;
      tall = tall;
      size = ap₂ (λ x y. (p.width + x) * (p.height + y)) k.row_reach k.column_reach;
      most = mul-le-mul few tall;
    }

-- so that a start with so many cells, or more, is accepted with an accepted picture
pub start_accepted : (r : Recipe) (p : Picture) (cells : ℕ) → first (picture_checks r p) ≡ 0 → 2 * full_size r p ≤ cells
    → first (start_checks r p.width p.height cells) ≡ 0
unfolding picture_checks start_checks too_few_cells
start_accepted r p cells z h =
    let sized = (none_both (size_checks r p.width p.height) _ (size_numbered r p.width p.height) z).0 in
    let tall = (is_sized r p.width p.height sized).1.height.0 in
    first_then (size_checks r p.width p.height) _ 8 (size_numbered r p.width p.height) sized
    ∙ ap (λ b. cond b 8 0) (le-ltb cells (stream_cells r p.width) (omega (arith, stream_enough r p tall)))

-- ---- the state at the first row that is taken

-- the next grown row is the first that the same-size blur takes
pub is_taken : (f : Filter) (w h : ℕ) (pixels : List ℕ) (k : ℕ) (s : State) (cells : List ℕ) (st : Streamed f (picture w h pixels) k s cells) (left : ℕ) (row : List ℕ)
    → AcceptedPicture (recipe f) (picture w h pixels) → k ≡ order (recipe f).columns / 2 → left ≡ order (recipe f).rows / 2
    → length row ≡ full_width_of (recipe f) w → Taken s left pixels row cells
is_taken f w h pixels k s cells st left row ok above half wide =
    subst (λ (t : State). Taken t left pixels row cells) (sym st.is)
    (record {
      picture = ok;
      streamed =
          subst (λ n. Streamed f (picture w h pixels) n (state_at f w h k) cells) above
          (subst (λ (t : State). Streamed f (picture w h pixels) k t cells) st.is st);
      half = half;
      wide = wide;
    })
