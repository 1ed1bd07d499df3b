-- What `search` does not find of `same::gray_rows`.
use mathlib.Core.List.{List}
use mathlib.Core.Path.{◌≡◌, refl, sym, ap, ap₂, subst, ◌∙◌}
use Prim.Native.Nat.{ℕ, ◌+◌, ◌-◌, ◌*◌, ◌/◌, ◌≤◌, ◌<◌}
use native.Mathlib.Nat.{mul_comm, mul-le-mul, mul-le-mul_right, zero-add, zero-mul, suc-mul}
use native.Mathlib.Omega.{arith}
use borrow.Author.Rules.{rules}
use lib.IntN.{pos}
use lib.ListN.{length, get_or, take, drop}
use Rattle.spec.specs.Recipe.{Recipe, recipe, order}
use Rattle.spec.specs.Picture.{Picture, Within, largest_gray, full_width_of, full_height_of, full_row}
use Rattle.spec.specs.Words.{tab}
use Rattle.spec.specs.Gray.{gray, leftover, places, place_weight, same_row, same_sum, same_gray, same_leftover}
use Rattle.laws.proofs.Numbers.{row_fits}
use Rattle.laws.proofs.Slices.{Mixed, mixed_none, mixed_all, length_lent}
use Rattle.laws.proofs.Refusals.{grown_most}
use Rattle.laws.proofs.Rows.{length_rows, rows_more}
use Rattle.stream.specs.declared.calls.State.{State}
use Rattle.std.specs.Prelude.{Result, Ok, IsOk}
use Rattle.stream.specs.declared.calls.Stepped.{Stepped}
use Rattle.stream.specs.declared.calls.Refused.{Refused}
use Rattle.stream.specs.Calls.{called}
use Rattle.rows.specs.Streaming.{Streamed, picture_of}
use Rattle.rows.specs.Taking.{Taken}
use Rattle.rows.specs.Advance.{advance}
use Rattle.filter.specs.Axis.{axis_weights}
use Rattle.rows.proofs.Advancing.{next_ok, next_row}
use Rattle.rows.proofs.Taking.{long, taken_length, taken_at}
use Rattle.blur.specs.declared.rims.Band.{Band}
use Rattle.blur.specs.Rims.{Weighty, Dim, shaded}
use Rattle.blur.proofs.Weights.{across_long, down_long, row_weighty, row_dim, row_shaded}
use Rattle.blur.proofs.same.gray_rows.Goals as goal

-- a row more is written
next-row : {A : Type 0} (w j : ℕ) (front back l : List A) → Mixed (j * w + w) front back l → Mixed ((j + 1) * w) front back l
next-row w j front back l m = let e : j * w + w ≡ (j + 1) * w = omega (arith, suc-mul j w) in subst (λ n. Mixed n front back l) e m

-- no row is written
no-row : {A : Type 0} (w : ℕ) (front back : List A) → length front ≡ length back → Mixed (0 * w) front back back
no-row w front back e = subst (λ n. Mixed n front back back) (sym (zero-mul w)) (mixed_none front back e)

-- a state whose next grown row is the first that is taken, and the weights along a row and down a column
module _ (s : State) (across down pixels row cells : List ℕ) (t : Taken s (order (recipe s.filter).rows / 2) pixels row cells)
    (a : across ≡ axis_weights (recipe s.filter).rows s.width) (d : down ≡ axis_weights (recipe s.filter).columns s.height) where
  abbrev r : Recipe
  r = recipe s.filter

  abbrev p : Picture
  p = picture_of s pixels

  -- the first column that is taken
  abbrev left : ℕ
  left = (length row - s.width) / 2

  half : left ≡ order r.rows / 2
  unfolding full_width_of
  half = omega (arith, t.wide)

  -- the sizes of an accepted picture
  sizes : (left + s.width ≤ full_width_of r s.width) × (full_width_of r s.width ≤ 1279) × (s.height * s.width ≤ 1024 * 1024) × (0 < s.width) × (s.width ≤ 1024)
      × (s.width ≤ length row)
  unfolding full_width_of
  sizes =
      let k = t.picture in (
        omega (arith, half),
        (grown_most _ _ _ k.recipe k.sides).0,
        mul-le-mul k.sides.height.1 k.sides.width.1,
        k.sides.width.0,
        k.sides.width.1,
        omega (arith, t.wide),
      )

  -- there is a weight along the row for each column, and one down the columns for each row
  across-wide : length across ≡ s.width
  across-wide = across_long _ p t.picture _ _ a d

  down-high : length down ≡ s.height
  down-high = down_long _ p t.picture _ _ a d

  module _ (j : ℕ) (under : j < length down) where
    below : j < s.height
    below = omega (arith, under, down-high)

    -- the row lies inside an output of the picture's size
    inside : (size : ℕ) → size ≡ s.width * s.height → j * s.width + s.width ≤ size
    inside size e = omega (arith, e, mul_comm s.width s.height, row_fits s.width j s.height below)

    -- no weight of the row is 0 or too large
    weighty : Weighty across (get_or down j 0)
    weighty = row_weighty _ p t.picture _ _ a d _ below

    -- the next row is given
    given : Within largest_gray p → (at : State) (held : List ℕ) → Streamed s.filter p (same_row r j) at held → (old : List ℕ) → length old ≡ length row
        → (answer : Result Stepped Refused) (new new_cells : List ℕ) → called answer new new_cells ≡ advance at pixels old held → IsOk answer
    unfolding full_height_of same_row
    given bytes at held st old wide answer new new_cells e =
        next_ok s.filter s.width s.height pixels t.picture.size bytes _ at held st old (omega (arith, below)) (wide ∙ t.wide) answer new new_cells e

    -- the row that has come
    module _ (bytes : Within largest_gray p) (at : State) (held : List ℕ) (st : Streamed s.filter p (same_row r j) at held) (old : List ℕ) (wide : length old ≡ length row)
        (answer : Result Stepped Refused) (result : Stepped) (is : answer ≡ Ok result) (new new_cells : List ℕ)
        (e : called answer new new_cells ≡ advance at pixels old held) where
      came : Streamed s.filter p (same_row r j + 1) result.state new_cells × (new ≡ full_row r p (same_row r j))
      unfolding full_height_of same_row
      came =
          next_row s.filter s.width s.height pixels t.picture.size bytes _ at held st old (omega (arith, below)) (wide ∙ t.wide) result new new_cells
          (ap (λ a. called a new new_cells) (sym is) ∙ e)

      follows : Streamed s.filter p (same_row r (j + 1)) result.state new_cells
      unfolding same_row
      follows =
          let next : same_row r j + 1 ≡ same_row r (j + 1) = omega arith in subst (λ k. Streamed s.filter p k result.state new_cells) next came.0

      row-long : length new ≡ full_width_of r s.width
      row-long = long r p j new came.1

      -- the sums that are taken
      abbrev sums : List ℕ
      sums = take (left + s.width - left) (drop left new)

      many : left + s.width - left ≡ s.width
      many = omega arith

      sums-long : length sums ≡ s.width
      sums-long = taken_length r p j new came.1 left _ half many

      sums-are : (i : ℕ) → i < s.width → get_or sums i 0 ≡ same_sum r p i j
      sums-are = taken_at r p j new came.1 left _ half many

      -- a band with the row's weight
      module _ (band : Band) (same : band.across.now ≡ across) (own : band.down ≡ get_or down j 0) where
        band-weighty : Weighty band.across.now band.down
        band-weighty = subst (λ l. Weighty l band.down) (sym same) (subst (Weighty across) (sym own) weighty)

        band-dim : Dim largest_gray band.across.now band.down sums
        band-dim =
            subst (λ l. Dim largest_gray l band.down sums) (sym same)
            (subst (λ n. Dim largest_gray across n sums) (sym own) (row_dim r p t.picture across down a d j below sums sums-are largest_gray bytes))

        band-made : {A : Type 0} (f : ℕ → ℕ → A)
            → shaded f band.across.now band.down sums ≡ tab s.width (λ i. f (place_weight r p i j) (same_sum r p i j))
        band-made f = ap₂ (λ l n. shaded f l n sums) same own ∙ row_shaded r p t.picture across down a d j below sums sums-are f

pub overflow_sub-left : goal.overflow_sub-left
overflow_sub-left c = let q = c.requires in omega (arith, sizes _ _ _ _ _ _ q.0 q.1 q.2)

pub none-band-requires : goal.none-band-requires
none-band-requires c =
    let q = c.requires in
    let wide = across-wide _ _ _ _ _ _ q.0 q.1 q.2 in
    let s = sizes _ _ _ _ _ _ q.0 q.1 q.2 in
    (omega (arith, wide, s), omega (arith, wide, s))

pub loop-j-init : goal.loop-j-init
unfolding places same_row
loop-j-init c =
    let s = c.args.state in
    let r = recipe s.filter in
    let p = picture_of s c.args.pixels.now in
    let turned = mul_comm s.height s.width in
    let q = c.requires in (
      refl,
      c.none-band.ensures.0,
      c.none-band.ensures.1,
      subst (λ k. Streamed s.filter p k s c.args.cells.now) (sym (zero-add (order r.columns / 2))) q.0.streamed,
      no-row s.width _ c.args.out.now (length_rows s.width s.height (λ j i. same_gray r p i j) ∙ turned ∙ sym q.3),
      no-row s.width _ c.args.leftovers.now (length_rows s.width s.height (λ j i. same_leftover r p i j) ∙ turned ∙ sym q.4),
    )

pub unwrap-requires : goal.unwrap-requires
unwrap-requires c =
    let q = c.requires in
    let inv = c.loop-j.invariant in
    let bytes : Within largest_gray (picture_of c.args.state c.args.pixels.now) = λ k. omega (arith, c.type_inv.pixels k) in
    given _ _ _ _ _ _ q.0 q.1 q.2 c.loop-j.j c.loop-j-test.true bytes _ _ inv.3 c.loop-j.row inv.0 c.advance.result c.advance.new.out c.advance.new.cells c.advance.ensures

pub turn-requires : goal.turn-requires
turn-requires c =
    let q = c.requires in
    let inv = c.loop-j.invariant in
    (inv.1, subst (λ l. Weighty l (get_or c.args.inside.down.now c.loop-j.j 0)) (sym inv.2) (weighty _ _ _ _ _ _ q.0 q.1 q.2 c.loop-j.j c.loop-j-test.true))

pub slice_bounds-shade_row-end : goal.slice_bounds-shade_row-end
slice_bounds-shade_row-end c =
    let q = c.requires in
    let inv = c.loop-j.invariant in
    let bytes : Within largest_gray (picture_of c.args.state c.args.pixels.now) = λ k. omega (arith, c.type_inv.pixels k) in
    let come = row-long _ _ _ _ _ _ q.0 q.1 q.2 c.loop-j.j c.loop-j-test.true bytes _ _ inv.3 c.loop-j.row inv.0 c.advance.result c.unwrap.result c.unwrap.ensures c.advance.new.out c.advance.new.cells c.advance.ensures in
    let fits : (length c.args.row.now - c.args.state.width) / 2 + c.args.state.width ≤ length c.advance.new.out = omega (arith, come, sizes _ _ _ _ _ _ q.0 q.1 q.2) in
    fits

pub slice_bounds-shade_row-end-in-loop-j : goal.slice_bounds-shade_row-end-in-loop-j
slice_bounds-shade_row-end-in-loop-j c =
    let q = c.requires in
    inside _ _ _ _ _ _ q.0 q.1 q.2 c.loop-j.j c.loop-j-test.true (length c.loop-j.out) (c.loop-j.auto.out ∙ q.3)

pub slice_bounds-shade_row-end-in-loop-j-2 : goal.slice_bounds-shade_row-end-in-loop-j-2
slice_bounds-shade_row-end-in-loop-j-2 c =
    let q = c.requires in
    inside _ _ _ _ _ _ q.0 q.1 q.2 c.loop-j.j c.loop-j-test.true (length c.loop-j.leftovers) (c.loop-j.auto.leftovers ∙ q.4)

pub shade_row-requires : goal.shade_row-requires
shade_row-requires c =
    let q = c.requires in
    let inv = c.loop-j.invariant in
    let turned = c.turn.ensures in
    let band = c.turn.new.self in
    let s = c.args.state in
    let j = c.loop-j.j in
    let under = c.loop-j-test.true in
    let bytes : Within largest_gray (picture_of s c.args.pixels.now) = λ k. omega (arith, c.type_inv.pixels k) in
    let same = turned.2 ∙ inv.2 in
    let wide : length band.across.now ≡ s.width = ap length same ∙ across-wide _ _ _ _ _ _ q.0 q.1 q.2 in (
      turned.0,
      band-weighty _ _ _ _ _ _ q.0 q.1 q.2 j under bytes _ _ inv.3 c.loop-j.row inv.0 c.advance.result c.unwrap.result c.unwrap.ensures c.advance.new.out c.advance.new.cells c.advance.ensures band same turned.1,
      band-dim _ _ _ _ _ _ q.0 q.1 q.2 j under bytes _ _ inv.3 c.loop-j.row inv.0 c.advance.result c.unwrap.result c.unwrap.ensures c.advance.new.out c.advance.new.cells c.advance.ensures band same turned.1,
      sums-long _ _ _ _ _ _ q.0 q.1 q.2 j under bytes _ _ inv.3 c.loop-j.row inv.0 c.advance.result c.unwrap.result c.unwrap.ensures c.advance.new.out c.advance.new.cells c.advance.ensures ∙ sym wide,
      length_lent (j * s.width) s.width c.loop-j.out (inside _ _ _ _ _ _ q.0 q.1 q.2 j under (length c.loop-j.out) (c.loop-j.auto.out ∙ q.3)) ∙ sym wide,
      length_lent (j * s.width) s.width c.loop-j.leftovers (inside _ _ _ _ _ _ q.0 q.1 q.2 j under (length c.loop-j.leftovers) (c.loop-j.auto.leftovers ∙ q.4)) ∙ sym wide,
    )

pub loop-j-preserved : goal.loop-j-preserved
unfolding places same_gray same_leftover
loop-j-preserved c =
    let q = c.requires in
    let inv = c.loop-j.invariant in
    let turned = c.turn.ensures in
    let made = c.shade_row.ensures in
    let s = c.args.state in
    let p = picture_of s c.args.pixels.now in
    let r = recipe s.filter in
    let w = s.width in
    let j = c.loop-j.j in
    let under = c.loop-j-test.true in
    let low = below _ _ _ _ _ _ q.0 q.1 q.2 j under in
    let bytes : Within largest_gray p = λ k. omega (arith, c.type_inv.pixels k) in
    let same = turned.2 ∙ inv.2 in
    let grays-made =
    made.0
    ∙ band-made _ _ _ _ _ _ q.0 q.1 q.2 j under bytes _ _ inv.3 c.loop-j.row inv.0 c.advance.result c.unwrap.result c.unwrap.ensures c.advance.new.out c.advance.new.cells c.advance.ensures c.turn.new.self same turned.1 gray in
    let leftovers-made =
    made.1
    ∙ band-made _ _ _ _ _ _ q.0 q.1 q.2 j under bytes _ _ inv.3 c.loop-j.row inv.0 c.advance.result c.unwrap.result c.unwrap.ensures c.advance.new.out c.advance.new.cells c.advance.ensures c.turn.new.self same turned.1 leftover in
    let within = inside _ _ _ _ _ _ q.0 q.1 q.2 j under in (
      row-long _ _ _ _ _ _ q.0 q.1 q.2 j under bytes _ _ inv.3 c.loop-j.row inv.0 c.advance.result c.unwrap.result c.unwrap.ensures c.advance.new.out c.advance.new.cells c.advance.ensures ∙ sym q.0.wide,
      turned.0,
      same,
      follows _ _ _ _ _ _ q.0 q.1 q.2 j under bytes _ _ inv.3 c.loop-j.row inv.0 c.advance.result c.unwrap.result c.unwrap.ensures c.advance.new.out c.advance.new.cells c.advance.ensures,
      next-row w j _ _ _ (rows_more w s.height (λ j i. same_gray r p i j) 0 j (j * w) _ inv.4 refl low (within (length c.args.out.now) q.3) grays-made),
      next-row w j _ _ _ (rows_more w s.height (λ j i. same_leftover r p i j) (pos 0) j (j * w) _ inv.5 refl low (within (length c.args.leftovers.now) q.4) leftovers-made),
    )

pub shape_of-row : goal.shape_of-row
shape_of-row c = c.loop-j.invariant.0

pub returns : goal.returns
returns c =
    let q = c.requires in
    let s = c.args.state in
    let ended : length c.args.inside.down.now ≤ c.loop-j.j = search rules in
    let done : s.width * s.height ≤ c.loop-j.j * s.width =
    subst (λ n. n ≤ c.loop-j.j * s.width) (mul_comm s.height s.width)
    (mul-le-mul_right s.width (subst (λ n. n ≤ c.loop-j.j) (down-high _ _ _ _ _ _ q.0 q.1 q.2) ended)) in
    (mixed_all c.loop-j.invariant.4 (omega (arith, done, q.3)), mixed_all c.loop-j.invariant.5 (omega (arith, done, q.4)))
