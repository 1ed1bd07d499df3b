-- `blur::same::run` meets its contract: the one pass is started and the grown rows above are passed over, the inside weights along both axes are
-- filled in, and then come the greys and leftovers.
-- Assumes nothing.
use mathlib.Core.Path.{◌≡◌, sym, ap, ◌∙◌}
use mathlib.Core.List.{List, ◌++◌}
use Prim.Native.Nat.{ℕ, ◌-◌, ◌*◌, ◌/◌, ◌≤◌, ◌<◌}
use native.Mathlib.Omega.{arith}
use lib.ListN.{length, take, drop, replicate, length-replicate}
use lib.Seq.{take_at, length-take-le}
use Rattle.spec.specs.declared.Filter.{Filter}
use Rattle.spec.specs.Recipe.{Recipe, widths, recipe, order}
use Rattle.spec.specs.Picture.{Sides, picture, pictured, full_sides, full_width_of, full_height_of}
use Rattle.spec.specs.Refusals.{first, picture_checks, full_size}
use Rattle.spec.specs.Gray.{places, same_gray, same_leftover}
use Rattle.laws.proofs.Refusals.{Accepted, AcceptedPicture, is_accepted_picture, grown_most}
use Rattle.laws.proofs.Alone.{Light, rows_light, columns_light}
use Rattle.stream.specs.declared.calls.State.{State}
use Rattle.rows.specs.Streaming.{picture_of}
use Rattle.rows.proofs.Taking.{is_taken, start_accepted}
use Rattle.filter.specs.Axis.{axis_weights, AxisFilled}
use Rattle.filter.specs.Answers.{sides}
use Rattle.blur.proofs.Weights.{length_axis, axis_number, axis_filled}
use Rattle.blur.proofs.Parts.{is_accepted}
use Rattle.blur.proofs.same.run.Goals as goal

-- the weights along a row, and those down a column
rows_light_of : (f : Filter) → Accepted (recipe f) → Light (widths f.rows)
unfolding recipe
rows_light_of f k = rows_light (recipe f) k

columns_light_of : (f : Filter) → Accepted (recipe f) → Light (widths f.columns)
unfolding recipe
columns_light_of f k = columns_light (recipe f) k

-- the weights that are filled in along an axis, in front of the slice that is lent for them
module _ (ns : List ℕ) (light : Light ns) (n : ℕ) (side : (0 < n) × (n ≤ 1024)) (number : ℕ) (new : List ℕ)
    (filled : AxisFilled ns n (take n (replicate 1024 0)) number new) where
  abbrev after : List ℕ
  after = new ++ drop n (replicate 1024 0)

  lent-long : length (take n (replicate {A = ℕ} 1024 0)) ≡ n
  lent-long = length-take-le n (replicate {A = ℕ} 1024 0) (omega (arith, side.1, length-replicate {A = ℕ} 1024 0))

  weights-none : number ≡ 0
  weights-none = axis_number ns light n side _ _ number lent-long filled

  weights-new : new ≡ axis_weights ns n
  weights-new = axis_filled ns light n side _ _ number lent-long filled

  weights-filled : take n after ≡ axis_weights ns n
  weights-filled = take_at new _ n (ap length weights-new ∙ length_axis ns n) ∙ weights-new

-- an accepted recipe and picture, and the grown sides
module _ (r : Recipe) (w h : ℕ) (pixels : List ℕ) (none : first (picture_checks r (picture w h pixels)) ≡ 0) (full : Sides) (is : full ≡ full_sides r w h) where
  accepted : AcceptedPicture r (picture w h pixels)
  accepted = is_accepted_picture r (picture w h pixels) none

  wide : full.width ≡ full_width_of r w
  unfolding full_sides
  wide = ap (λ (s : Sides). s.width) is

  narrow : full.width ≤ 1279
  narrow = omega (arith, wide, (grown_most r w h accepted.recipe accepted.sides).0)

  high : full.height ≡ full_height_of r h
  unfolding full_sides
  high = ap (λ (s : Sides). s.height) is

  tall : h ≤ full.height
  unfolding full_height_of
  tall = omega (arith, high)

  -- the grown rows above the first that is taken
  above-half : (full.height - h) / 2 ≡ order r.columns / 2
  unfolding full_height_of
  above-half = omega (arith, high)

  above-due : (full.height - h) / 2 ≤ full_height_of r h
  above-due = omega (arith, high)

  row-long : length (take full.width (replicate {A = ℕ} 1279 0)) ≡ full.width
  row-long = length-take-le full.width (replicate {A = ℕ} 1279 0) (omega (arith, narrow, length-replicate {A = ℕ} 1279 0))

pub overflow_sub-above : goal.overflow_sub-above
overflow_sub-above c = tall _ _ _ _ c.requires.0 _ c.requires.1

pub slice_bounds-row-end : goal.slice_bounds-row-end
slice_bounds-row-end c = narrow _ _ _ _ c.requires.0 _ c.requires.1

pub slice_bounds-row-end-2 : goal.slice_bounds-row-end-2
slice_bounds-row-end-2 c = sym (row-long _ _ _ _ c.requires.0 _ c.requires.1)

pub begin-state-requires : goal.begin-state-requires
begin-state-requires c =
    let q = c.requires in
    let image = c.args.image in
    let r = recipe c.args.filter in
    let enough : 2 * full_size r (pictured image) ≤ length c.args.cells.now = omega (arith, q.4) in (
      start_accepted r (pictured image) (length c.args.cells.now) q.0 enough,
      (accepted r image.width image.height image.pixels.now q.0 (sides c.args.full) q.1).size,
      above-due r image.width image.height image.pixels.now q.0 (sides c.args.full) q.1,
      row-long r image.width image.height image.pixels.now q.0 (sides c.args.full) q.1 ∙ wide r image.width image.height image.pixels.now q.0 (sides c.args.full) q.1,
    )

pub unwrap-requires : goal.unwrap-requires
unfolding recipe
unwrap-requires c =
    let k = is_accepted_picture (recipe c.args.filter) (pictured c.args.image) c.requires.0 in
    is_accepted _ (weights-none _ (rows_light_of c.args.filter k.recipe) _ k.sides.width _ _ c.axis_weights.ensures)

pub unwrap-requires-2 : goal.unwrap-requires-2
unfolding recipe
unwrap-requires-2 c =
    let k = is_accepted_picture (recipe c.args.filter) (pictured c.args.image) c.requires.0 in
    is_accepted _ (weights-none _ (columns_light_of c.args.filter k.recipe) _ k.sides.height _ _ c.axis_weights-2.ensures)

pub gray_rows-requires : goal.gray_rows-requires
unfolding recipe
gray_rows-requires c =
    let q = c.requires in
    let image = c.args.image in
    let f = c.args.filter in
    let k = accepted (recipe f) image.width image.height image.pixels.now q.0 (sides c.args.full) q.1 in
    let st = c.begin-state.ensures in
    let is = sym st.is in
    let size = ap (λ (s : State). s.width * s.height) is in
    let long =
    c.begin-state.auto.row
    ∙ row-long (recipe f) image.width image.height image.pixels.now q.0 (sides c.args.full) q.1
    ∙ wide (recipe f) image.width image.height image.pixels.now q.0 (sides c.args.full) q.1 in (
      is_taken f _ _ _ _ _ _ st _ _ k
          (above-half (recipe f) image.width image.height image.pixels.now q.0 (sides c.args.full) q.1)
          (ap (λ (s : State). order (recipe s.filter).rows / 2) st.is)
          long,
      weights-filled _ (rows_light_of f k.recipe) _ k.sides.width _ _ c.axis_weights.ensures ∙ ap (λ (s : State). axis_weights (recipe s.filter).rows s.width) is,
      weights-filled _ (columns_light_of f k.recipe) _ k.sides.height _ _ c.axis_weights-2.ensures ∙ ap (λ (s : State). axis_weights (recipe s.filter).columns s.height) is,
      q.2 ∙ size,
      q.3 ∙ size,
    )

pub returns : goal.returns
returns c =
    let pixels = c.args.image.pixels.now in
    let made = c.gray_rows.ensures in
    let is = c.begin-state.ensures.is in (
      made.0 ∙ ap (λ (s : State). places (picture_of s pixels) (same_gray (recipe s.filter) (picture_of s pixels))) is,
      made.1 ∙ ap (λ (s : State). places (picture_of s pixels) (same_leftover (recipe s.filter) (picture_of s pixels))) is,
    )
