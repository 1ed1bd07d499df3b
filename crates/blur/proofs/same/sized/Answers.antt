-- `blur::same::sized` meets its contract, check by check, and then by that of `run`.
-- Assumes nothing.
use mathlib.Core.Path.{◌≡◌, ap, ◌∙◌}
use Prim.Native.Nat.{◌*◌, ◌≤◌, ◌<◌}
use native.Mathlib.Nat.{mul-le-mul}
use native.Mathlib.Omega.{arith}
use borrow.Author.Rules.{rules}
use lib.ListN.{length}
use lib.Seq.{length-take-le}
use Rattle.spec.specs.Recipe.{Recipe, recipe}
use Rattle.spec.specs.Picture.{Sides, Picture, pictured, full_sides}
use Rattle.spec.specs.Refusals.{first, number, size_checks, full_size}
use Rattle.laws.proofs.Refusals.{Sized, is_sized, grown_most, picture_passed}
use Rattle.laws.proofs.Slices.{front_lent}
use Rattle.filter.specs.Answers.{sides}
use Rattle.blur.proofs.Answering.{blur_pixels, blur_unlike, blur_cells, blur_none, blur_not, blur_all}
use Rattle.blur.proofs.same.sized.Goals as goal

-- an accepted recipe and the sides of a picture, and the work cells that are needed
module _ (r : Recipe) (p : Picture) (none : first (size_checks r p.width p.height) ≡ 0) (full : Sides) (is : full ≡ full_sides r p.width p.height) where
  sized : Sized p.width p.height
  sized = (is_sized r p.width p.height none).1

  needed_is : 2 * (full.width * full.height) ≡ 2 * full_size r p
  unfolding full_sides full_size
  needed_is = ap (λ (s : Sides). 2 * (s.width * s.height)) is

  few : full.width * full.height ≤ 1279 * 1279
  unfolding full_sides
  few =
      let most = grown_most r p.width p.height (is_sized r p.width p.height none).0 sized in
      let narrow : full.width ≤ 1279 = omega (arith, ap (λ (s : Sides). s.width) is, most.0) in
      let short : full.height ≤ 1279 = omega (arith, ap (λ (s : Sides). s.height) is, most.1) in
      mul-le-mul narrow short

pub overflow_mul-size : goal.overflow_mul-size
overflow_mul-size c =
    let s = sized _ (pictured c.args.image) c.requires.0 (sides c.args.full) c.requires.1 in
    omega (arith, mul-le-mul s.width.1 s.height.1)

pub returns-then-image-size : goal.returns-then-image-size
unfolding number
returns-then-image-size c =
    blur_not _ (pictured c.args.image) _ _ _ 6 (blur_pixels _ (pictured c.args.image) _ _ _ c.requires.0 c.if-image-size.true) (λ e. omega arith)

pub returns-then-out-size : goal.returns-then-out-size
unfolding number
returns-then-out-size c =
    blur_not _ (pictured c.args.image) _ _ _ 7
    (blur_unlike _ (pictured c.args.image) _ _ _ c.requires.0 c.if-image-size.false c.then-out-size.either) (λ e. omega arith)

pub overflow_mul-needed : goal.overflow_mul-needed
overflow_mul-needed c = omega (arith, few _ (pictured c.args.image) c.requires.0 (sides c.args.full) c.requires.1)

pub overflow_mul-needed-2 : goal.overflow_mul-needed-2
overflow_mul-needed-2 c = omega (arith, few _ (pictured c.args.image) c.requires.0 (sides c.args.full) c.requires.1)

pub returns-then-cells-needed : goal.returns-then-cells-needed
unfolding number
returns-then-cells-needed c =
    let p = pictured c.args.image in
    let is = needed_is _ p c.requires.0 (sides c.args.full) c.requires.1 in
    let too_few : length c.args.cells.now < 2 * full_size (recipe c.args.filter) p = omega (arith, c.if-cells-needed.true, is) in
    blur_not _ p _ _ _ 8 (blur_cells _ p _ _ _ c.requires.0 c.if-image-size.false c.if-out-size.false c.if-leftovers-size.false too_few) (λ e. omega arith)

pub run-requires : goal.run-requires
run-requires c =
    let p = pictured c.args.image in
    let is = needed_is _ p c.requires.0 (sides c.args.full) c.requires.1 in (
      picture_passed _ p c.requires.0 c.if-image-size.false,
      c.requires.1,
      c.if-out-size.false,
      c.if-leftovers-size.false,
      length-take-le _ c.args.cells.now c.if-cells-needed.false ∙ is,
    )

pub returns : goal.returns
returns c =
    let run = c.run in
    let p = pictured c.args.image in
    let is = needed_is _ p c.requires.0 (sides c.args.full) c.requires.1 in
    blur_all _ p _ _ _
    (blur_none _ p _ _ _ c.requires.0 c.if-image-size.false c.if-out-size.false c.if-leftovers-size.false (omega (arith, c.if-cells-needed.false, is)))
    _ _ _ run.ensures.0 run.ensures.1
    (front_lent _ _ is run.new.cells c.args.cells.now (run.auto.cells ∙ length-take-le _ c.args.cells.now c.if-cells-needed.false))
    (search rules)
