-- `passes::checked_size` meets its contract: the answer of `filter::full_size`, and then check by check.
-- Assumes nothing.
use mathlib.Core.Path.{◌≡◌, sym, ap, ap₂, ◌∙◌}
use Prim.Native.Nat.{◌*◌, ◌≤◌}
use native.Mathlib.Nat.{le_trans, le_of_eq, mul-le-mul}
use native.Mathlib.Omega.{arith}
use Rattle.std.specs.Prelude.{Ok}
use Rattle.std.proofs.lemmas.Result.{err_from_is_err_and}
use Rattle.spec.specs.declared.refusal.Refusal.TheVariants.{OtherPixels, OtherOutput, TooFewCells}
use Rattle.spec.specs.Recipe.{Recipe, recipe}
use Rattle.spec.specs.Picture.{Sides, Picture, pictured, full_sides}
use Rattle.spec.specs.Refusals.{first, answer, number, size_checks, full_size}
use Rattle.laws.proofs.Refusals.{is_sized, grown_most}
use Rattle.laws.proofs.Results.{number_not_zero, told_err, told_ok, err_told, ok_told}
use Rattle.filter.specs.declared.sizes.Sides.{Sides as Came}
use Rattle.filter.specs.Answers.{sides, size_told}
use Rattle.passes.proofs.Answering.{asked_sides, asked_pixels, asked_output, asked_cells, asked_all}
use Rattle.passes.proofs.checked_size.Goals as goal

pub returns-in_err-sides : goal.returns-in_err-sides
returns-in_err-sides c =
    let args = c.args in
    let p = err_from_is_err_and c.from_residual.result c.from_residual.ensures.1 in
    let e = err_told sides _ _ _ c.in_err-sides.ensures in
    rw (p.1, p.2) (told_err sides _ _ _ (asked_sides (recipe args.filter) (pictured args.image) args.out args.cells _ e (number_not_zero _)))

-- what is known of the sides that came back
module _ (r : Recipe) (p : Picture) (came : Came) (told : size_told (Ok came) ≡ answer (size_checks r p.width p.height) (full_sides r p.width p.height)) where
  -- none of 1 to 5 holds
  none : first (size_checks r p.width p.height) ≡ 0
  none = (ok_told sides _ _ came told).0

  -- and these are the grown sides
  grown : sides came ≡ full_sides r p.width p.height
  grown = (ok_told sides _ _ came told).1

  size_is : came.width * came.height ≡ full_size r p
  unfolding full_sides full_size
  size_is = ap₂ ◌*◌ (ap (λ (s : Sides). s.width) grown) (ap (λ (s : Sides). s.height) grown)

  few : came.width * came.height ≤ 1279 * 1279
  unfolding full_sides
  few =
      let k = is_sized r p.width p.height none in
      let most = grown_most r p.width p.height k.0 k.1 in
      mul-le-mul (le_trans (le_of_eq (ap (λ (s : Sides). s.width) grown)) most.0) (le_trans (le_of_eq (ap (λ (s : Sides). s.height) grown)) most.1)

  few_pixels : p.width * p.height ≤ 1024 * 1024
  few_pixels =
      let s = (is_sized r p.width p.height none).1 in
      mul-le-mul s.width.1 s.height.1

pub overflow_mul-size : goal.overflow_mul-size
overflow_mul-size c = omega (arith, few (recipe c.args.filter) (pictured c.args.image) _ c.in_ok-sides.ensures)

pub overflow_mul-image : goal.overflow_mul-image
overflow_mul-image c = omega (arith, few_pixels (recipe c.args.filter) (pictured c.args.image) _ c.in_ok-sides.ensures)

pub returns-then-image : goal.returns-then-image
unfolding number
returns-then-image c =
    let r = recipe c.args.filter in
    let p = pictured c.args.image in
    told_err sides _ _ OtherPixels (asked_pixels r p _ _ (none r p _ c.in_ok-sides.ensures) c.if-image.true)

pub returns-then-out-size : goal.returns-then-out-size
unfolding number
returns-then-out-size c =
    let r = recipe c.args.filter in
    let p = pictured c.args.image in
    let told = c.in_ok-sides.ensures in
    told_err sides _ _ OtherOutput
    (asked_output r p _ _ (none r p _ told) c.if-image.false (λ e. c.if-out-size.true (e ∙ sym (size_is r p _ told))))

pub returns-then-cells-size : goal.returns-then-cells-size
unfolding number
returns-then-cells-size c =
    let r = recipe c.args.filter in
    let p = pictured c.args.image in
    let told = c.in_ok-sides.ensures in
    told_err sides _ _ TooFewCells
    (asked_cells r p _ _ (none r p _ told) c.if-image.false (c.if-out-size.false ∙ size_is r p _ told)
    (le_trans c.if-cells-size.true (le_of_eq (size_is r p _ told))))

pub returns-else-cells-size : goal.returns-else-cells-size
returns-else-cells-size c =
    let r = recipe c.args.filter in
    let p = pictured c.args.image in
    let told = c.in_ok-sides.ensures in
    told_ok sides _ _ c.in_ok-sides.sides
    (asked_all r p _ _ (none r p _ told) c.if-image.false (c.if-out-size.false ∙ size_is r p _ told)
    (le_trans (le_of_eq (sym (size_is r p _ told))) c.if-cells-size.false))
    (grown r p _ told)
