-- `filter::sizes::full_size` meets its contract: the recipe's checks first, then 5, then the sides and the reaches added.
-- Assumes nothing.
use mathlib.Core.Path.{◌≡◌, sym, ap₂, ◌∙◌}
use mathlib.Core.Bool.{false}
use Prim.Native.Nat.{ℕ, ◌+◌, ◌<◌, ◌≤◌}
use native.Mathlib.Omega.{arith}
use Rattle.std.proofs.lemmas.Result.{err_from_is_err_and}
use Rattle.spec.specs.declared.refusal.Refusal.TheVariants.{BadSides}
use Rattle.spec.specs.Picture.{Sides, full_sides, full_width_of, full_height_of}
use Rattle.spec.specs.Recipe.{recipe}
use Rattle.spec.specs.Refusals.{bad_side, bad_sides, size_checks, number}
use Rattle.laws.proofs.Numbers.{neither}
use Rattle.laws.proofs.Refusals.{good_side}
use Rattle.laws.proofs.Results.{told_err}
use Rattle.filter.specs.Answers.{sides}
use Rattle.filter.proofs.Measuring.{known, measured_refused, told_then, told_accepted}
use Rattle.filter.proofs.sizes.full_size.Goals as goal

pub returns-in_err-m : goal.returns-in_err-m
unfolding size_checks
returns-in_err-m c =
    let p = err_from_is_err_and c.from_residual.result c.from_residual.ensures.1 in
    rw (p.1, p.2) (told_err sides _ _ _ (measured_refused (recipe c.args.filter) _ c.in_err-m.ensures _))

pub returns-then-bad_sides : goal.returns-then-bad_sides
unfolding size_checks number
returns-then-bad_sides c = told_then _ _ c.in_ok-m.ensures sides _ BadSides _ (sym c.bad_sides.ensures ∙ c.if-bad_sides.true)

-- two sides of which neither is refused
good_sides : (w h : ℕ) → bad_sides w h ≡ false → (0 < w) × (w ≤ 1024) × (0 < h) × (h ≤ 1024)
unfolding bad_sides
good_sides w h e =
    let k = neither (bad_side w) (bad_side h) e in
    let a = good_side w k.0 in
    let b = good_side h k.1 in
    (a.0, a.1, b.0, b.1)

pub overflow_add-result : goal.overflow_add-result
overflow_add-result c =
    let k = known _ _ c.in_ok-m.ensures in
    omega (arith, k.row_reach, k.accepted.row_reach, good_sides _ _ (sym c.bad_sides.ensures ∙ c.if-bad_sides.false))

pub overflow_add-result-2 : goal.overflow_add-result-2
overflow_add-result-2 c =
    let k = known _ _ c.in_ok-m.ensures in
    omega (arith, k.column_reach, k.accepted.column_reach, good_sides _ _ (sym c.bad_sides.ensures ∙ c.if-bad_sides.false))

pub returns : goal.returns
unfolding size_checks full_sides full_width_of full_height_of
returns c =
    let w = c.args.width in
    let h = c.args.height in
    let k = known _ _ c.in_ok-m.ensures in
    let grown : ℕ → ℕ → Sides = λ a b. record { width = w + a; height = h + b } in
    told_accepted _ _ c.in_ok-m.ensures sides _ 5 _ _ (sym c.bad_sides.ensures ∙ c.if-bad_sides.false)
    (ap₂ grown k.row_reach k.column_reach)
