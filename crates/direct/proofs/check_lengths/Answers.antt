-- What `search` does not find of `check_lengths`.
use Rattle.std.proofs.Common.{◌≤◌, arith}
use native.Mathlib.Nat.{mul-le-mul}
use Rattle.std.proofs.lemmas.Result.{err_from_is_err_and}
use Rattle.spec.specs.Recipe.{recipe}
use Rattle.spec.specs.Picture.{pictured}
use Rattle.spec.specs.Refusals.{number}
use Rattle.direct.proofs.Sizing.{is_grown}
use Rattle.direct.proofs.Forming.{sides_refused, lengths_refused, lengths_accepted}
use Rattle.direct.proofs.check_lengths.Goals as goal
use Rattle.direct.proofs.check_lengths.Goals.{then-rows-sides-via-then-rows-sides, then-rows-sides-via-else-rows-sides+then-columns-sides, then-rows-sides-via-else-rows-sides+else-columns-sides+then-out-sides}

pub returns-in_err-sides : goal.returns-in_err-sides
returns-in_err-sides c =
    let p = err_from_is_err_and c.from_residual.result c.from_residual.ensures.1 in
    rw (p.1, p.2) (sides_refused _ _ _ _ _ _ c.in_err-sides.ensures)

pub overflow_sub-sides : goal.overflow_sub-sides
overflow_sub-sides c = omega (arith, (is_grown (recipe c.args.filter) (pictured c.args.image) _ c.in_ok-sides.ensures).width)

pub overflow_add-sides : goal.overflow_add-sides
overflow_add-sides c = let g = is_grown (recipe c.args.filter) (pictured c.args.image) _ c.in_ok-sides.ensures in omega (arith, g.width, g.picture.recipe.row_reach)

pub overflow_sub-sides-else-rows-sides : goal.overflow_sub-sides-else-rows-sides
overflow_sub-sides-else-rows-sides c = omega (arith, (is_grown (recipe c.args.filter) (pictured c.args.image) _ c.in_ok-sides.ensures).height)

pub overflow_add-sides-else-rows-sides : goal.overflow_add-sides-else-rows-sides
overflow_add-sides-else-rows-sides c = let g = is_grown (recipe c.args.filter) (pictured c.args.image) _ c.in_ok-sides.ensures in omega (arith, g.height, g.picture.recipe.column_reach)

pub overflow_mul-sides : goal.overflow_mul-sides
overflow_mul-sides c =
    let g = is_grown (recipe c.args.filter) (pictured c.args.image) _ c.in_ok-sides.ensures in
    let w : c.in_ok-sides.sides.width ≤ 1279 = omega (arith, g.width, g.picture.recipe.row_reach, g.picture.sides.width) in
    let h : c.in_ok-sides.sides.height ≤ 1279 = omega (arith, g.height, g.picture.recipe.column_reach, g.picture.sides.height) in
    omega (arith, mul-le-mul w h)

pub returns-then-rows-sides : goal.returns-then-rows-sides
unfolding number
returns-then-rows-sides c =
    lengths_refused _ _ _ _ _ _ (is_grown (recipe c.args.filter) (pictured c.args.image) _ c.in_ok-sides.ensures)
    (λ h. elim c.then-rows-sides.branch [
      | then-rows-sides-via-then-rows-sides w ↦ w.if-rows-sides.true h.0
      | then-rows-sides-via-else-rows-sides+then-columns-sides w ↦ w.if-columns-sides.true h.1
      | then-rows-sides-via-else-rows-sides+else-columns-sides+then-out-sides w ↦ w.if-out-sides.true h.2
    ])

pub returns : goal.returns
returns c = lengths_accepted _ _ _ _ _ _ (is_grown (recipe c.args.filter) (pictured c.args.image) _ c.in_ok-sides.ensures) (c.if-rows-sides.false, c.if-columns-sides.false, c.if-out-sides.false)
