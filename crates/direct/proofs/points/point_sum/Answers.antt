-- What `search` does not find of `points::point_sum`: the refusals first; then the sum and the weight at the grown place that the same-size
-- blur takes.
use Rattle.std.proofs.Common.{arith}
use Rattle.std.proofs.lemmas.Result.{err_from_is_err_and}
use lib.ListN.{length-take}
use Rattle.spec.specs.Recipe.{recipe}
use Rattle.spec.specs.Picture.{pictured}
use Rattle.direct.proofs.Reading.{is_placed, place_refused, told_same}
use Rattle.direct.proofs.points.point_sum.Goals as goal

pub returns-in_err-sides : goal.returns-in_err-sides
returns-in_err-sides c =
    let p = err_from_is_err_and c.from_residual.result c.from_residual.ensures.1 in
    rw (p.1, p.2) (place_refused _ _ _ _ _ c.in_err-sides.ensures)

pub overflow_sub-rx : goal.overflow_sub-rx
overflow_sub-rx c = omega (arith, (is_placed (recipe c.args.filter) (pictured c.args.image) _ _ _ c.in_ok-sides.ensures).width)

pub overflow_sub-ry : goal.overflow_sub-ry
overflow_sub-ry c = omega (arith, (is_placed (recipe c.args.filter) (pictured c.args.image) _ _ _ c.in_ok-sides.ensures).height)

pub overflow_add-row_kernel : goal.overflow_add-row_kernel
overflow_add-row_kernel c = let g = is_placed (recipe c.args.filter) (pictured c.args.image) _ _ _ c.in_ok-sides.ensures in omega (arith, g.width, g.picture.recipe.row_reach)

pub overflow_add-column_kernel : goal.overflow_add-column_kernel
overflow_add-column_kernel c = let g = is_placed (recipe c.args.filter) (pictured c.args.image) _ _ _ c.in_ok-sides.ensures in omega (arith, g.height, g.picture.recipe.column_reach)

pub overflow_add-column : goal.overflow_add-column
overflow_add-column c = let g = is_placed (recipe c.args.filter) (pictured c.args.image) _ _ _ c.in_ok-sides.ensures in omega (arith, g.width, g.picture.recipe.row_reach, g.column, g.picture.sides.width)

pub overflow_add-row : goal.overflow_add-row
overflow_add-row c = let g = is_placed (recipe c.args.filter) (pictured c.args.image) _ _ _ c.in_ok-sides.ensures in omega (arith, g.height, g.picture.recipe.column_reach, g.row, g.picture.sides.height)

pub slice_bounds-row_kernel-end : goal.slice_bounds-row_kernel-end
slice_bounds-row_kernel-end c = let g = is_placed (recipe c.args.filter) (pictured c.args.image) _ _ _ c.in_ok-sides.ensures in omega (arith, g.width, g.picture.recipe.row_reach)

pub slice_bounds-window_sum-end : goal.slice_bounds-window_sum-end
slice_bounds-window_sum-end c = let g = is_placed (recipe c.args.filter) (pictured c.args.image) _ _ _ c.in_ok-sides.ensures in simp length-take (omega (arith, g.width, g.picture.recipe.row_reach))

pub slice_bounds-column_kernel-end : goal.slice_bounds-column_kernel-end
slice_bounds-column_kernel-end c = let g = is_placed (recipe c.args.filter) (pictured c.args.image) _ _ _ c.in_ok-sides.ensures in omega (arith, g.height, g.picture.recipe.column_reach)

pub slice_bounds-window_sum-end-2 : goal.slice_bounds-window_sum-end-2
slice_bounds-window_sum-end-2 c = let g = is_placed (recipe c.args.filter) (pictured c.args.image) _ _ _ c.in_ok-sides.ensures in simp length-take (omega (arith, g.height, g.picture.recipe.column_reach))

pub window_sum-requires-clause-accepted_picture : goal.window_sum-requires-clause-accepted_picture
window_sum-requires-clause-accepted_picture c = (is_placed (recipe c.args.filter) (pictured c.args.image) _ _ _ c.in_ok-sides.ensures).picture

pub window_sum-requires-clause-rows_len : goal.window_sum-requires-clause-rows_len
window_sum-requires-clause-rows_len c = let g = is_placed (recipe c.args.filter) (pictured c.args.image) _ _ _ c.in_ok-sides.ensures in simp length-take (omega (arith, g.width, g.picture.recipe.row_reach))

pub window_sum-requires-clause-columns_len : goal.window_sum-requires-clause-columns_len
window_sum-requires-clause-columns_len c = let g = is_placed (recipe c.args.filter) (pictured c.args.image) _ _ _ c.in_ok-sides.ensures in simp length-take (omega (arith, g.height, g.picture.recipe.column_reach))

pub window_sum-requires-clause-i_bound : goal.window_sum-requires-clause-i_bound
window_sum-requires-clause-i_bound c = let g = is_placed (recipe c.args.filter) (pictured c.args.image) _ _ _ c.in_ok-sides.ensures in omega (arith, g.width, g.column)

pub window_sum-requires-clause-j_bound : goal.window_sum-requires-clause-j_bound
window_sum-requires-clause-j_bound c = let g = is_placed (recipe c.args.filter) (pictured c.args.image) _ _ _ c.in_ok-sides.ensures in omega (arith, g.height, g.row)

pub returns : goal.returns
returns c =
    let g = is_placed (recipe c.args.filter) (pictured c.args.image) _ _ _ c.in_ok-sides.ensures in
    rw c.window_sum.ensures (told_same _ _ _ _ _ _ g.none (omega (arith, g.width)) (omega (arith, g.height)))
