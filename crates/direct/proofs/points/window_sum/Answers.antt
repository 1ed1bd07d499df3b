-- What `search` does not find of `points::window_sum`: both slices hold the coefficients, and the sum and the weight are formed from them.
use Rattle.std.proofs.Common.{arith}
use Rattle.direct.proofs.Forming.{rows_not_refused, columns_not_refused, is_filled, held_point}
use Rattle.direct.proofs.points.window_sum.Goals as goal

pub returns-in_err-kernel : goal.returns-in_err-kernel
returns-in_err-kernel c =
    absurd (rows_not_refused _ _ _ _ c.requires.accepted_picture.recipe c.requires.rows_len c.in_err-kernel.ensures)

pub returns-in_err-kernel-2 : goal.returns-in_err-kernel-2
returns-in_err-kernel-2 c =
    absurd (columns_not_refused _ _ _ _ c.requires.accepted_picture.recipe c.requires.columns_len c.in_err-kernel-2.ensures)

pub down-sum-requires-clause-ready : goal.down-sum-requires-clause-ready
down-sum-requires-clause-ready c = (is_filled _ _ _ _ _ _ _ _ c.requires.accepted_picture c.requires.rows_len c.requires.columns_len c.kernel.ensures c.kernel-2.ensures).ready

pub down-sum-requires-clause-across : goal.down-sum-requires-clause-across
down-sum-requires-clause-across c = omega (arith, (is_filled _ _ _ _ _ _ _ _ c.requires.accepted_picture c.requires.rows_len c.requires.columns_len c.kernel.ensures c.kernel-2.ensures).row_long, c.requires.i_bound)

pub down-sum-requires-clause-below : goal.down-sum-requires-clause-below
down-sum-requires-clause-below c = omega (arith, (is_filled _ _ _ _ _ _ _ _ c.requires.accepted_picture c.requires.rows_len c.requires.columns_len c.kernel.ensures c.kernel-2.ensures).column_long, c.requires.j_bound)

pub weight_at-weight-requires-clause-ready : goal.weight_at-weight-requires-clause-ready
weight_at-weight-requires-clause-ready c = (is_filled _ _ _ _ _ _ _ _ c.requires.accepted_picture c.requires.rows_len c.requires.columns_len c.kernel.ensures c.kernel-2.ensures).ready

pub weight_at-weight-requires-clause-across : goal.weight_at-weight-requires-clause-across
weight_at-weight-requires-clause-across c = omega (arith, (is_filled _ _ _ _ _ _ _ _ c.requires.accepted_picture c.requires.rows_len c.requires.columns_len c.kernel.ensures c.kernel-2.ensures).row_long, c.requires.i_bound)

pub weight_at-weight-requires-clause-below : goal.weight_at-weight-requires-clause-below
weight_at-weight-requires-clause-below c = omega (arith, (is_filled _ _ _ _ _ _ _ _ c.requires.accepted_picture c.requires.rows_len c.requires.columns_len c.kernel.ensures c.kernel-2.ensures).column_long, c.requires.j_bound)

pub returns : goal.returns
returns c =
    let h = is_filled _ _ _ _ _ _ _ _ c.requires.accepted_picture c.requires.rows_len c.requires.columns_len c.kernel.ensures c.kernel-2.ensures in
    held_point _ _ c.requires.accepted_picture _ _ h _ _ _ _ c.down-sum.ensures c.weight_at-weight.ensures
