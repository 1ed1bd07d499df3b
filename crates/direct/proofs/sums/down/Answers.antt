-- What `search` does not find of `sums::down`.
use Rattle.std.proofs.Common.{◌+◌, ◌-◌, ◌*◌, ◌≤◌, ◌^◌, get_or, arith, ◌∙◌}
use native.Mathlib.Nat.{mul_assoc}
use Rattle.spec.specs.Picture.{pictured}
use Rattle.laws.proofs.Kernels.{at}
use Rattle.laws.proofs.Exact.{line}
use Rattle.direct.specs.Windows.{through, window, mass}
use Rattle.direct.proofs.Weighing.{Weighed, weighed_start, weighed_more, weighed_fits, weighed_all, through_agree, row_past}
use Rattle.direct.proofs.sums.down.Goals as goal

pub loop-b-init : goal.loop-b-init
loop-b-init c =
    let image = c.args.image in
    let rows = c.args.kernels.rows.now in
    weighed_start c.args.kernels.columns.now (λ v. through rows (line (pictured image) v) c.args.i) c.args.j (65535 * mass rows) image.height _
    (λ v h. row_past rows image.width image.height image.pixels.now c.args.i v h) (omega arith) c.requires.ready.high.0

-- one row more, of which the total so far is a part
next : (c : goal.After-across) → let args = c.args in
    let columns = args.kernels.columns.now in
    let rows = args.kernels.rows.now in
    Weighed columns (λ v. through rows (line (pictured args.image) v) args.i) args.j (65535 * mass rows)
    (c.loop-b.b + 1) (c.loop-b.total + get_or columns c.loop-b.b 0 * c.across.result)
unfolding at
next c =
    let rows = c.args.kernels.rows.now in
    let i = c.args.i in
    weighed_more c.args.kernels.columns.now (λ v. through rows (line (pictured c.args.image) v) i) c.args.j (65535 * mass rows)
    c.across.result c.loop-b.invariant (omega arith)
    (c.across.ensures.value ∙ through_agree rows (at c.row_of.result.now) (line (pictured c.args.image) (c.args.j - c.loop-b.b)) i c.row_of.ensures.pixels)
    c.across.ensures.bound

fits : (c : goal.After-across) → c.loop-b.total + get_or c.args.kernels.columns.now c.loop-b.b 0 * c.across.result ≤ 65535 * 2 ^ 44
fits c =
    let columns = c.args.kernels.columns.now in
    let rows = c.args.kernels.rows.now in
    let most = weighed_fits columns _ c.args.j (65535 * mass rows) (next c) (omega arith) in
    omega (arith, most, mul_assoc 65535 (mass rows) (mass columns), c.requires.ready.light)

pub overflow_mul-total : goal.overflow_mul-total
overflow_mul-total c = omega (arith, fits c)

pub overflow_add-total : goal.overflow_add-total
overflow_add-total c = omega (arith, fits c)

pub loop-b-preserved : goal.loop-b-preserved
loop-b-preserved c = next c

pub returns : goal.returns
unfolding window
returns c =
    let rows = c.args.kernels.rows.now in
    weighed_all c.args.kernels.columns.now (λ v. through rows (line (pictured c.args.image) v) c.args.i) c.args.j (65535 * mass rows)
    c.loop-b.invariant (omega arith)
