-- What `search` does not find of `sums::form`.
use Rattle.std.proofs.Common.{◌≡◌, ◌+◌, ◌-◌, ◌*◌, length, sym, ap, ◌∙◌, refl, arith, add-one}
use native.Mathlib.Nat.{suc-mul, zero-mul}
use Rattle.spec.specs.Picture.{pictured}
use Rattle.laws.proofs.Slices.{mixed_none, mixed_all, length_lent}
use Rattle.direct.specs.Windows.{windows}
use Rattle.direct.proofs.Weighing.{length_windows, row_fits, row_more}
use Rattle.direct.proofs.sums.form.Goals as goal

pub loop-j-init : goal.loop-j-init
loop-j-init c =
    let args = c.args in
    let all = windows args.kernels.rows.now args.kernels.columns.now (pictured args.image) in
    rw zero-mul
    (mixed_none all args.out.now (length_windows args.kernels.rows.now args.kernels.columns.now (pictured args.image) ∙ sym c.requires.out_len))

pub loop-j-preserved : goal.loop-j-preserved
loop-j-preserved c =
    let args = c.args in
    let rows = args.kernels.rows.now in
    let columns = args.kernels.columns.now in
    let p = pictured args.image in
    let width = args.image.width + length rows - 1 in
    let j = c.loop-j.j in
    let fits = row_fits rows columns p j (j * width) (length args.out.now) refl (omega arith) c.requires.out_len in
    let long = length_lent (j * width) width c.loop-j.out (omega arith) in
    let next = row_more rows columns p j (j * width) _ c.row.new.out c.loop-j.invariant refl (omega arith) fits long c.row.ensures in
    let more : j * width + width ≡ (j + 1) * width = omega (arith, suc-mul j width, ap (λ n. n * width) (add-one j)) in
    rw (← more) next

pub returns : goal.returns
returns c =
    let args = c.args in
    let height = args.image.height + length args.kernels.columns.now - 1 in
    let done : c.loop-j.j ≡ height = omega arith in
    mixed_all c.loop-j.invariant
    (omega (arith, c.requires.out_len, ap (λ n. n * (args.image.width + length args.kernels.rows.now - 1)) done))
