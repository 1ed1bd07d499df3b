-- What `search` does not find of `picture_size`.
use native.Mathlib.Nat.{mul-le-mul}
use Rattle.std.proofs.Common.{arith}
use Rattle.std.proofs.lemmas.Result.{err_from_is_err_and}
use Rattle.spec.specs.Recipe.{recipe}
use Rattle.spec.specs.Picture.{pictured}
use Rattle.direct.proofs.Sizing.{size_refused, sized, pixels_refused, size_accepted}
use Rattle.direct.proofs.picture_size.Goals as goal

pub returns-in_err-sides : goal.returns-in_err-sides
returns-in_err-sides c =
    let p = err_from_is_err_and c.from_residual.result c.from_residual.ensures.1 in
    rw (p.1, p.2) (size_refused (recipe c.args.filter) (pictured c.args.image) _ c.in_err-sides.ensures)

pub overflow_mul-image : goal.overflow_mul-image
overflow_mul-image c =
    let s = sized (recipe c.args.filter) (pictured c.args.image) _ c.in_ok-sides.ensures in
    omega (arith, mul-le-mul s.width.1 s.height.1)

pub returns-then-image : goal.returns-then-image
returns-then-image c = pixels_refused (recipe c.args.filter) (pictured c.args.image) _ c.in_ok-sides.ensures c.if-image.true

pub returns : goal.returns
returns c = size_accepted (recipe c.args.filter) (pictured c.args.image) _ c.in_ok-sides.ensures c.if-image.false
