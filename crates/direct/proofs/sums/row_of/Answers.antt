-- What `search` does not find of `sums::row_of`.
use Rattle.std.proofs.Common.{◌+◌, ◌*◌, ◌≤◌, length, refl, arith}
use native.Mathlib.Nat.{suc-mul, mul-le-mul_right, mul_comm}
use Rattle.direct.proofs.Weighing.{line_part}
use Rattle.direct.proofs.sums.row_of.Goals as goal

pub returns-clause-pixels : goal.returns-clause-pixels
returns-clause-pixels c =
    let w = c.args.image.width in
    let h = c.args.image.height in
    let v = c.args.v in
    let fits : v * w + w ≤ length c.args.image.pixels.now =
    omega (arith, c.requires.size, suc-mul v w, mul-le-mul_right w c.requires.inside, mul_comm w h) in
    line_part _ _ v _ _ _ refl refl c.requires.inside fits
