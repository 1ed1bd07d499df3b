-- `along::along` meets its contract: what it refuses is left alone, and the rest is worked.
-- Assumes nothing.
use Rattle.spec.specs.Words.{sum, tab, somewhere}
use Rattle.spec.specs.Recipe.{widths}
use Rattle.laws.proofs.Kernels.{at}
use Rattle.laws.proofs.Cascades.{cascaded}
use Rattle.laws.proofs.Boxes.{length_widths, boxes_all}
use Rattle.along.specs.Along.{wide, too_much}
use Rattle.along.proofs.Answers.{too_long, both_fit, refused, answered}
use Rattle.along.proofs.Loading.{black}
use Rattle.std.proofs.Common.{◌%◌, ◌^◌, ◌≤◌, cond, length, ap, ◌∙◌, arith}
use Rattle.along.proofs.along.Goals as goal

pub returns-then-list-gt48 : goal.returns-then-list-gt48
returns-then-list-gt48 c =
    let a = c.args in
    let w = length a.row.now in
    refused (widths a.list) _ a.row.now (ap (λ n. too_much n w) (length_widths a.list) ∙ too_long a.list.count w c.then-list-gt48.either)

pub work-requires : goal.work-requires
work-requires c =
    let w = length c.args.row.now in
    let small : w ≤ 1279 = omega arith in
    black w 1279 small

pub returns : goal.returns
returns c =
    let a = c.args in
    let ns = widths a.list in
    let p = at a.pixels.now in
    let w = length a.row.now in
    let work = c.work.ensures in
    let boxes = boxes_all a.list _ c.boxes.ensures (omega arith) in
    answered ns _ a.row.now (both_fit _ _ (omega (arith, length_widths a.list)) (omega arith)) _ _
    (work.0 ∙ ap (λ ns. tab w (λ k. cascaded 1 ns p k % 2 ^ 64)) boxes)
    (work.1 ∙ ap (λ ns. cond (somewhere wide ns) (sum w p % 2 ^ 64) 0) boxes)
