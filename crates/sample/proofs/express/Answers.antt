-- What is not found of `sample::express`: the grey and the leftover of a sum over a weight.
-- Assumes nothing.
use mathlib.Core.Path.{sym, ap, ap₂, ◌∙◌}
use borrow.Author.Rules.{rules}
use mir.Syntax.{w64}
use mir.Val.{SFits}
use mir.ValLaws.{to_z-of_z}
use Rattle.spec.specs.Gray.{gray_reading, expressed}
use Rattle.gray.specs.Division.{Divides}
use Rattle.gray.proofs.Dividing.{shade_is}
use Rattle.sample.specs.Sampled.{chosen}
use Rattle.sample.proofs.express.Goals as goal

pub returns-in-Gray : goal.returns-in-Gray
unfolding expressed
returns-in-Gray c =
    let point = c.args.point in
    let made = c.shade-gray.ensures in
    let own : Divides point.weight c.of.result = record { not_zero = c.requires.not_zero; light = c.requires.light; is = c.of.ensures } in
    let is = shade_is _ _ own point.sum c.requires.dim in
    let held : SFits w64 c.shade-gray.result.leftover = search rules in
    ap₂ gray_reading (made.0 ∙ is.0) (to_z-of_z w64 _ held ∙ made.1 ∙ is.1)
    ∙ ap (λ q. expressed (chosen q) point.weight point.sum) (sym c.in-Gray.is)
