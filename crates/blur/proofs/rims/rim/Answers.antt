-- What `search` does not find of `rims::rim`.
use Rattle.std.proofs.Common.{◌<◌, length, get_or, pos, ap, ◌∙◌, rules}
use mir.Syntax.{w64}
use mir.Val.{SFits}
use mir.ValLaws.{to_z-of_z}
use Rattle.spec.specs.Gray.{gray, leftover}
use Rattle.gray.specs.Division.{Divides, divisor_with}
use Rattle.gray.proofs.Dividing.{shade_is}
use Rattle.blur.specs.Rims.{weight_at}
use Rattle.blur.proofs.Parts.{is_shaded, one_more}
use Rattle.blur.proofs.rims.rim.Goals as goal

pub loop-k-preserved : goal.loop-k-preserved
loop-k-preserved c =
    let a = c.args in
    let k = c.loop-k.k in
    let below : k < length a.across.now = search rules in
    let weight = c.requires.0 k below in
    -- what divides there
    let own : Divides (weight_at a.across.now a.down k) c.with_reciprocal-by.result =
    record {
      not_zero = weight.0;
      light = weight.1;
      is = c.with_reciprocal-by.ensures ∙ ap (divisor_with (weight_at a.across.now a.down k)) (c.requires.1 k below);
    } in
    let is = shade_is _ _ own (get_or a.sums.now k 0) (c.requires.2 k below) in
    let made = c.shade-shade.ensures in
    let held : SFits w64 c.shade-shade.result.leftover = search rules in (
      one_more (λ k. gray (weight_at a.across.now a.down k) (get_or a.sums.now k 0)) 0 _ _ _ (search rules) (made.0 ∙ is.0) c.loop-k.invariant.0,
      one_more (λ k. leftover (weight_at a.across.now a.down k) (get_or a.sums.now k 0)) (pos 0) _ _ _ (search rules) (to_z-of_z w64 _ held ∙ made.1 ∙ is.1) c.loop-k.invariant.1,
    )

pub returns : goal.returns
returns c =
    let a = c.args in (
      is_shaded gray 0 a.across.now a.down a.sums.now _ (search rules) (λ k h. c.loop-k.invariant.0 k (search rules)),
      is_shaded leftover (pos 0) a.across.now a.down a.sums.now _ (search rules) (λ k h. c.loop-k.invariant.1 k (search rules)),
    )
