-- The claim of specs/Leftovers.antt: each leftover that the same-size blur leaves is that of the sum at its place, which lies so.
-- Assumes nothing.
use mathlib.Core.Path.{sym, subst, ◌∙◌}
use lib.IntN.{pos}
use Rattle.spec.specs.Gray.{place_weight, same_leftover}
use Rattle.spec.specs.Refusals.{same_size_checks}
use Rattle.spec.specs.Ranges.{WithinHalf}
use Rattle.laws.proofs.Ranges.{same_leftovers_fit}
use Rattle.laws.proofs.Refusals.{none_both, picture_numbered}
use Rattle.blur.specs.Leftovers.{BlurredFit}
use Rattle.blur.proofs.Answering.{left_size, left_at}

pub blurred_fit : BlurredFit
unfolding same_size_checks
blurred_fit r p c =
    let ok = (none_both _ _ (picture_numbered r p) c.none).0 in (
      c.told.grays.answer ∙ c.none,
      left_size p (same_leftover r p) (pos 0) _ c.none c.left c.new_left c.told.leftovers,
      λ i j h l.
          subst (WithinHalf (place_weight r p i j))
          (sym (left_at p (same_leftover r p) (pos 0) _ c.none c.left c.new_left c.told.leftovers i j h l))
          (same_leftovers_fit r p ok i j h l),
    )
