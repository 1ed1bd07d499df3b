-- The claim of specs/Leftovers.antt: each leftover that rounding leaves is that of its sum, which lies so.
-- Assumes nothing.
use Rattle.std.proofs.Common.{length, get_or, pos, sym, ap, ◌∙◌, subst}
use Rattle.spec.specs.Recipe.{gain}
use Rattle.spec.specs.Gray.{leftover, leftovers}
use Rattle.spec.specs.Refusals.{round_checks}
use Rattle.spec.specs.Ranges.{WithinHalf}
use Rattle.laws.proofs.Lists.{length_tab, get_d_tab, tab_map}
use Rattle.laws.proofs.Ranges.{leftovers_fit}
use Rattle.laws.proofs.Refusals.{none_both, recipe_numbered, lent_accepted, is_accepted}
use Rattle.gray.specs.Leftovers.{RoundedFit}

pub rounded_fit : RoundedFit
unfolding round_checks leftovers
rounded_fit r sums out left number new_out new_left told none =
    let weight = (is_accepted r (none_both _ _ (recipe_numbered r) none).0).not_zero in
    let is = told.leftovers ∙ lent_accepted _ _ left none ∙ sym (tab_map (leftover (gain r)) 0 sums) in (
      told.answer ∙ none,
      ap length is ∙ length_tab (length sums) (λ k. leftover (gain r) (get_or sums k 0)),
      λ k h.
          subst (WithinHalf (gain r)) (sym (ap (λ l. get_or l k (pos 0)) is ∙ get_d_tab (length sums) (λ k. leftover (gain r) (get_or sums k 0)) k (pos 0) h))
          (leftovers_fit (gain r) (get_or sums k 0) weight),
    )
