-- `gray_c::bore_sample_gray` meets its contract: the grey that was read and its leftover, or a refusal.
-- Assumes nothing.
use mathlib.Core.Path.{sym, ◌∙◌}
use borrow.Author.Rules.{rules}
use mir.Syntax.{w64}
use mir.Val.{SFits}
use mir.ValLaws.{to_z-of_z}
use Rattle.spec.specs.Gray.{as_gray}
use Rattle.gray_c.proofs.Telling.{refused, kept, accepted, put, is_gray, is_shade}
use Rattle.gray_c.proofs.bore_sample_gray.Goals as goal

pub shade_of-shade-requires : goal.shade_of-shade-requires
shade_of-shade-requires c = (_, _, is_gray _ _ _ _ _ c.in-Ok.ensures)

pub returns-in-Ok : goal.returns-in-Ok
returns-in-Ok c =
    let told = c.in-Ok.ensures in
    let same = is_shade _ _ _ _ _ told _ _ c.shade_of-shade.ensures in
    let held : SFits w64 c.shade_of-shade.result.leftover = search rules in (
      sym (accepted _ _ _ _ as_gray _ told),
      put _ _ _ _ as_gray _ told _ _ _ same.0,
      put _ _ _ _ as_gray _ told _ _ _ (to_z-of_z w64 _ held ∙ same.1),
    )

pub returns-in-Err : goal.returns-in-Err
returns-in-Err c =
    let told = c.in-Err.ensures in (
      c.number.ensures ∙ sym (refused _ _ _ _ as_gray _ told),
      kept _ _ _ _ as_gray _ told _ _,
      kept _ _ _ _ as_gray _ told _ _,
    )
