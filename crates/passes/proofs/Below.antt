-- The claims about the ladder: its levels are worked from below, by the definition and call by call, and on both axes the last three are
-- too heavy.
-- Assumes nothing.
use mathlib.Core.Path.{◌≡◌, refl, sym, ap, subst, ◌∙◌}
use mathlib.Core.Bool.{false}
use Prim.Native.Nat.{ℕ, suc, ◌≤◌, ◌<◌}
use native.Mathlib.Nat.{le_trans, le_of_eq}
use native.Mathlib.Decide.{dec_le}
use native.Mathlib.Omega.{arith}
use lib.ListN.{length}
use borrow.Author.Tests.{ne_eqb, le-ltb}
use Rattle.spec.specs.Words.{total, product, somewhere}
use Rattle.spec.specs.Recipe.{box_order, order, weight, gain}
use Rattle.spec.specs.Picture.{Picture, full, grown}
use Rattle.spec.specs.Ladder.{rungs, Axes, both_axes, on_axes, ladder, rung}
use Rattle.spec.specs.Refusals.{first, check, bad_level, too_long, zero_width, too_far, too_heavy, recipe_checks, size_checks, picture_checks, pass_checks}
use Rattle.laws.proofs.Refusals.{Accepted, first_front, none_both, size_numbered, accepted_none, is_accepted_picture, picture_other, lent_accepted}
use Rattle.laws.proofs.Joining.{joined_accepted, full_joined}
use Rattle.laws.proofs.Ladder.{next_level, level_pos}
use Rattle.passes.specs.Climbed.{level_checks, FromBelow, LevelCall, CallsFromBelow, TooHeavy}
use Rattle.passes.proofs.Answering.{after_level, asked_all}

pub sums_from_below : FromBelow
sums_from_below a level p z h =
    let e = next_level a level h in
    ap (λ r. full r p) e
    ∙ sym (full_joined (ladder a level) (rung a (suc level)) p (le_trans (level_pos a (suc level)) (le_of_eq (ap gain e))))

-- a level of 1 to 8
level_not_bad : (level : ℕ) → 0 < level → level ≤ 8 → bad_level level ≡ false
unfolding bad_level
level_not_bad level z h = rw (ne_eqb level 0 (λ e. omega arith), le-ltb 8 level h) refl

-- a call for a level that accepts the picture is accepted, and leaves its sums
module _ (a : Axes) (level : ℕ) (p : Picture) (z : 0 < level) (h : level ≤ 8) (shown : first (picture_checks (ladder a level) p) ≡ 0) (call : LevelCall a level p) where
  asked : first (level_checks a level p call.out call.cells) ≡ 0
  unfolding picture_checks
  asked =
      let r = ladder a level in
      after_level a level p (length call.out) (length call.cells) (level_not_bad level z h)
      ∙ asked_all r p (length call.out) (length call.cells)
      (none_both (size_checks r p.width p.height) _ (size_numbered r p.width p.height) shown).0 (is_accepted_picture r p shown).size
      call.exactly call.enough

  call_accepted : call.number ≡ 0
  call_accepted = call.contract.answer ∙ asked

  call_leaves : call.new_out ≡ full (ladder a level) p
  call_leaves = call.contract.output ∙ lent_accepted _ _ call.out asked

pub calls_from_below : CallsFromBelow
calls_from_below a level p z h shown below above =
    let accepted = (is_accepted_picture (ladder a (suc level)) p shown).recipe in
    let parts = joined_accepted (ladder a level) (rung a (suc level)) (subst Accepted (next_level a level h) accepted) in
    let lower = picture_other (ladder a level) (ladder a (suc level)) p (accepted_none (ladder a level) parts.0) shown in (
      call_accepted a level p z (omega arith) lower below,
      call_accepted a (suc level) p (omega arith) h shown above,
      call_leaves a (suc level) p (omega arith) h shown above
          ∙ sums_from_below a level p z h
          ∙ ap (λ sums. full (rung a (suc level)) (grown (ladder a level) p.width p.height sums)) (sym (call_leaves a level p z (omega arith) lower below)),
    )

-- the weights of levels 6 to 8 on both axes
heavy : (level : ℕ) → 6 ≤ level → level ≤ 8 → first (recipe_checks (ladder both_axes level)) ≡ 4
unfolding total product somewhere box_order order weight gain rungs on_axes ladder first check too_long zero_width too_far too_heavy recipe_checks
heavy level g h =
    elim (dec_le level 6) [
      | yes a ↦ here 6 (omega arith) refl
      | no a ↦ elim (dec_le level 7) [
        | yes b ↦ here 7 (omega arith) refl
        | no b ↦ here 8 (omega arith) refl
      ]
    ]
  where
    here : (n : ℕ) → level ≡ n → first (recipe_checks (ladder both_axes n)) ≡ 4 → first (recipe_checks (ladder both_axes level)) ≡ 4
    here n e q = ap (λ k. first (recipe_checks (ladder both_axes k))) e ∙ q

pub too_heavy_lem : TooHeavy
unfolding pass_checks picture_checks size_checks
too_heavy_lem level p out cells number new_out new_cells g h call =
    let r = ladder both_axes level in
    let four = heavy level g h in
    let other : ◌≡◌ {A = ℕ} 4 0 → ⊥ = λ e. omega arith in
    call.answer
    ∙ after_level both_axes level p (length out) (length cells) (level_not_bad level (omega arith) h)
    ∙ first_front (picture_checks r p) _ 4
    (first_front (size_checks r p.width p.height) _ 4 (first_front (recipe_checks r) _ 4 four other) other) other
