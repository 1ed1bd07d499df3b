-- What `search` does not find of `climbing::ladder`: 16, the answer of `checked_size` for the level's recipe, case by case, and then that of
-- `climb`.
use mathlib.Core.Path.{◌≡◌, sym, ap, ◌∙◌}
use Prim.Native.Nat.{ℕ}
use native.Mathlib.Omega.{arith}
use borrow.Author.Rules.{rules}
use Rattle.std.proofs.lemmas.Result.{err_from_is_err_and}
use Rattle.spec.specs.Recipe.{Recipe}
use Rattle.spec.specs.Picture.{Sides, Picture, pictured, full_sides}
use Rattle.spec.specs.Ladder.{ladder}
use Rattle.spec.specs.Refusals.{answer, number, pass_checks}
use Rattle.laws.proofs.Refusals.{written_not, written_all}
use Rattle.laws.proofs.Results.{number_not_zero, err_told}
use Rattle.filter.specs.Answers.{sides}
use Rattle.passes.specs.Climbed.{axes_of}
use Rattle.passes.proofs.Answering.{came_sides, asked, cells_enough, part_long, lent_back, by_level, after_level, level_within}
use Rattle.passes.proofs.climbing.ladder.Goals as goal

pub returns-then-bad_level : goal.returns-then-bad_level
unfolding number
returns-then-bad_level c =
    written_not _ _ _ c.args.out.now c.args.cells.now 16
    (by_level _ _ _ _ _ (sym c.bad_level.ensures ∙ c.if-bad_level.true)) (λ z. omega arith)

pub level_filter-filter-requires : goal.level_filter-filter-requires
level_filter-filter-requires c = (level_within _ (sym c.bad_level.ensures ∙ c.if-bad_level.false)).1

-- what `checked_size` says is of the level's recipe
of_level : {q r : Recipe} → q ≡ r → (p : Picture) (out cells : ℕ)
    → answer (pass_checks q p out cells) (full_sides q p.width p.height) ≡ answer (pass_checks r p out cells) (full_sides r p.width p.height)
of_level e p out cells = ap (λ s. answer (pass_checks s p out cells) (full_sides s p.width p.height)) e

pub returns-in_err-sides : goal.returns-in_err-sides
returns-in_err-sides c =
    let args = c.args in
    let p = err_from_is_err_and c.from_residual.result c.from_residual.ensures.1 in
    let told = c.in_err-sides.ensures ∙ of_level c.level_filter-filter.ensures (pictured args.image) _ _ in
    rw (p.1, p.2)
    (written_not _ _ _ args.out.now args.cells.now _
    (after_level _ _ _ _ _ (sym c.bad_level.ensures ∙ c.if-bad_level.false) ∙ err_told sides _ _ _ told) (number_not_zero _))

pub slice_bounds-climb-end : goal.slice_bounds-climb-end
slice_bounds-climb-end c =
    let told = c.in_ok-sides.ensures ∙ of_level c.level_filter-filter.ensures (pictured c.args.image) _ _ in
    cells_enough (ladder (axes_of c.args.axes) c.args.level) (pictured c.args.image) _ _ _ told

pub slice_bounds-climb-end-2 : goal.slice_bounds-climb-end-2
slice_bounds-climb-end-2 c =
    let told = c.in_ok-sides.ensures ∙ of_level c.level_filter-filter.ensures (pictured c.args.image) _ _ in
    sym (part_long (ladder (axes_of c.args.axes) c.args.level) (pictured c.args.image) _ _ _ told)

pub climb-requires : goal.climb-requires
unfolding full_sides
climb-requires c =
    let r = ladder (axes_of c.args.axes) c.args.level in
    let p = pictured c.args.image in
    let told = c.in_ok-sides.ensures ∙ of_level c.level_filter-filter.ensures p _ _ in
    let k = asked r p _ _ _ told in
    let good = level_within _ (sym c.bad_level.ensures ∙ c.if-bad_level.false) in
    record {
      first = good.0;
      last = good.1;
      accepted = k.picture;
      grown_width = ap (λ (s : Sides). s.width) (came_sides r p _ _ _ told).1;
      output = k.output;
      paired = part_long r p _ _ _ told;
    }

pub returns : goal.returns
returns c =
    let args = c.args in
    let r = ladder (axes_of args.axes) args.level in
    let p = pictured args.image in
    let told = c.in_ok-sides.ensures ∙ of_level c.level_filter-filter.ensures p _ _ in
    let none = (came_sides r p _ _ _ told).0 in
    let long = c.climb.auto.work ∙ part_long r p _ _ _ told in
    written_all _ _ _ args.out.now args.cells.now (after_level _ _ _ _ _ (sym c.bad_level.ensures ∙ c.if-bad_level.false) ∙ none)
    _ _ c.climb.ensures (lent_back r p _ _ _ told c.climb.new.work long) (search rules)
