-- What `search` does not find of `passes::passes`: the answer of `checked_size`, case by case, and then that of `run`.
use mathlib.Core.Path.{sym, ap, ◌∙◌}
use borrow.Author.Rules.{rules}
use Rattle.std.proofs.lemmas.Result.{err_from_is_err_and}
use Rattle.spec.specs.Recipe.{recipe}
use Rattle.spec.specs.Picture.{Sides, pictured, full_sides}
use Rattle.laws.proofs.Refusals.{written_not, written_all}
use Rattle.laws.proofs.Results.{number_not_zero, err_told}
use Rattle.filter.specs.Answers.{sides}
use Rattle.passes.proofs.Answering.{came_sides, asked, cells_enough, part_long, lent_back}
use Rattle.passes.proofs.passes.Goals as goal

pub returns-in_err-sides : goal.returns-in_err-sides
returns-in_err-sides c =
    let p = err_from_is_err_and c.from_residual.result c.from_residual.ensures.1 in
    rw (p.1, p.2) (written_not _ _ _ c.args.out.now c.args.cells.now _ (err_told sides _ _ _ c.in_err-sides.ensures) (number_not_zero _))

pub slice_bounds-run-end : goal.slice_bounds-run-end
slice_bounds-run-end c = cells_enough (recipe c.args.filter) (pictured c.args.image) _ _ _ c.in_ok-sides.ensures

pub slice_bounds-run-end-2 : goal.slice_bounds-run-end-2
slice_bounds-run-end-2 c = sym (part_long (recipe c.args.filter) (pictured c.args.image) _ _ _ c.in_ok-sides.ensures)

pub run-requires : goal.run-requires
unfolding full_sides
run-requires c =
    let r = recipe c.args.filter in
    let p = pictured c.args.image in
    let told = c.in_ok-sides.ensures in
    let k = asked r p _ _ _ told in
    record {
      accepted = k.picture;
      grown_width = ap (λ (s : Sides). s.width) (came_sides r p _ _ _ told).1;
      output = k.output;
      paired = part_long r p _ _ _ told;
    }

pub returns : goal.returns
returns c =
    let args = c.args in
    let r = recipe args.filter in
    let p = pictured args.image in
    let told = c.in_ok-sides.ensures in
    let long = c.run.auto.work ∙ part_long r p _ _ _ told in
    written_all _ _ _ args.out.now args.cells.now (came_sides r p _ _ _ told).0 _ _ c.run.ensures (lent_back r p _ _ _ told c.run.new.work long) (search rules)
