-- `stream::sizes::stream_cells` meets its contract: the sizes for a height of 1.
-- Assumes nothing.
use Rattle.std.proofs.Common.{ℕ, sym, ap, ◌∙◌}
use Rattle.std.proofs.lemmas.Result.{err_from_is_err_and}
use Rattle.spec.specs.Recipe.{recipe}
use Rattle.spec.specs.Stream.{stream_cells}
use Rattle.spec.specs.Refusals.{first, size_checks, cell_checks}
use Rattle.laws.proofs.Results.{told_err, told_ok, err_told, ok_told}
use Rattle.stream.specs.Private.{sizes}
use Rattle.stream.specs.declared.sizes.Sizes.{Sizes}
use Rattle.stream.proofs.States.{cells_checked}
use Rattle.stream.proofs.sizes.stream_cells.Goals as goal

pub returns-in_err-sizes : goal.returns-in_err-sizes
returns-in_err-sizes c =
    let r = recipe c.args.filter in
    let w = c.args.width in
    let p = err_from_is_err_and c.from_residual.result c.from_residual.ensures.1 in
    rw (p.1, p.2) (told_err (λ (n : ℕ). n) (cell_checks r w) (stream_cells r w) _
    (ap first (sym (cells_checked r w)) ∙ err_told (λ (s : Sizes). s) (size_checks r w 1) (sizes r w 1) _ c.in_err-sizes.ensures))

pub returns : goal.returns
returns c =
    let r = recipe c.args.filter in
    let w = c.args.width in
    let q = ok_told (λ (s : Sizes). s) (size_checks r w 1) (sizes r w 1) _ c.in_ok-sizes.ensures in
    told_ok (λ (n : ℕ). n) (cell_checks r w) (stream_cells r w) _ (ap first (sym (cells_checked r w)) ∙ q.0) (ap (λ (s : Sizes). s.cells) q.1)
