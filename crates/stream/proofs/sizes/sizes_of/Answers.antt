-- `stream::sizes::sizes_of` meets its contract: the answer of `filter::full_size`, and the cells of both cascades.
-- Assumes nothing.
use Rattle.std.proofs.Common.{◌≡◌, ℕ, ◌+◌, ◌*◌, ◌≤◌, Ok, ap, ◌∙◌, ap₂, le_trans, le_of_eq, mul-le-mul, arith}
use Rattle.std.proofs.lemmas.Result.{err_from_is_err_and}
use Rattle.filter.specs.Answers.{sides}
use Rattle.filter.specs.declared.sizes.Sides.{Sides as Grown}
use Rattle.spec.specs.Recipe.{Recipe, recipe}
use Rattle.spec.specs.Picture.{Sides, full_sides}
use Rattle.spec.specs.Stream.{cascade_cells, stream_cells}
use Rattle.spec.specs.Refusals.{size_checks, answer, told}
use Rattle.laws.proofs.Boxes.{boxes_all, boxes_few}
use Rattle.laws.proofs.Refusals.{is_sized, grown_most}
use Rattle.laws.proofs.Results.{told_err, told_ok, err_told, ok_told}
use Rattle.filter.proofs.Measuring.{accepted_counts}
use Rattle.stream.specs.Private.{sizes}
use Rattle.stream.specs.declared.sizes.Sizes.{Sizes}
use Rattle.stream.proofs.sizes.sizes_of.Goals as goal

pub returns-in_err-grown : goal.returns-in_err-grown
returns-in_err-grown c =
    let a = c.args in
    let r = recipe a.filter in
    let p = err_from_is_err_and c.from_residual.result c.from_residual.ensures.1 in
    rw (p.1, p.2) (told_err (λ (s : Sizes). s) (size_checks r a.width a.height) (sizes r a.width a.height) _
    (err_told sides (size_checks r a.width a.height) (full_sides r a.width a.height) _ c.in_err-grown.ensures))

pub cascade_cells-rows-requires : goal.cascade_cells-rows-requires
cascade_cells-rows-requires c = boxes_few c.args.filter.rows _ c.boxes.ensures

pub cascade_cells-columns-requires : goal.cascade_cells-columns-requires
cascade_cells-columns-requires c = boxes_few c.args.filter.columns _ c.boxes-2.ensures

-- the cells of all columns are few
few : (r : Recipe) (w h : ℕ) (s : Grown) (b : ℕ) → told sides (Ok s) ≡ answer (size_checks r w h) (full_sides r w h) → b ≤ 255 * 48 → s.width * b ≤ 1279 * (255 * 48)
unfolding full_sides
few r w h s b e k =
    let q = ok_told sides (size_checks r w h) (full_sides r w h) s e in
    let sized = is_sized r w h q.0 in
    mul-le-mul (le_trans (le_of_eq (ap (λ (x : Sides). x.width) q.1)) (grown_most r w h sized.0 sized.1).0) k

pub overflow_mul-result : goal.overflow_mul-result
overflow_mul-result c =
    record { fits = omega (arith, few _ _ _ _ _ c.in_ok-grown.ensures c.cascade_cells-columns.ensures.1) }

pub overflow_add-result : goal.overflow_add-result
overflow_add-result c =
    record { fits = omega (arith, few _ _ _ _ _ c.in_ok-grown.ensures c.cascade_cells-columns.ensures.1, c.cascade_cells-rows.ensures.1) }

pub returns : goal.returns
unfolding full_sides stream_cells recipe
returns c =
    let a = c.args in
    let r = recipe a.filter in
    let q = ok_told sides (size_checks r a.width a.height) (full_sides r a.width a.height) _ c.in_ok-grown.ensures in
    let counts = accepted_counts a.filter (is_sized r a.width a.height q.0).0 in
    let w = ap (λ (s : Sides). s.width) q.1 in
    let rows = c.cascade_cells-rows.ensures.0 ∙ ap cascade_cells (boxes_all a.filter.rows _ c.boxes.ensures counts.0) in
    let columns = c.cascade_cells-columns.ensures.0 ∙ ap cascade_cells (boxes_all a.filter.columns _ c.boxes-2.ensures counts.1) in
    told_ok (λ (s : Sizes). s) (size_checks r a.width a.height) (sizes r a.width a.height) _ q.0
    (λ i. record { width = w i; height = ap (λ (s : Sides). s.height) q.1 i; cells = ap₂ ◌+◌ rows (ap₂ ◌*◌ w columns) i })
