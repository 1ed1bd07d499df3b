-- `report::filling::put_rows` meets its contract: the answer of `filter::full_size`, case by case.
-- Assumes nothing.
use mathlib.Core.Path.{◌≡◌, sym, ap, ap₂, ◌∙◌}
use Prim.Native.Nat.{ℕ, ◌+◌, ◌*◌, ◌/◌, ◌≤◌, ◌<◌, max}
use native.Mathlib.Nat.{le_trans, le_of_eq, div-mul-le_self, le-div_iff_mul-le}
use native.Mathlib.Omega.{arith}
use lib.ListN.{length, replicate, length-replicate}
use Rattle.std.specs.Prelude.{Ok}
use Rattle.std.proofs.lemmas.List.{take-replicate}
use Rattle.spec.specs.Recipe.{recipe}
use Rattle.spec.specs.Picture.{Sides as SpecSides, full_sides}
use Rattle.spec.specs.Refusals.{answer, size_checks}
use Rattle.laws.proofs.Refusals.{is_sized, grown_most}
use Rattle.laws.proofs.Results.{err_told, ok_told}
use Rattle.filter.specs.declared.sizes.Sides.{Sides}
use Rattle.filter.specs.Answers.{sides, size_told}
use Rattle.stream.specs.declared.calls.State.{State}
use Rattle.report.specs.Filling.{row_lines, grown_width, rows_at_once, next_lines}
use Rattle.report.proofs.Rows.{put_same, bad_put}
use Rattle.report.proofs.filling.put_rows.Goals as goal

-- the grown width, which is at most 1,279
width_is : (s : State) (grown : Sides) → size_told (Ok grown) ≡ answer (size_checks (recipe s.filter) s.width s.height) (full_sides (recipe s.filter) s.width s.height) →
    (grown.width ≡ grown_width s) × (grown.width ≤ 1279)
unfolding full_sides grown_width
width_is s grown told =
    let q = ok_told sides _ _ grown told in
    let is = ap (λ (x : SpecSides). x.width) q.1 in
    let sized = is_sized (recipe s.filter) s.width s.height q.0 in
    (is, omega (arith, grown_most (recipe s.filter) s.width s.height sized.0 sized.1))

-- one of them at least has room
at_least_one : (w : ℕ) → w ≤ 1279 → 65472 / (21 * w + 1) ≡ max 1 (65472 / (21 * w + 1))
at_least_one w h =
    let divisor : 0 < 21 * w + 1 = omega arith in
    let one : 1 ≤ 65472 / (21 * w + 1) = (le-div_iff_mul-le divisor).1 (omega arith) in
    omega (arith, one)

pub returns-in_default : goal.returns-in_default
returns-in_default c = bad_put _ _ _ _ _ (err_told sides _ _ _ c.in_default.ensures)

pub overflow_mul-count : goal.overflow_mul-count
overflow_mul-count c = omega (arith, width_is c.args.state _ c.in-Ok.ensures)

pub overflow_add-count : goal.overflow_add-count
overflow_add-count c = omega (arith, width_is c.args.state _ c.in-Ok.ensures)

pub slice_bounds-row-end : goal.slice_bounds-row-end
slice_bounds-row-end c = omega (arith, width_is c.args.state _ c.in-Ok.ensures)

pub slice_bounds-put_lines-end : goal.slice_bounds-put_lines-end
slice_bounds-put_lines-end c =
    let few = (width_is c.args.state _ c.in-Ok.ensures).1 in
    sym (ap length (take-replicate _ 1279 0 few) ∙ length-replicate _ 0)

pub put_lines-requires : goal.put_lines-requires
put_lines-requires c =
    let width = c.in-Ok.grown.width in
    let few = (width_is c.args.state _ c.in-Ok.ensures).1 in
    let part = ap length (take-replicate width 1279 0 few) ∙ length-replicate width 0 in
    le_trans (le_of_eq (ap (λ n. 65472 / (21 * width + 1) * (21 * n + 1)) part))
    (le_trans (div-mul-le_self 65472 (21 * width + 1)) c.requires)

pub returns : goal.returns
unfolding next_lines rows_at_once
returns c =
    let s = c.args.state in
    let pixels = c.args.pixels.now in
    let cells = c.args.cells.now in
    let width = width_is s _ c.in-Ok.ensures in
    let row = take-replicate _ 1279 0 width.1 ∙ ap (λ n. replicate n 0) width.0 in
    put_same (ap₂ (λ n l. row_lines n s pixels l cells) (at_least_one _ width.1 ∙ ap (λ w. max 1 (65472 / (21 * w + 1))) width.0) row) c.put_lines.ensures
