-- `stream::cascades::work` meets its contract: the row list on the pixels and on the cells that it keeps, the column list on those past
-- its own.
-- Assumes nothing.
use Rattle.std.proofs.Common.{◌≡◌, ℕ, ◌+◌, ◌-◌, ◌*◌, ◌^◌, ◌<◌, ◌≤◌, List, ◌++◌, length, get_or, take, drop, sym, refl, ap, ◌∙◌, subst, ap₂, le_trans, le_of_eq, lt_of_le_of_lt, mul-le-mul, mul-add, arith, lit<, length-drop, length-take-le}
use Rattle.spec.specs.Words.{tab}
use Rattle.spec.specs.Recipe.{recipe, widths, weight}
use Rattle.spec.specs.Stream.{box_cells, cascade_cells, cascade_cost}
use Rattle.laws.proofs.Boxes.{length_widths, boxes_all, boxes_few}
use Rattle.stream.specs.Private.{kept}
use Rattle.stream.specs.Stages.{Worked, row_stage, column_stage, stages}
use Rattle.stream.proofs.Boxes.{cascade_small}
use Rattle.stream.proofs.Both.{both_lists}
use Rattle.stream.proofs.RowList.{row_after_lem, total_small, total_kept, row_list}
use Rattle.stream.proofs.cascades.work.Goals as goal

pub keep-first-requires : goal.keep-first-requires
keep-first-requires c =
    let a = c.args in
    let p = c.requires in
    let ns = widths a.filter.rows in
    let all = boxes_all a.filter.rows _ c.boxes.ensures p.0 in
    let short : length ns ≤ 48 = omega (arith, length_widths a.filter.rows, p.0) in
    let bytes : (k : ℕ) → get_or a.pixels.now k 0 ≤ 255 = λ k. omega (arith, c.type_inv.pixels k) in
    let small = le_trans (le_of_eq c.along-total.ensures.1) (total_small (length a.row.now) ns a.pixels.now short p.3 bytes) in (
      boxes_few a.filter.rows _ c.boxes.ensures,
      omega (arith, p.3, c.along-total.auto.row),
      le_trans (le_of_eq (ap cascade_cells all)) (omega (arith, p.4)),
      subst (λ l. 0 < weight l) (sym all) p.5,
      subst (λ l. c.along-total.result * weight l < 2 ^ 64) (sym all) (lt_of_le_of_lt (mul-le-mul small p.6) (lit< tt)),
    )

pub offset_bounds-cells-first : goal.offset_bounds-cells-first
offset_bounds-cells-first c =
    let all = boxes_all c.args.filter.rows _ c.boxes.ensures c.requires.0 in
    record { fits = omega (arith, c.keep-first.ensures.1, ap cascade_cells all, c.requires.4, c.keep-first.auto.cells) }

pub slice_bounds-down-count : goal.slice_bounds-down-count
slice_bounds-down-count c =
    let all = boxes_all c.args.filter.rows _ c.boxes.ensures c.requires.0 in
    omega (arith, c.keep-first.ensures.1, ap cascade_cells all, c.requires.4, c.keep-first.auto.cells)

pub slice_bounds-down-start : goal.slice_bounds-down-start
slice_bounds-down-start c =
    let all = boxes_all c.args.filter.rows _ c.boxes.ensures c.requires.0 in
    omega (arith, c.keep-first.ensures.1, ap cascade_cells all, c.requires.4, c.keep-first.auto.cells)

pub down-requires : goal.down-requires
down-requires c =
    let a = c.args in
    let p = c.requires in
    let cells = c.keep-first.new.cells in
    let own = c.keep-first.result.cells in
    let rows = boxes_all a.filter.rows _ c.boxes.ensures p.0 in
    let columns = boxes_all a.filter.columns _ c.boxes-columns.ensures p.1 in
    let w : length c.along-total.new.row ≡ length a.row.now = c.along-total.auto.row in
    let past : length c.along-total.new.row * cascade_cells c.boxes-columns.result.now ≤ length cells - own =
    omega (arith, p.4, c.keep-first.ensures.1, ap cascade_cells rows, c.keep-first.auto.cells, ap₂ ◌*◌ w (ap cascade_cells columns)) in (
      boxes_few a.filter.columns _ c.boxes-columns.ensures,
      omega (arith, p.2),
      omega (arith, p.3),
      le_trans past (le_of_eq (sym (length-take-le (length cells - own) (drop own cells) (le_of_eq (sym (length-drop own cells)))))),
    )

pub overflow_add-result : goal.overflow_add-result
unfolding cascade_cost
overflow_add-result c =
    let a = c.args in
    let row = c.along-total.new.row in
    let narrow : length row ≤ 1279 = omega (arith, c.requires.3, c.along-total.auto.row) in
    record { fits = omega (arith, c.keep-first.ensures.0, c.down.ensures.0, cascade_small _ (length row) (boxes_few a.filter.rows _ c.boxes.ensures) narrow, cascade_small _ (length row) (boxes_few a.filter.columns _ c.boxes-columns.ensures) narrow) }

pub returns : goal.returns
unfolding recipe
returns c =
    let a = c.args in
    let p = c.requires in
    let ns = widths a.filter.rows in
    let ms = widths a.filter.columns in
    let xs = a.pixels.now in
    let w = length a.row.now in
    let row = tab w (λ k. get_or xs k 0) in
    let row₁ = c.along-total.new.row in
    let cells₁ = c.keep-first.new.cells in
    let rows = boxes_all a.filter.rows _ c.boxes.ensures p.0 in
    let columns = boxes_all a.filter.columns _ c.boxes-columns.ensures p.1 in
    let short : length ns ≤ 48 = omega (arith, length_widths a.filter.rows, p.0) in
    let bytes : (k : ℕ) → get_or xs k 0 ≤ 255 = λ k. omega (arith, c.type_inv.pixels k) in
    let own = c.keep-first.ensures.1 ∙ ap cascade_cells rows in
    let wide : length row₁ ≡ w = c.along-total.auto.row in
    let long : length cells₁ ≡ length a.cells.now = c.keep-first.auto.cells in
    let made = row_list w ns xs short p.3 bytes a.cells.now p.5 (omega (arith, p.4)) p.7 in
    let row_is : row₁ ≡ (stages box_cells row_stage ns row a.cells.now).row =
    c.along-total.ensures.0 ∙ row_after_lem w ns xs short p.3 bytes a.row.now refl ∙ sym (ap (λ (x : Worked). x.row) made) in
    let cells_are : cells₁ ≡ (stages box_cells row_stage ns row a.cells.now).cells =
    c.keep-first.ensures.2
    ∙ ap (λ l. kept l c.along-total.result ++ drop (cascade_cells l) a.cells.now) rows
    ∙ ap (λ k. k ++ drop (cascade_cells ns) a.cells.now) (ap (λ t. kept ns t) c.along-total.ensures.1 ∙ total_kept w ns xs short p.3 bytes)
    ∙ sym (ap (λ (x : Worked). x.cells) made) in
    let inside : c.keep-first.result.cells ≤ length a.cells.now = omega (arith, own, p.4) in
    let part = take (length cells₁ - c.keep-first.result.cells) (drop c.keep-first.result.cells cells₁) in
    let second : List ℕ → Worked = λ l. stages (λ n. length row₁ * box_cells n) (column_stage a.emitted) l row₁ part in
    let done = both_lists (recipe a.filter) a.emitted c.keep-first.result.cells row a.cells.now row₁ cells₁ own inside row_is cells_are long part _ _ refl
    (c.down.ensures.1 ∙ ap (λ l. (second l).row) columns) (c.down.ensures.2 ∙ ap (λ l. (second l).cells) columns) in
    let count = ap₂ ◌+◌ (c.keep-first.ensures.0 ∙ ap₂ ◌*◌ wide (ap cascade_cost rows)) (c.down.ensures.0 ∙ ap₂ ◌*◌ wide (ap cascade_cost columns)) in
    (omega (arith, count, mul-add w (cascade_cost ns) (cascade_cost ms)), done.0, done.1)
