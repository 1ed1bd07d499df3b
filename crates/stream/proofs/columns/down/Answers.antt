-- What `search` does not find of `columns::down`.
use Rattle.std.proofs.Common.{◌≡◌, ℕ, ◌+◌, ◌-◌, ◌*◌, ◌≤◌, List, ◌++◌, length, take, drop, sym, refl, ap, ◌∙◌, ap₂, le_trans, le_of_eq, arith, take-append-drop, rules, eqb-true}
use Rattle.spec.specs.Words.{total}
use Rattle.spec.specs.Stream.{box_cost, cascade_cells, cascade_cost}
use Rattle.stream.specs.Stages.{column_stage, stages}
use Rattle.stream.proofs.Boxes.{cascade_small}
use Rattle.stream.proofs.Groups.{Done, done_none, done_room, done_count, done_more, done_all}
use Rattle.stream.proofs.Blocks.{cells_of}
use Rattle.stream.proofs.Sweeps.{columns_keep, group_size}
use Rattle.stream.proofs.columns.down.Goals as goal

pub loop-rest-init : goal.loop-rest-init
loop-rest-init c =
    let a = c.args in
    let w = length a.row.now in
    record {
      wide = refl;
      long = refl;
      few = search rules;
      room = le_trans (le_of_eq (group_size w a.widths.now)) c.requires.3;
      worked = done_none (cells_of w) box_cost (column_stage a.emitted) a.widths.now a.row.now a.cells.now;
    }

-- a group and the widths after it
halves : (k : ℕ) (xs ms later : List ℕ) → ms ≡ take k xs → later ≡ drop k xs → xs ≡ ms ++ later
halves k xs ms later p q = sym (take-append-drop k xs) ∙ ap₂ ◌++◌ (sym p) (sym q)

-- its cells are there, and the count stays small
module _ (e : ℕ) (ns row₀ cells₀ rest row cells : List ℕ) (start sum : ℕ) (short : length ns ≤ 48) (narrow : length row₀ ≤ 1279)
    (room : total (cells_of (length row₀)) ns ≤ length cells₀) (wide : length row ≡ length row₀)
    (d : Done (cells_of (length row₀)) box_cost (column_stage e) ns row₀ cells₀ rest row cells start sum)
    (ms later : List ℕ) (split : rest ≡ ms ++ later) (n : ℕ) (is : n ≡ cascade_cells ms) where
  group_cells : length row * n ≡ total (cells_of (length row₀)) ms
  group_cells = ap₂ ◌*◌ wide is ∙ sym (group_size (length row₀) ms)

  group_inside : start + length row * n ≤ length cells
  group_inside =
      omega (arith, group_cells, done_room (cells_of (length row₀)) box_cost (column_stage e) ns row₀ cells₀ (columns_keep e (length row₀)) room rest row cells start sum d ms later split)

  group_counted : sum + length row * cascade_cost ms ≤ 1279 * 96
  unfolding cascade_cost
  group_counted =
      le_trans (le_of_eq (ap (λ w. sum + w * total box_cost ms) wide))
      (le_trans (done_count (cells_of (length row₀)) box_cost (column_stage e) ns row₀ cells₀ (columns_keep e (length row₀)) room rest row cells start sum d ms later split)
      (cascade_small ns (length row₀) short narrow))

pub overflow_add-end : goal.overflow_add-end
overflow_add-end c =
    let a = c.args in
    let now = c.loop-rest in
    let inside = group_inside a.emitted a.widths.now a.row.now a.cells.now _ _ _ _ _ c.requires.0 c.requires.2 now.invariant.room now.invariant.wide now.invariant.worked
    _ _ (halves _ _ _ _ c.split_at.ensures.front c.split_at.ensures.back) _ c.cascade_cells.ensures.0 in
    record { fits = omega (arith, inside) }

pub offset_bounds-cells-start : goal.offset_bounds-cells-start
offset_bounds-cells-start c =
    let a = c.args in
    let now = c.loop-rest in
    let inside = group_inside a.emitted a.widths.now a.row.now a.cells.now _ _ _ _ _ c.requires.0 c.requires.2 now.invariant.room now.invariant.wide now.invariant.worked
    _ _ (halves _ _ _ _ c.split_at.ensures.front c.split_at.ensures.back) _ c.cascade_cells.ensures.0 in
    record { fits = omega (arith, inside) }

pub slice_bounds-group-end : goal.slice_bounds-group-end
slice_bounds-group-end c =
    let a = c.args in
    let now = c.loop-rest in
    let inside = group_inside a.emitted a.widths.now a.row.now a.cells.now _ _ _ _ _ c.requires.0 c.requires.2 now.invariant.room now.invariant.wide now.invariant.worked
    _ _ (halves _ _ _ _ c.split_at.ensures.front c.split_at.ensures.back) _ c.cascade_cells.ensures.0 in
    omega (arith, inside)

pub overflow_add-sum : goal.overflow_add-sum
overflow_add-sum c =
    let a = c.args in
    let now = c.loop-rest in
    let few = group_counted a.emitted a.widths.now a.row.now a.cells.now _ _ _ _ _ c.requires.0 c.requires.2 now.invariant.room now.invariant.wide now.invariant.worked
    _ _ (halves _ _ _ _ c.split_at.ensures.front c.split_at.ensures.back) _ c.cascade_cells.ensures.0 in
    record { fits = omega (arith, few, c.group-sum.ensures.0) }

pub loop-rest-preserved : goal.loop-rest-preserved
unfolding cascade_cost
loop-rest-preserved c =
    let a = c.args in
    let now = c.loop-rest in
    let w = length a.row.now in
    let so = c.group-sum.ensures in
    let ms = c.split_at.result.0.now in
    let later = c.split_at.result.1.now in
    let part = take (now.start + length now.row * c.cascade_cells.result - now.start) (drop now.start now.cells) in
    let split = halves _ now.rest.now ms later c.split_at.ensures.front c.split_at.ensures.back in
    let size = group_cells a.emitted a.widths.now a.row.now a.cells.now _ _ _ _ _ c.requires.0 c.requires.2 now.invariant.room now.invariant.wide now.invariant.worked
    ms later split _ c.cascade_cells.ensures.0 in
    record {
      wide = c.group-sum.auto.row ∙ now.invariant.wide;
      long = search rules;
      few = search rules;
      room = now.invariant.room;
      worked =
          done_more (cells_of w) box_cost (column_stage a.emitted) a.widths.now a.row.now a.cells.now (columns_keep a.emitted w) now.invariant.room _ _ _ _ _ now.invariant.worked
          ms later split _ _ _ _ _ (ap (λ k. now.start + k) size) (so.0 ∙ ap (λ n. n * total box_cost ms) now.invariant.wide) refl
          (so.1 ∙ ap (λ n. (stages (cells_of n) (column_stage a.emitted) ms now.row part).row) now.invariant.wide)
          (so.2 ∙ ap (λ n. (stages (cells_of n) (column_stage a.emitted) ms now.row part).cells) now.invariant.wide);
    }

pub returns : goal.returns
unfolding cascade_cost
returns c =
    let a = c.args in
    done_all (cells_of (length a.row.now)) box_cost (column_stage a.emitted) a.widths.now a.row.now a.cells.now _ _ _ _ _ c.loop-rest.invariant.worked
    (eqb-true (length c.loop-rest.rest.now) 0 (sym c.is_empty.ensures ∙ c.loop-rest-test.false))
