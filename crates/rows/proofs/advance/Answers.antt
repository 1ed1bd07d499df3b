-- `rows::advance` meets its contract: refused by 9, 10 or 6, or one of the two calls, as its case asks for.
-- Assumes nothing.
use mathlib.Core.Path.{◌≡◌, sym, ap, ◌∙◌}
use Prim.Native.Nat.{◌+◌, ◌-◌, ◌*◌, ◌≤◌}
use native.Mathlib.Nat.{mul_comm}
use native.Mathlib.Omega.{arith}
use lib.ListN.{length, take, drop}
use Rattle.laws.proofs.Lists.{part_within}
use Rattle.laws.proofs.Numbers.{row_fits}
use Rattle.laws.proofs.Refusals.{same_length_so}
use Rattle.stream.specs.Calls.{called, push as pushOf}
use Rattle.rows.specs.Runs.{picture_row}
use Rattle.rows.proofs.Advancing.{advance_other, advance_row, advance_drain}
use Rattle.rows.proofs.advance.Lts
use Rattle.rows.proofs.advance.Reads
use Rattle.rows.proofs.advance.Tie
use Rattle.rows.proofs.advance.Goals as goal

-- the slice is the whole picture, and the row that is due lies inside it
whole : (c : Lts.Else1 Tie.the-claims Reads.Pre Reads.Post) → let s = c.args.state in
    length c.args.pixels.now ≡ s.width * s.height
whole c = same_length_so _ _ (sym c.is_other_length.ensures ∙ c.if-is_other_length.false)

inside : (c : Lts.Then2 Tie.the-claims Reads.Pre Reads.Post) → let s = c.args.state in
    s.emitted * s.width + s.width ≤ length c.args.pixels.now
inside c =
    let s = c.args.state in
    omega (arith, row_fits s.width s.emitted s.height c.if-at-state.true, whole c.before.before, mul_comm s.width s.height)

pub returns-then-is_other_length : goal.returns-then-is_other_length
unfolding called
returns-then-is_other_length c =
    let other = sym c.is_other_length.ensures ∙ c.if-is_other_length.true in
    advance_other c.args.state c.args.pixels.now c.args.out.now c.args.cells.now other _ c.pixels_refusal-refusal.ensures

pub overflow_mul-from : goal.overflow_mul-from
overflow_mul-from c = omega (arith, inside c.before)

pub overflow_add-to : goal.overflow_add-to
overflow_add-to c = omega (arith, inside c.before)

pub slice_bounds-push-end : goal.slice_bounds-push-end
slice_bounds-push-end c = omega (arith, inside c.before)

pub returns-then-at-state : goal.returns-then-at-state
unfolding picture_row
returns-then-at-state c =
    let s = c.args.state in
    let pixels = c.args.pixels.now in
    let from = s.emitted * s.width in
    let size : from + s.width - from ≡ s.width = omega arith in
    c.push.ensures
    ∙ ap (λ l. pushOf s l c.args.out.now c.args.cells.now)
    (ap (λ n. take n (drop from pixels)) size ∙ sym (part_within from s.width pixels (inside c.before.before.before.before.before.before.before.before.before)))
    ∙ advance_row s pixels c.args.out.now c.args.cells.now (whole c.before.before.before.before.before.before.before.before.before.before.before) c.if-at-state.true

pub returns-else-at-state : goal.returns-else-at-state
returns-else-at-state c =
    c.drain.ensures
    ∙ advance_drain c.args.state c.args.pixels.now c.args.out.now c.args.cells.now (whole c.before.before.before.before.before.before.before.before.before.before) c.if-at-state.false
