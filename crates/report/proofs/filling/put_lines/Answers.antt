-- What `search` does not find of `filling::put_lines`.
-- Assumes nothing.
use mathlib.Core.Path.{◌≡◌, refl, subst, ◌∙◌}
use Prim.Native.Nat.{ℕ, suc, ◌+◌, ◌-◌, ◌*◌, ◌^◌, ◌≤◌, ◌<◌}
use native.Mathlib.Nat.{add-mul, one-mul}
use native.Mathlib.Omega.{arith}
use borrow.Author.Rules.{rules}
use mathlib.Core.List.{List}
use lib.ListN.{length, take, drop, length-drop}
use lib.Seq.{length-take-le}
use Rattle.laws.proofs.Numbers.{row_fits}
use Rattle.text.proofs.Lines.{length_line}
use Rattle.report.proofs.Rows.{Putting, putting_none, putting_more, putting_stopped, putting_ended}
use Rattle.report.proofs.filling.put_lines.Goals as goal

pub loop-init : goal.loop-init
loop-init c =
    let a = c.args in
    let whole : a.count ≡ a.count - 0 = omega arith in
    record {
      wide = refl;
      room = omega arith;
      lines =
          subst (λ n. Putting a.count a.state a.pixels.now a.row.now a.cells.now a.text.now n a.state a.row.now a.cells.now a.text.now 0) whole
          (putting_none a.count a.state a.pixels.now a.row.now a.cells.now a.text.now);
    }

pub returns-in-Err : goal.returns-in-Err
returns-in-Err c =
    let turn = c.loop in
    let one : c.args.count - turn.counter ≡ suc (c.args.count - (turn.counter + 1)) = omega (arith, c.loop-test.true) in
    putting_stopped _ _ _ _ _ _ _ _ _ _ _ _ _ _ c.in-Err.ensures _ _ one turn.invariant.lines

-- the next line has room
room_for : (long end k count most : ℕ) → k < count → end ≤ k * long → count * long ≤ most → end + long ≤ most
room_for long end k count most h e f = omega (arith, row_fits long k count h)

-- the rest of a text, lent
rest_long : (at : ℕ) (text : List ℕ) → length (take (length text - at) (drop at text)) ≡ length text - at
rest_long at text = length-take-le _ _ (omega (arith, length-drop at text))

pub print-end-requires : goal.print-end-requires
print-end-requires c =
    let turn = c.loop in
    let room = room_for _ _ _ _ _ c.loop-test.true turn.invariant.room c.requires in
    omega (arith, room, c.advance.auto.out ∙ turn.invariant.wide, turn.auto.text, rest_long turn.end turn.text)

pub overflow_add-end : goal.overflow_add-end
overflow_add-end c =
    let turn = c.loop in
    let room = room_for _ _ _ _ _ c.loop-test.true turn.invariant.room c.requires in
    let fits : length c.args.text.now < 2 ^ 64 = search rules in
    omega (arith, room, fits, c.print-end.ensures.0, length_line c.advance.new.out, c.advance.auto.out ∙ turn.invariant.wide)

pub loop-preserved : goal.loop-preserved
loop-preserved c =
    let turn = c.loop in
    let long = 21 * length c.args.row.now + 1 in
    let wide = c.advance.auto.out ∙ turn.invariant.wide in
    let one : c.args.count - turn.counter ≡ suc (c.args.count - (turn.counter + 1)) = omega (arith, c.loop-test.true) in
    let line : c.print-end.result ≤ long = omega (arith, c.print-end.ensures.0, length_line c.advance.new.out, wide) in
    record {
      wide = wide;
      room = omega (arith, turn.invariant.room, line, add-mul turn.counter 1 long, one-mul long);
      lines =
          putting_more _ _ _ _ _ _ _ _ _ _ _ _ _ _ c.in-Ok.ensures _ _ one turn.invariant.lines _ c.print-end.ensures.0 _ c.print-end.ensures.1;
    }

pub returns : goal.returns
returns c =
    let turn = c.loop in
    let none : c.args.count - turn.counter ≡ 0 = omega (arith, c.loop-test.false) in
    putting_ended _ _ _ _ _ _ _ _ _ _ _ _ none turn.invariant.lines
