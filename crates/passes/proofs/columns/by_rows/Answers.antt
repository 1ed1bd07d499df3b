-- What `search` does not find of `columns::by_rows`.
use native.Mathlib.Nat.{one-mul, mul_comm}
use Prim.Native.Nat.{ℕ, ◌+◌, ◌*◌, ◌/◌, ◌≤◌, ◌<◌}
use native.Mathlib.Omega.{arith}
use lib.ListN.{length}
use Rattle.laws.proofs.Numbers.{row_fits}
use Rattle.passes.proofs.Running.{row_within, row_before, still_ready}
use Rattle.passes.proofs.columns.by_rows.Goals as goal

-- where a row ends that is whole
whole_row : (s j size : ℕ) → 0 < s → j < size / s → j * s + s ≤ size
whole_row s j size h g = omega (arith, row_fits s j (size / s) g, mul_comm (size / s) s)

pub loop-j-init : goal.loop-j-init
loop-j-init c = λ k h. c.requires.first k (omega (arith, one-mul c.args.step))

pub next_row-requires : goal.next_row-requires
next_row-requires c =
    let args = c.args in
    let turn = c.loop-j in
    let inside = whole_row args.step turn.j (length args.src.now) c.requires.ready.apart c.loop-j-test.true in
    record {
      ready = still_ready args.step args.n _ args.dst.now _ c.requires.ready turn.auto.dst;
      below = row_within args.step turn.j (omega arith);
      short = omega arith;
      inside = inside;
      whole = λ h. row_before args.step args.n turn.j h;
      sums = λ k l. turn.invariant k (omega (arith, inside));
    }
