-- What `search` does not find of `buffers::Buffers::cascade`.
use mathlib.Core.Path.{◌≡◌, sym, ap, subst, ◌∙◌}
use Prim.Native.Nat.{◌+◌, ◌*◌, ◌^◌, ◌≤◌}
use native.Mathlib.Nat.{le_trans, mul-le-mul_right}
use native.Mathlib.Omega.{arith}
use lib.ListN.{length, get_or, drop, drop_of_length-le}
use Rattle.laws.proofs.Kernels.{at}
use Rattle.laws.proofs.Cascades.{spread, cascaded}
use Rattle.passes.specs.Steps.{Ready}
use Rattle.passes.specs.Turned.{held, turned, turned_by}
use Rattle.passes.proofs.Turning.{length_held, same_twice, next_width, left_more, width_pos, width_small}
use Rattle.passes.proofs.buffers.Buffers.cascade.Goals as goal

pub turn-requires : goal.turn-requires
turn-requires c =
    let args = c.args in
    let turn = c.loop-n in
    let ws = args.boxes.now in
    let i = turn.n-index in
    let n = get_or ws i 0 in
    let first = args.self.now in
    let now = held turn.self in
    let size = length first.out.now in
    let left = turn.invariant.left in
    let e = next_width ws i (omega arith) in
    let long = length_held turn.self ∙ turn.invariant.same.long in
    let is : c.from.result ≡ n = c.from.ensures in
    let small : 255 * args.step ≤ 2 ^ 32 = c.requires.offsets in
    subst (λ m. Ready args.step m now turn.self.out.now) (sym is)
    (record {
      apart = c.requires.apart;
      wide = width_pos args.step ws size (held first) i n now e left c.requires.not_zero;
      offsets = le_trans (mul-le-mul_right args.step (omega arith)) small;
      size = sym (length_held turn.self);
      small = λ k h. width_small args.step ws size (held first) i n now e left c.requires.not_zero c.requires.small k (omega (arith, long));
    })

pub loop-n-preserved : goal.loop-n-preserved
loop-n-preserved c =
    let args = c.args in
    let turn = c.loop-n in
    let ws = args.boxes.now in
    let i = turn.n-index in
    let n = get_or ws i 0 in
    let first = args.self.now in
    let size = length first.out.now in
    let e = next_width ws i (omega arith) in
    let is : c.from.result ≡ n = c.from.ensures in
    let t = c.turn.ensures in
    record {
      same = same_twice first turn.self c.turn.new.self turn.invariant.same t.same;
      holder = ap (turned_by (drop (i + 1) ws)) (t.holder ∙ ap (λ m. turned m turn.self.holder) is)
          ∙ ap (λ l. turned_by l turn.self.holder) (sym e)
          ∙ turn.invariant.holder;
      left = left_more args.step ws size (held first) i n (held turn.self) e turn.invariant.left (held c.turn.new.self)
          (λ k h. t.sums k (omega (arith, turn.invariant.same.long)) ∙ ap (λ m. spread args.step m (at (held turn.self)) k) is);
    }

pub returns-clause-holder : goal.returns-clause-holder
returns-clause-holder c =
    let turn = c.loop-n in
    let done = drop_of_length-le c.args.boxes.now {i = turn.n-index} (omega arith) in
    ap (λ ws. turned_by ws turn.self.holder) (sym done) ∙ turn.invariant.holder

pub returns-clause-sums : goal.returns-clause-sums
unfolding cascaded
returns-clause-sums c =
    let turn = c.loop-n in
    let done = drop_of_length-le c.args.boxes.now {i = turn.n-index} (omega arith) in
    λ k h. ap (λ ws. cascaded c.args.step ws (at (held turn.self)) k) (sym done) ∙ turn.invariant.left k h
