-- What `search` does not find of `climbing::levels`.
use mathlib.Core.Path.{◌≡◌, sym, ap, subst, ◌∙◌}
use Prim.Native.Nat.{◌+◌, ◌≤◌, ◌<◌}
use native.Mathlib.Numerals.{add-one}
use native.Mathlib.Omega.{arith}
use lib.ListN.{length}
use Rattle.spec.specs.Ladder.{ladder}
use Rattle.laws.proofs.Kernels.{at}
use Rattle.laws.proofs.Refusals.{Accepted}
use Rattle.laws.proofs.Flat.{filtered}
use Rattle.laws.proofs.Ladder.{rungs_before}
use Rattle.passes.specs.Steps.{Small}
use Rattle.passes.specs.Turned.{held, turned_all}
use Rattle.passes.specs.Climbed.{axes_of}
use Rattle.passes.proofs.Turning.{same_twice}
use Rattle.passes.proofs.Levels.{up_accepted, up_small, rung_accepted, rung_small, rung_done, rung_turned}
use Rattle.passes.proofs.climbing.levels.Goals as goal

pub carry-requires : goal.carry-requires
unfolding ladder
carry-requires c =
    let args = c.args in
    let q = c.requires in
    let a = axes_of args.axes in
    let b = args.buffers.now in
    let size = length b.out.now in
    let most : args.level + 2 ≤ 10 = omega (arith, q.last) in
    let up : 3 ≤ args.level + 2 = omega (arith, q.first) in
    let is = sym c.level_filter.ensures in
    record {
      accepted = subst Accepted is (up_accepted a args.full_width (at (held b)) size (args.level + 2) most q.accepted q.small 3 up);
      wide = q.wide;
      offsets = q.offsets;
      small = subst (λ r. Small size (filtered r args.full_width (at (held b)))) is
          (up_small a args.full_width (at (held b)) size (args.level + 2) most q.accepted q.small 3 up);
    }

pub loop-i-init : goal.loop-i-init
unfolding ladder
loop-i-init c =
    let args = c.args in
    let b = args.buffers.now in
    let t = c.carry.ensures in
    let is = c.level_filter.ensures in
    record {
      within = omega (arith, c.requires.first);
      same = t.same;
      holder = t.holder ∙ ap (λ r. turned_all r b.holder) is;
      sums = λ k h. t.sums k h ∙ ap (λ r. filtered r args.full_width (at (held b)) k) is;
    }

pub carry-requires-in-loop-i : goal.carry-requires-in-loop-i
unfolding ladder
carry-requires-in-loop-i c =
    let args = c.args in
    let q = c.requires in
    let turn = c.loop-i in
    let a = axes_of args.axes in
    let b = args.buffers.now in
    let size = length b.out.now in
    let now = held turn.buffers in
    let most : args.level + 2 ≤ 10 = omega (arith, q.last) in
    let is = sym c.rung_at.ensures in
    let more = c.loop-i-test.true in
    let v = turn.invariant in
    record {
      accepted = subst Accepted is (rung_accepted a args.full_width (at (held b)) size (args.level + 2) most q.accepted q.small turn.i more);
      wide = q.wide;
      offsets = q.offsets;
      small = subst (λ r. Small (length turn.buffers.out.now) (filtered r args.full_width (at now))) is
          (λ k h.
          rung_small a args.full_width (at (held b)) size (args.level + 2) most q.accepted q.small turn.i more now v.sums k
          (omega (arith, v.same.long)));
    }

pub loop-i-preserved : goal.loop-i-preserved
loop-i-preserved c =
    let args = c.args in
    let turn = c.loop-i in
    let W = args.full_width in
    let a = axes_of args.axes in
    let b = args.buffers.now in
    let now = held turn.buffers in
    let v = turn.invariant in
    let t = c.carry-in-loop-i.ensures in
    let is = c.rung_at.ensures in
    let room : turn.i < 10 = omega (arith, c.requires.last, c.loop-i-test.true) in
    record {
      within = omega (arith, c.loop-i-test.true);
      same = same_twice b turn.buffers c.carry-in-loop-i.new.self v.same t.same;
      holder = rw (add-one turn.i) (t.holder ∙ ap (λ r. turned_all r turn.buffers.holder) is ∙ rung_turned a turn.i room b.holder turn.buffers.holder v.holder);
      sums = rw (add-one turn.i)
          (rung_done a W (at (held b)) (length b.out.now) turn.i room now v.sums _
          (λ k h. t.sums k (omega (arith, v.same.long)) ∙ ap (λ r. filtered r W (at now) k) is));
    }

pub returns-clause-holder : goal.returns-clause-holder
unfolding ladder
returns-clause-holder c =
    let turn = c.loop-i in
    let all : turn.i ≡ c.args.level + 2 = omega (arith, turn.invariant.within, c.loop-i-test.false) in
    turn.invariant.holder ∙ ap (λ i. turned_all (rungs_before (axes_of c.args.axes) i) c.args.buffers.now.holder) all

pub returns-clause-sums : goal.returns-clause-sums
unfolding ladder
returns-clause-sums c =
    let turn = c.loop-i in
    let args = c.args in
    let all : turn.i ≡ args.level + 2 = omega (arith, turn.invariant.within, c.loop-i-test.false) in
    λ k h. turn.invariant.sums k h ∙ ap (λ i. filtered (rungs_before (axes_of args.axes) i) args.full_width (at (held args.buffers.now)) k) all
