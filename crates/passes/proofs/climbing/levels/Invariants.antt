-- `passes::climbing::levels` meets its contract: level 1 is worked before the loop, and after i widths what is held are the sums of the
-- first i, after i of level + 2 those of the level.
-- Assumes nothing.
use mathlib.Core.Path.{◌≡◌}
use Prim.Native.Nat.{◌+◌, ◌≤◌}
use lib.ListN.{length}
use Rattle.laws.proofs.Kernels.{at}
use Rattle.laws.proofs.Flat.{filtered}
use Rattle.laws.proofs.Ladder.{rungs_before}
use Rattle.passes.specs.Steps.{Below}
use Rattle.passes.specs.Turned.{turned_all, held, SameBuffers}
use Rattle.passes.specs.Climbed.{axes_of}
use Rattle.passes.proofs.climbing.levels.Given as goal

abbrev pub invariant-loop-i : goal.invariant-loop-i
invariant-loop-i l =
    let first = l.fn.buffers in
    let r = rungs_before (axes_of l.axes) l.i in
    record {
      within : l.i ≤ l.level + 2;
      same : SameBuffers first l.buffers;
      holder : l.buffers.holder ≡ turned_all r first.holder;
      sums : Below (length first.out.now) (filtered r l.full_width (at (held first))) (held l.buffers);
    }
