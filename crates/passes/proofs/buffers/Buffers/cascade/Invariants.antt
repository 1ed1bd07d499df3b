-- `passes::buffers::Buffers::cascade` meets its contract: the widths that are left lead from the picture as it is now to what all lead to.
-- Assumes nothing.
use mathlib.Core.Path.{◌≡◌}
use lib.ListN.{length, drop}
use Rattle.passes.specs.Turned.{turned_by, held, SameBuffers}
use Rattle.passes.proofs.Turning.{Left}
use Rattle.passes.proofs.buffers.Buffers.cascade.Given as goal

abbrev pub invariant-loop-n : goal.invariant-loop-n
invariant-loop-n l =
    let first = l.initial.self in
    record {
      same : SameBuffers first l.self;
      holder : turned_by (drop l.n-index l.boxes) l.self.holder ≡ turned_by l.boxes first.holder;
      left : Left l.step l.boxes (length first.out.now) (held first) l.n-index (held l.self);
    }
