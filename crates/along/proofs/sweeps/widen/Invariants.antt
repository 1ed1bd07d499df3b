-- `along::sweeps::widen` meets its contract: values are written from the left.
-- Assumes nothing.
use Rattle.std.proofs.Common.{ℕ, ◌<◌, slice_index_or}
use Rattle.along.proofs.sweeps.widen.Given as goal

abbrev pub invariant-loop-k : goal.invariant-loop-k
invariant-loop-k g l =
    (j : ℕ) (a : g.row.A.Denot) (b : g.row.B.Denot) → j < l.k → g.B.From.from_gives (slice_index_or l.from j a) (slice_index_or l.to j b)
