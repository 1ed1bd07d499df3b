-- `job::reading::read16` meets its contract.
-- Assumes nothing.
use native.Mathlib.Omega.{arith}
use Rattle.spec.specs.Job.{read16}
use Rattle.job.proofs.reading.read16.Goals as goal

pub returns : goal.returns
unfolding read16
returns c = (omega (arith, c.from_le_bytes.ensures), omega arith)
