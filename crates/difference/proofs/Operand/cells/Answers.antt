-- `difference::Operand::cells` meets its contract.
-- Assumes nothing.
use mathlib.Core.Path.{refl}
use Rattle.difference.specs.Pairs.{grown_cells}
use Rattle.difference.proofs.Operand.cells.Goals as goal

pub returns : goal.returns
unfolding grown_cells
returns c = refl
