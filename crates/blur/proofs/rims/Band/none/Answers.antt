-- `blur::rims::Band::none` meets its contract: the run of equal weights around the column in the middle.
-- Assumes nothing.
use Rattle.std.proofs.Common.{refl}
use Rattle.blur.proofs.Parts.{level_run, get_d_zeros, ready_none}
use Rattle.blur.proofs.rims.Band.none.Goals as goal

pub returns : goal.returns
returns c =
    let to = c.run_end-to.ensures in
    let from = c.run_start-from.ensures in
    (ready_none _ (level_run _ _ _ _ from.0 to.0 to.1 from.1 to.2) refl c.of.ensures c.requires.1 (get_d_zeros 1024), refl)
