-- The claim of specs/Leftovers.antt: the answer is the grey case of the reading, whose leftover is that of the sum there.
-- Assumes nothing.
use mathlib.Core.Path.{sym, subst}
use Rattle.spec.specs.Gray.{place_weight}
use Rattle.spec.specs.Ranges.{WithinHalf}
use Rattle.laws.proofs.Ranges.{same_leftovers_fit}
use Rattle.sample.specs.Leftovers.{ReadingFits}
use Rattle.sample.proofs.Grays.{as_defined}

pub reading_fits : ReadingFits
reading_fits r p i j x read =
    let is = as_defined r p i j x read in
    let fits = same_leftovers_fit r p is.picture i j is.column is.row in
    (is.gray, is.leftover, is.case, subst (WithinHalf (place_weight r p i j)) (sym is.is_same_leftover) fits)
