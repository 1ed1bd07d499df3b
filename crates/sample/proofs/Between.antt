-- The claims of specs/Between.antt: the grey that is read is the one that is defined for the place.
-- Assumes nothing.
use native.Mathlib.Omega.{arith}
use Rattle.laws.proofs.Between.{same_grays_between, grays_rise}
use Rattle.sample.specs.Between.{ReadingBetween, ReadingRises}
use Rattle.sample.proofs.Grays.{as_defined}

pub reading_between : ReadingBetween
reading_between r p i j x read =
    let is = as_defined r p i j x read in
    let fits = same_grays_between r p is.picture i j is.column is.row in
    (is.gray, is.leftover, is.case, (omega (arith, is.is_same_gray, fits.0), omega (arith, is.is_same_gray, fits.1)))

pub reading_rises : ReadingRises
reading_rises r p q u i j x y before after =
    let a = as_defined r p i j x before in
    let b = as_defined r q i j y after in
    (a.gray, b.gray, a.leftover, b.leftover, a.case, b.case, omega (arith, a.is_same_gray, b.is_same_gray, grays_rise r p q u i j))
