-- `text::digit_pairs` meets its contract: that the byte string is the list of pairs is computed.
-- Assumes nothing.
use mathlib.Core.Path.{refl}
use mathlib.Core.List.{flatten}
use Rattle.spec.specs.Words.{tab}
use Rattle.text.specs.Private.{digit_pairs}
use Rattle.text.proofs.digit_pairs.Goals as goal

pub returns : goal.returns
unfolding digit_pairs tab flatten
returns c = refl
