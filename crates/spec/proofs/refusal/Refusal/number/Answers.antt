use Rattle.std.proofs.Common.{◌≡◌, ◌+◌, refl}
use denote.Enum.Declared.{tag_of}
use Rattle.spec.specs.contracts.refusal.Refusal.{the_type}
use Rattle.spec.specs.Refusals.{number}
use Rattle.spec.specs.declared.refusal.Refusal.{Refusal}
use Rattle.spec.specs.declared.refusal.Refusal.TheVariants.{TooLong, ZeroWidth, TooFar, TooHeavy, BadSides, OtherPixels, OtherOutput, TooFewCells, BadState, NotDue, TooBright, ParityDiffers, ProductTooHeavy, BadFile, Outside, BadLevel}
use Rattle.spec.proofs.refusal.Refusal.number.Goals as goal

-- each variant's place in the list is its number
counted : (r : Refusal) → tag_of the_type r + 1 ≡ number r
unfolding number
counted TooLong = refl
counted ZeroWidth = refl
counted TooFar = refl
counted TooHeavy = refl
counted BadSides = refl
counted OtherPixels = refl
counted OtherOutput = refl
counted TooFewCells = refl
counted BadState = refl
counted NotDue = refl
counted TooBright = refl
counted ParityDiffers = refl
counted ProductTooHeavy = refl
counted BadFile = refl
counted Outside = refl
counted BadLevel = refl

pub returns : goal.returns
returns c = counted c.args.self
