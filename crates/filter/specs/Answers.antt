-- What an answer stands for: the values that document 01 names, or the number of a refusal.
use Rattle.std.specs.Prelude.{Result}
use Rattle.spec.specs.declared.refusal.Refusal.{Refusal}
use Rattle.spec.specs.Picture.{Sides as SpecSides}
use Rattle.spec.specs.Gray.{ScaleCard}
use Rattle.spec.specs.Refusals.{Answer, told}
use Rattle.filter.specs.declared.sizes.Sides.{Sides}
use Rattle.filter.specs.declared.card.Scale.{Scale}

-- the grown sides
abbrev pub sides : Sides → SpecSides
sides s = record { width = s.width; height = s.height }

abbrev pub size_told : Result Sides Refusal → Answer SpecSides
size_told = told sides

-- the scale card
abbrev pub card : Scale → ScaleCard
card s =
    record {
      weight = s.gain;
      row_reach = s.row_order;
      column_reach = s.column_order;
      row_variance = s.row_variance;
      column_variance = s.column_variance;
    }

abbrev pub card_told : Result Scale Refusal → Answer ScaleCard
card_told = told card
