-- What an answer stands for: the exact sum and the inside weight at a picture place, or the number of a refusal.
use Rattle.std.specs.Prelude.{ℕ, Result}
use Rattle.spec.specs.declared.refusal.Refusal.{Refusal}
use Rattle.spec.specs.Recipe.{Recipe}
use Rattle.spec.specs.Picture.{Picture}
use Rattle.spec.specs.Gray.{same_sum, place_weight}
use Rattle.spec.specs.Refusals.{Answer, told}
use Rattle.direct.specs.declared.points.Point.{Point}

-- an exact sum, and the weight over which a grey, its leftover and a quotient of it are
pub record WeighedSum : Type 0 where
  pub sum : ℕ
  pub weight : ℕ

-- those at a picture place
abbrev pub weighed_sum : Recipe → Picture → ℕ → ℕ → WeighedSum
weighed_sum r p i j = record { sum = same_sum r p i j; weight = place_weight r p i j }

-- those that a point holds
abbrev pub weighed : Point → WeighedSum
weighed s = record { sum = s.sum; weight = s.weight }

abbrev pub point_told : Result Point Refusal → Answer WeighedSum
point_told = told weighed
