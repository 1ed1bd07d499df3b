-- Demand 3's example: 2, 6, 6 retyped as 3, 3, 8. Reach, weight and count all agree, and yet the recipes are told apart.
use Rattle.std.specs.Prelude.{◌≡◌, Bool, false, List, [], ◌∷◌, ℕ, length, Result, Ok}
use Rattle.spec.specs.declared.refusal.Refusal.{Refusal}
use Rattle.spec.specs.declared.Filter.{Filter}
use Rattle.spec.specs.Recipe.{recipe, held_filter, order, gain}
use Rattle.spec.specs.Picture.{Picture, picture}
use Rattle.spec.specs.Refusals.{alone}
use Rattle.equivalence.specs.Compared.{Compared}
use Rattle.equivalence.specs.Yields.{AcceptedWith, Method, Yields}

-- these widths along the rows, and none down the columns
abbrev along_rows : List ℕ → Filter
along_rows ns = held_filter (alone ns)

abbrev pub two_six_six : Filter
two_six_six = along_rows (2 ∷ 6 ∷ 6 ∷ [])

abbrev pub three_three_eight : Filter
three_three_eight = along_rows (3 ∷ 3 ∷ 8 ∷ [])

-- the picture of a single pixel 1, and its grown row by each of the two recipes
abbrev pub dot : Picture
dot = picture 1 1 (1 ∷ [])

abbrev pub two_six_six_row : List ℕ
two_six_six_row = 1 ∷ 3 ∷ 5 ∷ 7 ∷ 9 ∷ 11 ∷ 11 ∷ 9 ∷ 7 ∷ 5 ∷ 3 ∷ 1 ∷ []

abbrev pub three_three_eight_row : List ℕ
three_three_eight_row = 1 ∷ 3 ∷ 6 ∷ 8 ∷ 9 ∷ 9 ∷ 9 ∷ 9 ∷ 8 ∷ 6 ∷ 3 ∷ 1 ∷ []

-- The claim about the two.
pub record ToldApart : Type 0 where
  -- recipes and picture are accepted
  pub first_accepted : AcceptedWith (recipe two_six_six) dot
  pub second_accepted : AcceptedWith (recipe three_three_eight) dot
  -- the reach along the rows is 11, the weight 72 and the count of widths 3, for both
  pub reaches : (order (recipe two_six_six).rows ≡ 11) × (order (recipe three_three_eight).rows ≡ 11)
  pub weights : (gain (recipe two_six_six) ≡ 72) × (gain (recipe three_three_eight) ≡ 72)
  pub counts : (length (recipe two_six_six).rows ≡ 3) × (length (recipe three_three_eight).rows ≡ 3)
  -- the comparing call says no
  pub said : (told : Result Bool Refusal) → Compared two_six_six three_three_eight told → told ≡ Ok false
  -- by every method the picture shows two rows that differ
  pub first_shown : (m : Method) → Yields m two_six_six dot 0 two_six_six_row
  pub second_shown : (m : Method) → Yields m three_three_eight dot 0 three_three_eight_row
  pub differ : two_six_six_row ≡ three_three_eight_row → ⊥
