-- Demand 3: two accepted recipes are called equal exactly when their counts agree, and for each choice of a method for the one and a method
-- for the other exactly when no picture tells them apart.
use Rattle.std.specs.Prelude.{◌≡◌, ◌↔◌, Bool, true, List, ℕ, Result, Ok}
use Rattle.spec.specs.declared.refusal.Refusal.{Refusal}
use Rattle.spec.specs.declared.Filter.{Filter}
use Rattle.spec.specs.Recipe.{Recipe, recipe, gain}
use Rattle.spec.specs.Picture.{Picture, full_sides}
use Rattle.spec.specs.Same.{SameCounts}
use Rattle.equivalence.specs.Compared.{Compared}
use Rattle.equivalence.specs.Yields.{AcceptedRecipe, AcceptedWith, Method, Yields}

-- On a picture the grown sizes agree, the weights agree, and every grown row that both yield, the one by method m and the other by method
-- n, agrees in its place.
pub record Agree (m n : Method) (a b : Filter) (p : Picture) : Type 0 where
  pub sides : full_sides (recipe a) p.width p.height ≡ full_sides (recipe b) p.width p.height
  pub weights : gain (recipe a) ≡ gain (recipe b)
  pub rows : (j : ℕ) (x y : List ℕ) → Yields m a p j x → Yields n b p j y → x ≡ y

-- So it is on every accepted picture.
abbrev pub AgreeAlways : Method → Method → Filter → Filter → Type 0
AgreeAlways m n a b = (p : Picture) → AcceptedWith (recipe a) p → AcceptedWith (recipe b) p → Agree m n a b p

-- The call answers "the same" exactly when the counts agree, and for each pair of methods the counts agree exactly when all pictures do: a
-- method that told nothing apart could not hide behind the others.
pub record Equivalents (a b : Filter) (told : Result Bool Refusal) : Type 0 where
  pub counted : told ≡ Ok true ↔ SameCounts (recipe a) (recipe b)
  pub agreed : (m n : Method) → SameCounts (recipe a) (recipe b) ↔ AgreeAlways m n a b

-- The claim, for all accepted recipes and what the comparing call answers to them.
abbrev pub SameClaim : Type 0
SameClaim =
    (a b : Filter) → AcceptedRecipe (recipe a) → AcceptedRecipe (recipe b) → (told : Result Bool Refusal) → Compared a b told → Equivalents a b told

-- A picture that is accepted with one accepted recipe is accepted with every other: no pair has more or fewer pictures than another, and
-- `ToldApart` shows one that each has.
abbrev pub AcceptedAlike : Type 0
AcceptedAlike = (a b : Recipe) → AcceptedRecipe b → (p : Picture) → AcceptedWith a p → AcceptedWith b p
