-- Document 02, S-1 "The fading ladder": recipes that widen level by level.
use Rattle.std.specs.Prelude.{List, [], ◌∷◌, ℕ, ◌+◌, get_or, take}
use Rattle.spec.specs.Recipe.{Recipe}

-- The widths: level 1 is the first three, and levels 2 to 8 add the others in turn.
unfoldable pub rungs : List ℕ
rungs = 2 ∷ 3 ∷ 4 ∷ 6 ∷ 8 ∷ 12 ∷ 16 ∷ 24 ∷ 32 ∷ 48 ∷ []

-- rows only or both axes
pub data Axes : Type 0 where
  rows_only both_axes : Axes

-- a list of widths on these axes
unfoldable pub on_axes : Axes → List ℕ → Recipe
on_axes rows_only ns = record { rows = ns; columns = [] }
on_axes both_axes ns = record { rows = ns; columns = ns }

-- the whole recipe of a level
unfoldable pub ladder : Axes → ℕ → Recipe
ladder a level = on_axes a (take (level + 2) rungs)

-- the one new width of a level from 2 on, as a recipe of its own
unfoldable pub rung : Axes → ℕ → Recipe
rung a level = on_axes a (get_or rungs (level + 1) 0 ∷ [])
