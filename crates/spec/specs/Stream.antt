-- Document 01, "The three methods": the work cells and the cost of the one pass, and the state that it carries.
use Rattle.std.specs.Prelude.{cond, List, ℕ, ◌+◌, ◌*◌, eqb, ltb}
use Rattle.spec.specs.Words.{total}
use Rattle.spec.specs.Recipe.{Recipe}
use Rattle.spec.specs.Picture.{full_width_of}

-- State: the recipe, w, h and the rows yielded.
pub record State : Type 0 where
  pub recipe : Recipe
  pub width : ℕ
  pub height : ℕ
  pub emitted : ℕ

abbrev pub state_with : Recipe → ℕ → ℕ → ℕ → State
state_with r w h e = record { recipe = r; width = w; height = h; emitted = e }

-- cells of a box: a width of 1 needs none, a width of 2 one, a width n of 3 or more n
unfoldable pub box_cells : ℕ → ℕ
box_cells n = cond (ltb n 2) 0 (cond (eqb n 2) 1 n)

-- cells of a list
unfoldable pub cascade_cells : List ℕ → ℕ
cascade_cells ns = total box_cells ns

-- Needed cells: the row list's, plus (w + rx) times the column list's.
unfoldable pub stream_cells : Recipe → ℕ → ℕ
stream_cells r w = cascade_cells r.rows + full_width_of r w * cascade_cells r.columns

-- cost of a box in additions and subtractions: width 1 costs 0, width 2 costs 1, wider costs 2
unfoldable pub box_cost : ℕ → ℕ
box_cost n = cond (ltb n 2) 0 (cond (eqb n 2) 1 2)

-- cost of a list
unfoldable pub cascade_cost : List ℕ → ℕ
cascade_cost ns = total box_cost ns

-- Count of a row call or a drain: (w + rx) times the cost of both lists.
unfoldable pub row_cost : Recipe → ℕ → ℕ
row_cost r w = full_width_of r w * (cascade_cost r.rows + cascade_cost r.columns)
