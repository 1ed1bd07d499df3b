-- What a block of bytes stands for that a C caller lends: a list, a recipe; and the block of a recipe.
use Rattle.std.specs.Prelude.{List, ◌∷◌, ◌++◌, ℕ, ◌+◌, get_or}
use Rattle.spec.specs.declared.Cascade.{Cascade}
use Rattle.spec.specs.declared.Filter.{Filter}
use Rattle.spec.specs.Words.{part}

-- the list at a place of a block: its count, and the 48 bytes after it
unfoldable pub list_at : ℕ → List ℕ → Cascade
list_at k block = record { count = get_or block k 0; widths = part (k + 1) 48 block }

-- the recipe that a block stands for: the row list, and the column list after it
unfoldable pub given : List ℕ → Filter
given block = record { rows = list_at 0 block; columns = list_at 49 block }

-- the block of a recipe: of each list its count, and then its widths
unfoldable pub block_of : Filter → List ℕ
block_of f = f.rows.count ∷ (f.rows.widths ++ (f.columns.count ∷ f.columns.widths))
