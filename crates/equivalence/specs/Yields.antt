-- The grown rows that each of the three methods yields, in the words of the methods' own contracts. The slices here hold numbers of any size;
-- those of the machine are among them.
use Rattle.std.specs.Prelude.{◌≡◌, List, [], ℕ, ◌*◌, ◌<◌, length, get_or}
use Rattle.spec.specs.declared.Filter.{Filter}
use Rattle.spec.specs.Words.{part}
use Rattle.spec.specs.Recipe.{Recipe, recipe}
use Rattle.spec.specs.Picture.{Picture, largest_gray, Within, full_width_of, full_height_of, full_row}
use Rattle.spec.specs.Refusals.{first, recipe_checks, picture_checks}
use Rattle.direct.specs.Formed.{Formed}
use Rattle.passes.specs.Passed.{Passed}
use Rattle.stream.specs.Calls.{start}
use Rattle.rows.specs.Runs.{Call, outputs}
use Rattle.rows.specs.OnePass.{accepted_calls, FirstRows}

-- a recipe to which none of 1 to 4 applies
abbrev pub AcceptedRecipe : Recipe → Type 0
AcceptedRecipe r = first (recipe_checks r) ≡ 0

-- a picture that is accepted with a recipe: none of 1 to 6 applies, and its pixels are bytes
pub record AcceptedWith (r : Recipe) (p : Picture) : Type 0 where
  pub checked : first (picture_checks r p) ≡ 0
  pub bytes : Within largest_gray p

-- ---- the methods

-- one pass, pass by pass, direct
pub data Method : Type 0 where
  stream : Method
  passes : Method
  direct : Method

-- grown row j of a slice that holds all grown rows one after the other
unfoldable pub row_in : Recipe → Picture → ℕ → List ℕ → List ℕ
row_in r p j out = part (j * full_width_of r p.width) (full_width_of r p.width) out

-- One pass: a start of the picture's sides that is accepted, with any cells; a list of row calls and drains, refused ones included, whose
-- accepted row calls have the picture's first rows in order; and at place j the output of the accepted call there.
pub record StreamedRow (f : Filter) (p : Picture) (j : ℕ) (row : List ℕ) : Type 0 where
  pub cells : List ℕ
  pub calls : List Call
  pub started : (start f p.width p.height cells).number ≡ 0
  pub first_rows : FirstRows p (accepted_calls f p cells calls)
  pub inside : j < length (outputs (accepted_calls f p cells calls))
  pub place : row ≡ get_or (outputs (accepted_calls f p cells calls)) j []

-- Pass by pass: an accepted call, whatever its slices held, and row j of its output.
pub record PassedRow (f : Filter) (p : Picture) (j : ℕ) (row : List ℕ) : Type 0 where
  pub out : List ℕ
  pub cells : List ℕ
  pub new_out : List ℕ
  pub new_cells : List ℕ
  pub contract : Passed (recipe f) p out cells 0 new_out new_cells
  pub inside : j < full_height_of (recipe f) p.height
  pub place : row ≡ row_in (recipe f) p j new_out

-- Direct: the same, with its slices for R and C.
pub record FormedRow (f : Filter) (p : Picture) (j : ℕ) (row : List ℕ) : Type 0 where
  pub rows : List ℕ
  pub columns : List ℕ
  pub out : List ℕ
  pub new_rows : List ℕ
  pub new_columns : List ℕ
  pub new_out : List ℕ
  pub contract : Formed (recipe f) p rows columns out 0 new_rows new_columns new_out
  pub inside : j < full_height_of (recipe f) p.height
  pub place : row ≡ row_in (recipe f) p j new_out

-- A method yields a row at place j, for a recipe and a picture.
unfoldable pub Yields : Method → Filter → Picture → ℕ → List ℕ → Type 0
Yields stream f p j row = StreamedRow f p j row
Yields passes f p j row = PassedRow f p j row
Yields direct f p j row = FormedRow f p j row

-- It yields the row of the exact sums, if there is one at that place, and no other row.
pub record Exactly (f : Filter) (p : Picture) (j : ℕ) (m : Method) : Type 0 where
  pub yielded : j < full_height_of (recipe f) p.height → Yields m f p j (full_row (recipe f) p j)
  pub only : (row : List ℕ) → Yields m f p j row → row ≡ full_row (recipe f) p j

-- The claim: so it is for every accepted recipe and picture, every place and every method.
abbrev pub YieldsClaim : Type 0
YieldsClaim = (f : Filter) (p : Picture) → AcceptedWith (recipe f) p → (j : ℕ) (m : Method) → Exactly f p j m
