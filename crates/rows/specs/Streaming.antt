-- The one pass driven over a picture, in words for those that drive it: where it stands, that a grown row is due, and that it has come.
use Rattle.std.specs.Prelude.{◌≡◌, List, ℕ, ◌+◌, ◌*◌, ◌<◌, min, length}
use Rattle.spec.specs.declared.Filter.{Filter}
use Rattle.spec.specs.Words.{tab}
use Rattle.spec.specs.Recipe.{recipe}
use Rattle.spec.specs.Picture.{Picture, picture, full_width_of, full_height_of, full_row}
use Rattle.laws.proofs.Refusals.{Sized}
use Rattle.stream.specs.declared.calls.State.{State}
use Rattle.stream.specs.Calls.{state_at, start}
use Rattle.rows.specs.Runs.{Call, rows, picture_row}
use Rattle.rows.specs.OnePass.{accepted_calls, left}

-- A state and cells that a list of calls has left, after an accepted start of a recipe and a picture's sides: k calls were accepted, with
-- the rows of the picture in order.
pub record Streamed (f : Filter) (p : Picture) (k : ℕ) (s : State) (cells : List ℕ) : Type 0 where
  pub given : List ℕ
  pub calls : List Call
  pub started : (start f p.width p.height given).number ≡ 0
  pub state : s ≡ (left f p given calls).state
  pub held : cells ≡ (left f p given calls).cells
  pub many : length (accepted_calls f p given calls) ≡ k
  pub taken : rows (accepted_calls f p given calls) ≡ tab (min k p.height) (picture_row p)
  pub sides : Sized p.width p.height
  pub is : s ≡ state_at f p.width p.height k

-- a picture of a state's sides
abbrev pub picture_of : State → List ℕ → Picture
picture_of s pixels = picture s.width s.height pixels

-- a grown row is still to come, and the row that is lent for it is of its width
pub record Due (s : State) (pixels row cells : List ℕ) : Type 0 where
  pub streamed : Streamed s.filter (picture_of s pixels) s.emitted s cells
  pub size : length pixels ≡ s.width * s.height
  pub due : s.emitted < full_height_of (recipe s.filter) s.height
  pub wide : length row ≡ full_width_of (recipe s.filter) s.width

-- it has come, and t is the next state
pub record Came (s t : State) (pixels row cells : List ℕ) : Type 0 where
  pub streamed : Streamed s.filter (picture_of s pixels) (s.emitted + 1) t cells
  pub exact : row ≡ full_row (recipe s.filter) (picture_of s pixels) s.emitted
