-- Words for the contracts of private functions; no exported contract uses them. What the same-size blur takes of the grown rows.
use Rattle.std.specs.Prelude.{◌≡◌, List, ℕ, ◌/◌, length}
use Rattle.spec.specs.Recipe.{recipe, order}
use Rattle.spec.specs.Picture.{full_width_of}
use Rattle.laws.proofs.Refusals.{AcceptedPicture}
use Rattle.stream.specs.declared.calls.State.{State}
use Rattle.rows.specs.Streaming.{Streamed, picture_of}

-- An accepted picture, of whose grown rows the next is the first that the same-size blur takes, from the left place on.
pub record Taken (s : State) (left : ℕ) (pixels row cells : List ℕ) : Type 0 where
  pub picture : AcceptedPicture (recipe s.filter) (picture_of s pixels)
  pub streamed : Streamed s.filter (picture_of s pixels) (order (recipe s.filter).columns / 2) s cells
  pub half : left ≡ order (recipe s.filter).rows / 2
  pub wide : length row ≡ full_width_of (recipe s.filter) s.width
