-- What the calls `advance` and `skip` answer and leave in what they were lent, for every argument.
use Rattle.std.specs.Prelude.{cond, List, [], ◌∷◌, ℕ, zero, suc, ◌*◌, leb, ltb, length}
use Rattle.spec.specs.Picture.{picture, full_height_of}
use Rattle.spec.specs.Stream.{State as SpecState}
use Rattle.spec.specs.Refusals.{Check, check, first, lent, bad_state, other_pixels}
use Rattle.stream.specs.declared.calls.State.{State}
use Rattle.stream.specs.Calls.{state_of, Called, push, drain}
use Rattle.rows.specs.Runs.{picture_row}

-- what is asked first: 9, 10 where all grown rows are out, and 6 for a picture slice of another length
unfoldable pub picture_due : SpecState → ℕ → List Check
picture_due s pixels =
    check (bad_state s) 9 ∷ check (leb (full_height_of s.recipe s.height) s.emitted) 10
    ∷ check (other_pixels pixels (s.width * s.height)) 6 ∷ []

-- then a row call with the picture's next row while rows of the picture are due, and else a drain, which ask 7 and 8
unfoldable pub next_call : State → List ℕ → List ℕ → List ℕ → Called
next_call s pixels out cells =
    cond (ltb s.emitted s.height) (push s (picture_row (picture s.width s.height pixels) s.emitted) out cells)
    (drain s out cells)

unfoldable pub advance : State → List ℕ → List ℕ → List ℕ → Called
advance s pixels out cells =
    let cs = picture_due (state_of s) (length pixels) in
    lent cs (next_call s pixels out cells) (record { number = first cs; state = s; count = 0; out = out; cells = cells })

-- so many calls of `advance`, one after the other, of which refused ones change nothing: the state, and what the row and the cells then hold
pub record Skipped : Type 0 where
  pub state : State
  pub row : List ℕ
  pub cells : List ℕ

unfoldable pub skipped : State → List ℕ → List ℕ → Skipped
skipped s row cells = record { state = s; row = row; cells = cells }

unfoldable pub skip : ℕ → State → List ℕ → List ℕ → List ℕ → Skipped
skip zero s pixels row cells = skipped s row cells
skip (suc n) s pixels row cells =
    let a = advance s pixels row cells in
    skip n a.state pixels a.out a.cells
