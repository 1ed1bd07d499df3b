-- A list of row calls and drains, each with what its slices hold, and its accepted calls. The first gets the state and the cells of the
-- start, each later one what the one before left.
use Rattle.std.specs.Prelude.{Bool, true, false, List, [], ◌∷◌, ◌++◌, ℕ, ◌+◌, ◌*◌}
use Rattle.spec.specs.Words.{tab, part}
use Rattle.spec.specs.Picture.{Picture}
use Rattle.spec.specs.Refusals.{either}
use Rattle.stream.specs.declared.calls.State.{State}
use Rattle.stream.specs.Calls.{Called, push, drain}

-- a row call with its pixels and what its output held, or a drain with what its output held
pub data Call : Type 0 where
  a_row : (pixels out : List ℕ) → Call
  a_drain : (out : List ℕ) → Call

-- the call's answer, as its contract has it
unfoldable pub answer_of : Call → State → List ℕ → Called
answer_of (a_row pixels out) s cells = push s pixels out cells
answer_of (a_drain out) s cells = drain s out cells

-- an accepted call, and its output as it stands on return
pub record Yielded : Type 0 where
  pub call : Call
  pub out : List ℕ

-- the accepted calls of a list, in order, refused ones passed over
unfoldable pub run : List Call → State → List ℕ → List Yielded
run [] s cells = []
run (c ∷ cs) s cells =
    let a = answer_of c s cells in
    let rest = run cs a.state a.cells in
    either a.number (record { call = c; out = a.out } ∷ rest) rest

-- the state and the cells that a list of calls leaves
pub record Carried : Type 0 where
  pub state : State
  pub cells : List ℕ

unfoldable pub carried : List Call → State → List ℕ → Carried
carried [] s cells = record { state = s; cells = cells }
carried (c ∷ cs) s cells =
    let a = answer_of c s cells in
    carried cs a.state a.cells

-- the pixel slices of the accepted row calls, in order
unfoldable pub row_of : Call → List (List ℕ)
row_of (a_row pixels out) = pixels ∷ []
row_of (a_drain out) = []

unfoldable pub rows : List Yielded → List (List ℕ)
rows [] = []
rows (y ∷ ys) = row_of y.call ++ rows ys

-- the outputs of the accepted calls, in order
unfoldable pub outputs : List Yielded → List (List ℕ)
outputs [] = []
outputs (y ∷ ys) = y.out ∷ outputs ys

-- which of the accepted calls are row calls
unfoldable pub is_row : Call → Bool
is_row (a_row pixels out) = true
is_row (a_drain out) = false

unfoldable pub kinds : List Yielded → List Bool
kinds [] = []
kinds (y ∷ ys) = is_row y.call ∷ kinds ys

-- row j of a picture
unfoldable pub picture_row : Picture → ℕ → List ℕ
picture_row p j = part (j * p.width) p.width p.pixels

-- all rows of a picture in order and then a drain for each row of the column list's reach, with outputs that held what outs says
unfoldable pub whole : Picture → ℕ → (ℕ → List ℕ) → List Call
whole p reach outs = tab p.height (λ j. a_row (picture_row p j) (outs j)) ++ tab reach (λ k. a_drain (outs (p.height + k)))
