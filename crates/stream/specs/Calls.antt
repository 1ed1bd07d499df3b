-- What a start, a row call and a drain answer and leave in what they were lent, for every argument.
use Rattle.std.specs.Prelude.{◌≡◌, ℕ, ◌+◌, List, [], ◌++◌, length, drop, replicate, Result, Ok, Err}
use Rattle.spec.specs.declared.refusal.Refusal.{Refusal}
use Rattle.spec.specs.declared.Filter.{Filter}
use Rattle.spec.specs.Recipe.{recipe, no_filter}
use Rattle.spec.specs.Stream.{State as SpecState, state_with, stream_cells, row_cost}
use Rattle.spec.specs.Refusals.{Check, first, lent, number, start_checks, row_checks, drain_checks}
use Rattle.stream.specs.declared.calls.State.{State}
use Rattle.stream.specs.declared.calls.Stepped.{Stepped}
use Rattle.stream.specs.declared.calls.Refused.{Refused}
use Rattle.stream.specs.Stages.{worked, entering}

-- the state that a struct holds
unfoldable pub state_of : State → SpecState
state_of s = state_with (recipe s.filter) s.width s.height s.emitted

-- a recipe's state over a picture of these sides, with so many rows yielded
abbrev pub state_at : Filter → ℕ → ℕ → ℕ → State
state_at f w h e = record { filter = f; width = w; height = h; emitted = e }

-- a state of zeros
abbrev pub zeros : State
zeros = state_at no_filter 0 0 0

-- ---- the start

-- its number, its state, of zeros on a refusal, and what the cells then hold
pub record Began : Type 0 where
  pub number : ℕ
  pub state : State
  pub cells : List ℕ

unfoldable pub began : Result State Refusal → List ℕ → Began
began (Ok s) cells = record { number = 0; state = s; cells = cells }
began (Err e) cells = record { number = number e; state = zeros; cells = cells }

-- accepted: no row is yielded yet, and exactly the needed cells are zero
unfoldable pub started : Filter → ℕ → ℕ → List ℕ → Began
started f w h cells =
    let needed = stream_cells (recipe f) w in
    record {
      number = 0;
      state = state_at f w h 0;
      cells = replicate needed 0 ++ drop needed cells;
    }

unfoldable pub start : Filter → ℕ → ℕ → List ℕ → Began
start f w h cells =
    let cs = start_checks (recipe f) w h (length cells) in
    lent cs (started f w h cells) (record { number = first cs; state = zeros; cells = cells })

-- ---- a row call and a drain

-- the number, the state, the count of additions and subtractions, 0 on a refusal, and what the output and the cells then hold
pub record Called : Type 0 where
  pub number : ℕ
  pub state : State
  pub count : ℕ
  pub out : List ℕ
  pub cells : List ℕ

unfoldable pub called : Result Stepped Refused → List ℕ → List ℕ → Called
called (Ok a) out cells = record { number = 0; state = a.state; count = a.count; out = out; cells = cells }
called (Err e) out cells = record { number = number e.refusal; state = e.state; count = 0; out = out; cells = cells }

-- one row more is yielded
unfoldable pub next : State → State
next s = state_at s.filter s.width s.height (s.emitted + 1)

-- accepted: a row through all stages
unfoldable pub steps : State → List ℕ → List ℕ → Called
steps s row cells =
    let r = recipe s.filter in
    let done = worked r s.emitted row cells in
    record { number = 0; state = next s; count = row_cost r s.width; out = done.row; cells = done.cells }

-- the answer of a call: the pixels and then rx black places through all stages, or refused with the given state, a count of 0, and
-- nothing written
unfoldable pub answers : List Check → State → List ℕ → List ℕ → List ℕ → Called
answers cs s pixels out cells =
    lent cs (steps s (entering (recipe s.filter) s.width pixels) cells) (record { number = first cs; state = s; count = 0; out = out; cells = cells })

unfoldable pub push : State → List ℕ → List ℕ → List ℕ → Called
push s pixels out cells = answers (row_checks (state_of s) (length pixels) (length out) (length cells)) s pixels out cells

-- a drain works the row list on a black row
unfoldable pub drain : State → List ℕ → List ℕ → Called
drain s out cells = answers (drain_checks (state_of s) (length out) (length cells)) s [] out cells

-- The claim that "a state of zeros gets 9 later, its sides being 0", whatever else a row call or a drain is lent.
abbrev pub ZerosRefused : Type 0
ZerosRefused = (pixels out cells : List ℕ) → ((push zeros pixels out cells).number ≡ 9) × ((drain zeros out cells).number ≡ 9)
