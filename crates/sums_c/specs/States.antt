-- The state of the one pass that a C caller's blocks stand for, and what a call left with the caller.
use Rattle.std.specs.Prelude.{List, ℕ, get_or}
use Rattle.stream.specs.declared.calls.State.{State}
use Rattle.stream.specs.Calls.{state_at, Began, Called}
use Rattle.blocks.specs.Given.{given}

-- a recipe's block, and the words: width, height, rows yielded
unfoldable pub given_state : List ℕ → List ℕ → State
given_state block words = state_at (given block) (get_or words 0 0) (get_or words 1 0) (get_or words 2 0)

-- what a start, and what a row call or a drain left
unfoldable pub began : ℕ → State → List ℕ → Began
began number s cells = record { number = number; state = s; cells = cells }

unfoldable pub called : ℕ → State → ℕ → List ℕ → List ℕ → Called
called number s count out cells = record { number = number; state = s; count = count; out = out; cells = cells }
