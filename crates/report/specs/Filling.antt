-- What filling a text answers and leaves in what it was lent, for every argument.
use Rattle.std.specs.Prelude.{true, cond, Option, Some, None, List, [], ◌++◌, ℕ, zero, suc, ◌+◌, ◌-◌, ◌*◌, ◌/◌, max, length, drop, replicate}
use Rattle.spec.specs.Recipe.{recipe}
use Rattle.spec.specs.Picture.{full_width_of}
use Rattle.spec.specs.declared.refusal.Refusal.{Refusal}
use Rattle.spec.specs.Refusals.{number, either}
use Rattle.spec.specs.Program.{line}
use Rattle.stream.specs.declared.calls.State.{State}
use Rattle.rows.specs.Advance.{advance}
use Rattle.report.specs.declared.opening.Opened.{Opened}
use Rattle.report.specs.declared.filling.Filled.{Filled}
use Rattle.report.specs.Opening.{first_line, front}

-- ---- the lines of grown rows

-- so many calls of `advance`, one after the other, of which refused ones add nothing: 0 or the number of the first refusal, the lines of
-- the rows, and the state and the cells after them; the rows are worked in the lent row
pub record Lines : Type 0 where
  pub number : ℕ
  pub made : List ℕ
  pub state : State
  pub cells : List ℕ

unfoldable pub row_lines : ℕ → State → List ℕ → List ℕ → List ℕ → Lines
row_lines zero s pixels row cells = record { number = 0; made = []; state = s; cells = cells }
row_lines (suc n) s pixels row cells =
    let a = advance s pixels row cells in
    let rest = row_lines n a.state pixels a.out a.cells in
    record {
      number = either a.number rest.number a.number;
      made = either a.number (line a.out) [] ++ rest.made;
      state = rest.state;
      cells = rest.cells;
    }

-- the grown width for a state
unfoldable pub grown_width : State → ℕ
grown_width s = full_width_of (recipe s.filter) s.width

-- as many rows as surely have room in 65,536 bytes, with 64 for the first line: 21 for each number and one for the line's end; at least
-- one is asked for, also of a state that is refused (an accepted one has a grown width of at most 1,279, so that two have room)
unfoldable pub rows_at_once : State → ℕ
rows_at_once s = max 1 ((65536 - 64) / (21 * grown_width s + 1))

-- their lines, worked in a row of zeros
unfoldable pub next_lines : State → List ℕ → List ℕ → Lines
next_lines s pixels cells = row_lines (rows_at_once s) s pixels (replicate (grown_width s) 0) cells

-- the first line, where it is not out yet
unfoldable pub heading : Opened → List ℕ
heading o = cond o.is_begun [] (first_line o)

-- that, and the lines of the next grown rows
unfoldable pub job_lines : Opened → List ℕ → List ℕ → Lines
job_lines o job cells =
    let a = next_lines o.state (drop o.offset job) cells in
    record { number = a.number; made = heading o ++ a.made; state = a.state; cells = a.cells }

-- ---- a filling

-- 0 or the number by which the next grown row was refused, how many bytes were filled, the job as the next call takes it, and what the
-- cells and the text then hold
pub record Filling : Type 0 where
  pub number : ℕ
  pub count : ℕ
  pub opened : Opened
  pub cells : List ℕ
  pub text : List ℕ

-- 0, or the number of the refusal that ended the filling
abbrev pub ended : Option Refusal → ℕ
ended None = 0
ended (Some e) = number e

unfoldable pub filled : Filled → List ℕ → List ℕ → Filling
filled a cells text = record { number = ended a.end; count = a.count; opened = a.opened; cells = cells; text = text }

-- a job whose first line is out
unfoldable pub begun : Opened → State → Opened
begun o s =
    record {
      refusal = o.refusal;
      state = s;
      offset = o.offset;
      width = o.width;
      height = o.height;
      gain = o.gain;
      is_begun = true;
    }

-- the lines at the front of the text, and what stood after them
unfoldable pub fill : Opened → List ℕ → List ℕ → List ℕ → Filling
fill o job cells text =
    let a = job_lines o job cells in
    record { number = a.number; count = length a.made; opened = begun o a.state; cells = a.cells; text = front a.made text }
