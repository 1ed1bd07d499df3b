-- What opening a job answers and leaves in the cells, and the first line, for every argument.
use Rattle.std.specs.Prelude.{false, List, [], ◌∷◌, ◌++◌, ℕ, length, drop}
use Rattle.spec.specs.Recipe.{held_filter, gain}
use Rattle.spec.specs.Picture.{full_width_of, full_height_of}
use Rattle.spec.specs.Job.{job_recipe, job_width, job_height, job_offset}
use Rattle.spec.specs.Refusals.{first, either, lent, program_checks}
use Rattle.spec.specs.Program.{line, refusal_printed}
use Rattle.stream.specs.Calls.{zeros, start}
use Rattle.report.specs.declared.opening.Opened.{Opened}

-- the answer, and what the cells then hold
pub record Opening : Type 0 where
  pub opened : Opened
  pub cells : List ℕ

unfoldable pub opening : Opened → List ℕ → Opening
opening o cells = record { opened = o; cells = cells }

-- a refused job: its number, and all else zero
abbrev pub not_opened : ℕ → Opened
not_opened n = record { refusal = n; state = zeros; offset = 0; width = 0; height = 0; gain = 0; is_begun = false }

-- accepted: the state and the cells of the start, the offset, the grown sides and the weight; the first line is not out yet
unfoldable pub job_started : List ℕ → List ℕ → Opening
job_started bytes cells =
    let r = job_recipe bytes in
    let s = start (held_filter r) (job_width bytes) (job_height bytes) cells in
    record {
      opened =
          record {
            refusal = 0;
            state = s.state;
            offset = job_offset bytes;
            width = full_width_of r (job_width bytes);
            height = full_height_of r (job_height bytes);
            gain = gain r;
            is_begun = false;
          };
      cells = s.cells;
    }

-- refused by the program's checks, with nothing written
unfoldable pub job_opened : List ℕ → List ℕ → Opening
job_opened bytes cells =
    let cs = program_checks bytes in
    lent cs (job_started bytes cells) (record { opened = not_opened (first cs); cells = cells })

-- the grown width, the grown height and the weight on one line, or the line of the refusal
unfoldable pub first_line : Opened → List ℕ
first_line o = either o.refusal (line (o.width ∷ o.height ∷ o.gain ∷ [])) (refusal_printed o.refusal)

-- a line at the front of a text, and what stood after it
unfoldable pub front : List ℕ → List ℕ → List ℕ
front t text = t ++ drop (length t) text
