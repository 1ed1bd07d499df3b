-- Words for the contracts of private functions; no exported contract uses them. A job that is opened or not, and what lines that are put
-- into a text leave there.
use Rattle.std.specs.Prelude.{◌≡◌, Result, Ok, Err, List, length, ℕ}
use Rattle.spec.specs.declared.refusal.Refusal.{Refusal}
use Rattle.spec.specs.Refusals.{number}
use Rattle.report.specs.declared.opening.Opened.{Opened}
use Rattle.report.specs.declared.filling.Reached.{Reached}
use Rattle.report.specs.Opening.{not_opened, front}
use Rattle.report.specs.Filling.{Lines, ended}

-- the job that was opened, or one that is refused
abbrev pub opened_or_not : Result Opened Refusal → Opened
opened_or_not (Ok o) = o
opened_or_not (Err e) = not_opened (number e)

-- lines at the front of a text: the number of the refusal, where they end, and the state and the cells after them
pub record Put (a : Lines) (r : Reached) (held old new : List ℕ) : Type 0 where
  pub number : ended r.end ≡ a.number
  pub end : r.count ≡ length a.made
  pub state : r.state ≡ a.state
  pub cells : held ≡ a.cells
  pub text : new ≡ front a.made old
