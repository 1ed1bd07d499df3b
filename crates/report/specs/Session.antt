-- The claim about the program's text: the fillings, one after the other, are what document 01 has boresums print.
use Rattle.std.specs.Prelude.{◌≡◌, List, [], ◌++◌, ℕ, zero, suc, ◌<◌, length, take}
use Rattle.spec.specs.Refusals.{either}
use Rattle.spec.specs.Program.{printed}
use Rattle.job.specs.RoundTrip.{FileBytes}
use Rattle.report.specs.declared.opening.Opened.{Opened}
use Rattle.report.specs.Opening.{job_opened}
use Rattle.report.specs.Filling.{fill}

-- what so many calls of `fill` leave at the front of the text, one after the other: each call gets the job, the cells and the text as the
-- one before left them
unfoldable pub fillings : ℕ → Opened → List ℕ → List ℕ → List ℕ → List ℕ
fillings zero o job cells text = []
fillings (suc n) o job cells text =
    let a = fill o job cells text in
    take a.count a.text ++ fillings n a.opened job a.cells a.text

-- so, but only up to the first call whose number is not 0, and that one too
unfoldable pub until_refused : ℕ → Opened → List ℕ → List ℕ → List ℕ → List ℕ
until_refused zero o job cells text = []
until_refused (suc n) o job cells text =
    let a = fill o job cells text in
    take a.count a.text ++ either a.number (until_refused n a.opened job a.cells a.text) []

-- For every input of bytes, with 8,192 cells and a text of any content: what so many calls fill once the job is opened is what the program
-- is to print, if they are more than the grown rows that opening told; and so is what they fill up to the first call with a number.
-- It cannot hold by emptiness: no call is assumed to be accepted, for every input there are such numbers of calls, 1,280 among them (`few`),
-- and what is to be printed has a line for every input, so that the first filling is never empty, whatever its number.
pub record Session (bytes cells text : List ℕ) : Type 0 where
  pub whole : (n : ℕ) → (job_opened bytes cells).opened.height < n
      → fillings n (job_opened bytes cells).opened bytes (job_opened bytes cells).cells text ≡ printed bytes
  pub ended : (n : ℕ) → (job_opened bytes cells).opened.height < n
      → until_refused n (job_opened bytes cells).opened bytes (job_opened bytes cells).cells text ≡ printed bytes
  -- a grown picture has at most 1,279 rows
  pub few : (job_opened bytes cells).opened.height < 1280

abbrev pub TextClaim : Type 0
TextClaim = (bytes cells text : List ℕ) → FileBytes bytes → length cells ≡ 8192 → Session bytes cells text
