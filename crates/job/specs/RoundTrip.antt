-- Demand 2 on job files, as two claims about what the contracts of reading and writing admit: a job read back after writing is the same
-- job, and an accepted file written again has the same bytes.
use Rattle.std.specs.Prelude.{◌≡◌, List, ℕ, ◌≤◌, length, get_or, drop}
use Rattle.spec.specs.Recipe.{Recipe, recipe}
use Rattle.spec.specs.Picture.{Picture, picture}
use Rattle.spec.specs.Job.{job_length}
use Rattle.spec.specs.Refusals.{first, accepted, picture_checks}
use Rattle.job.specs.declared.reading.Job.{Job}
use Rattle.job.specs.Answers.{job_read}
use Rattle.job.specs.Writing.{JobWritten}

-- the picture of a job that was read from a file: its pixels begin at the offset
unfoldable pub read_picture : Job → List ℕ → Picture
read_picture j file = picture j.width j.height (drop j.offset file)

-- what was read from a file is this recipe and this picture
pub record Same (r : Recipe) (p : Picture) (file : List ℕ) (j : Job) : Type 0 where
  pub accepted : job_read file ≡ accepted j
  pub lists : recipe j.filter ≡ r
  pub picture : read_picture j file ≡ p

-- Every accepted recipe and picture is written into an output of the job's length, and what was written is read as the same job.
abbrev pub ReadBack : Type 0
ReadBack =
    (r : Recipe) (p : Picture) → first (picture_checks r p) ≡ 0
    → (out new : List ℕ) (number : ℕ) → length out ≡ job_length r p.width p.height → JobWritten r p out number new
    → (number ≡ 0) × ((j : Job) × Same r p new j)

-- a file is a list of bytes
abbrev pub FileBytes : List ℕ → Type 0
FileBytes file = (k : ℕ) → get_or file k 0 ≤ 255

-- Every accepted file is written again, from what was read, into an output of its length, with the same bytes.
abbrev pub WrittenAgain : Type 0
WrittenAgain =
    (file : List ℕ) → FileBytes file → (j : Job) → job_read file ≡ accepted j
    → (out new : List ℕ) (number : ℕ) → length out ≡ length file
    → JobWritten (recipe j.filter) (read_picture j file) out number new
    → (number ≡ 0) × (new ≡ file)
