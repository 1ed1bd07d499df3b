-- Document 01, "Job file", its last part: what the program `boresums` prints for an input.
use Rattle.std.specs.Prelude.{cond, ℕ, zero, suc, ◌+◌, ◌/◌, ◌%◌, ltb}
use mathlib.Core.List.{List, [], ◌∷◌, ◌++◌, flatten}
use Rattle.spec.specs.Words.{tab}
use Rattle.spec.specs.Recipe.{Recipe, gain}
use Rattle.spec.specs.Picture.{Picture, full_width_of, full_height_of, full_row}
use Rattle.spec.specs.Job.{job_recipe, job_picture}
use Rattle.spec.specs.Refusals.{first, either, program_checks}

-- a number in decimal digits, as bytes: at most so many of them
unfoldable pub decimal_digits : ℕ → ℕ → List ℕ
decimal_digits zero n = []
decimal_digits (suc most) n = cond (ltb n 10) ((48 + n) ∷ []) (decimal_digits most (n / 10) ++ ((48 + n % 10) ∷ []))

-- a 64-bit number has at most 20 digits
unfoldable pub decimal : ℕ → List ℕ
decimal n = decimal_digits 20 n

-- numbers on one line, single spaces between
unfoldable pub line : List ℕ → List ℕ
line [] = 10 ∷ []
line (n ∷ []) = decimal n ++ (10 ∷ [])
line (n ∷ m ∷ ns) = decimal n ++ (32 ∷ line (m ∷ ns))

-- grown width, grown height and weight on one line, then one line of exact sums per grown row
unfoldable pub sums_printed : Recipe → Picture → List ℕ
sums_printed r p =
    line (full_width_of r p.width ∷ full_height_of r p.height ∷ gain r ∷ [])
    ++ flatten (tab (full_height_of r p.height) (λ j. line (full_row r p j)))

-- on refusal only one line such as `refused 8`
unfoldable pub refusal_printed : ℕ → List ℕ
refusal_printed n = 0x72 ∷ 0x65 ∷ 0x66 ∷ 0x75 ∷ 0x73 ∷ 0x65 ∷ 0x64 ∷ 0x20 ∷ line (n ∷ [])

unfoldable pub printed : List ℕ → List ℕ
printed bytes =
    either (first (program_checks bytes)) (sums_printed (job_recipe bytes) (job_picture bytes)) (refusal_printed (first (program_checks bytes)))
