-- What printing a line of numbers answers, and what the lent slice then contains.
use Rattle.std.specs.Prelude.{◌≡◌, Result, List, [], ◌∷◌, ◌++◌, ℕ, ◌+◌, ◌*◌, length, drop}
use Rattle.spec.specs.Program.{line}
use Rattle.spec.specs.declared.refusal.Refusal.{Refusal}
use Rattle.spec.specs.Refusals.{Check, Answer, told, check, other_output, answer, lent}

-- the length of the line's text, or the refusal's number
abbrev pub line_told : Result ℕ Refusal → Answer ℕ
line_told = told (λ n. n)

-- 7 for an output of another length than 21 bytes for each number and one for the line's end
unfoldable pub line_checks : List ℕ → ℕ → List Check
line_checks ns out = check (other_output out (21 * length ns + 1)) 7 ∷ []

pub record Printed (ns old : List ℕ) (told : Answer ℕ) (new : List ℕ) : Type 0 where
  -- the length of the line, or the number of the check that holds
  pub answer : told ≡ answer (line_checks ns (length old)) (length (line ns))
  -- the line and what stood after it, or on a refusal what the slice held
  pub slice : new ≡ lent (line_checks ns (length old)) (line ns ++ drop (length (line ns)) old) old
