-- The words that the contracts of the private functions are written in.
use Rattle.std.specs.Prelude.{◌≡◌, Bool, true, false, List, ℕ, ◌<◌, ltb, get_or}
use Rattle.spec.specs.Words.{tab, occurs}
use Rattle.spec.specs.Same.{struck}

-- a width that is a place in a tally
abbrev pub byte : ℕ → Bool
byte n = ltb n 256

-- the tally of a list: how often each width occurs in it, with widths of 1 struck out
unfoldable pub tally_of : List ℕ → List ℕ
tally_of ns = tab 256 (λ n. occurs n (struck ns))

-- two tallies agree at every width
abbrev pub Alike : List ℕ → List ℕ → Type 0
Alike a b = (n : ℕ) → n < 256 → get_or a n 0 ≡ get_or b n 0

-- an answer that is yes where a statement holds, and no where it does not
pub record Decides (told : Bool) (holds : Type 0) : Type 0 where
  pub so : told ≡ true → holds
  pub not : told ≡ false → holds → ⊥
