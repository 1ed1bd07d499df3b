-- The exact sums over coefficients that stand in two lists: what the private contracts speak of.
use Rattle.std.specs.Prelude.{◌≡◌, ℕ, ◌+◌, ◌-◌, ◌*◌, ◌<◌, ◌≤◌, ◌^◌, length}
use mathlib.Core.List.{List, flatten}
use Rattle.spec.specs.Words.{sum, tab}
use Rattle.spec.specs.Picture.{Picture}
use Rattle.laws.proofs.Sequences.{behind}
use Rattle.laws.proofs.Kernels.{at}
use Rattle.laws.proofs.Exact.{line}

-- a sequence through the coefficients ks, at i
unfoldable pub through : List ℕ → (ℕ → ℕ) → ℕ → ℕ
through ks f i = sum (length ks) (λ a. at ks a * behind f a i)

-- each row of a picture through the coefficients rs, then down the columns through cs: at column i, row j
unfoldable pub window : List ℕ → List ℕ → Picture → ℕ → ℕ → ℕ
window rs cs p i j = through cs (λ v. through rs (line p v) i) j

-- so at every place of the grown picture, row by row
unfoldable pub windows : List ℕ → List ℕ → Picture → List ℕ
windows rs cs p = flatten (tab (p.height + length cs - 1) (λ j. tab (p.width + length rs - 1) (λ i. window rs cs p i j)))

-- what coefficients add up to
unfoldable pub mass : List ℕ → ℕ
mass ks = sum (length ks) (at ks)

-- coefficients and a picture for which no sum is too large
pub record Ready (rs cs : List ℕ) (p : Picture) : Type 0 where
  pub size : length p.pixels ≡ p.width * p.height
  pub wide : (0 < p.width) × (p.width ≤ 1024)
  pub high : (0 < p.height) × (p.height ≤ 1024)
  pub rows : (0 < length rs) × (length rs ≤ 256)
  pub columns : (0 < length cs) × (length cs ≤ 256)
  pub row_mass : mass rs ≤ 2 ^ 44
  pub column_mass : mass cs ≤ 2 ^ 44
  pub light : mass rs * mass cs ≤ 2 ^ 44
