-- Words for the contracts of private functions; no exported contract uses them. A picture row in three parts, by its inside weights: one
-- number for each column, those along the row, times one for all of it, that down the columns.
use Rattle.std.specs.Prelude.{◌≡◌, List, ℕ, ◌*◌, ◌^◌, ◌≤◌, ◌<◌, length, get_or}
use Rattle.spec.specs.Words.{tab}
use Rattle.blur.specs.declared.rims.Span.{Span}
use Rattle.blur.specs.declared.rims.Band.{Band}
use Rattle.gray.specs.Division.{reciprocal_of, divisor}

-- the weight at column k
abbrev pub weight_at : List ℕ → ℕ → ℕ → ℕ
weight_at across down k = get_or across k 0 * down

-- no weight is 0 or above 2^44
abbrev pub Weighty : List ℕ → ℕ → Type 0
Weighty across down = (k : ℕ) → k < length across → (0 < weight_at across down k) × (weight_at across down k ≤ 2 ^ 44)

-- sums whose greys are at most a largest grey
abbrev pub Dim : ℕ → List ℕ → ℕ → List ℕ → Type 0
Dim most across down sums = (k : ℕ) → k < length across → get_or sums k 0 ≤ most * weight_at across down k

-- columns of one weight along the row
pub record Level (across : List ℕ) (s : Span) : Type 0 where
  pub some : s.from < s.to
  pub inside : s.to ≤ length across
  pub same : (k : ℕ) → s.from ≤ k → k < s.to → get_or across k 0 ≡ get_or across s.from 0

-- the reciprocal of the weight at each column
abbrev pub Inverse : List ℕ → ℕ → List ℕ → Type 0
Inverse across down reciprocals = (k : ℕ) → k < length across → get_or reciprocals k 0 ≡ reciprocal_of (weight_at across down k)

-- something that holds at every column of the rims
abbrev pub OnRims : List ℕ → Span → (ℕ → Type 0) → Type 0
OnRims across s P = (k : ℕ) → k < length across → (s.from ≤ k → s.to ≤ k) → P k

-- what is made there of each sum and the weight at its column
abbrev pub Shades : {A : Type 0} → (ℕ → ℕ → A) → A → Band → List ℕ → List A → Type 0
Shades f d band sums l = OnRims band.across.now band.middle (λ k. get_or l k d ≡ f (weight_at band.across.now band.down k) (get_or sums k 0))

-- what is kept for rows of one weight down the columns: a divisor for the middle, and the reciprocals at the rims
pub record Ready (band : Band) : Type 0 where
  pub level : Level band.across.now band.middle
  pub short : length band.across.now ≤ 1024
  pub by : band.by ≡ divisor (weight_at band.across.now band.down band.middle.from)
  pub rims : OnRims band.across.now band.middle (λ k. get_or band.reciprocals k 0 ≡ reciprocal_of (weight_at band.across.now band.down k))

-- what is made of each sum of a row and the weight at its column
abbrev pub shaded : {A : Type 0} → (ℕ → ℕ → A) → List ℕ → ℕ → List ℕ → List A
shaded f across down sums = tab (length across) (λ k. f (weight_at across down k) (get_or sums k 0))
