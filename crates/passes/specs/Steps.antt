-- The words that the contracts of the private functions are written in.
use Rattle.std.specs.Prelude.{◌≡◌, List, ℕ, ◌*◌, ◌^◌, ◌≤◌, ◌<◌, length}
use Rattle.laws.proofs.Kernels.{at}
use Rattle.laws.proofs.Cascades.{spread}

-- a list that holds a sequence below a place
abbrev pub Below : ℕ → (ℕ → ℕ) → List ℕ → Type 0
Below n f l = (k : ℕ) → k < n → at l k ≡ f k

-- a sequence of 60-bit sums below a place
abbrev pub Small : ℕ → (ℕ → ℕ) → Type 0
Small n f = (k : ℕ) → k < n → f k ≤ 2 ^ 60

-- a box filter of width n and a spread s, from one slice to another: what it needs
pub record Ready (s n : ℕ) (src dst : List ℕ) : Type 0 where
  pub apart : 0 < s
  pub wide : 0 < n
  pub offsets : n * s ≤ 2 ^ 32
  pub size : length dst ≡ length src
  pub small : Small (length src) (spread s n (at src))
