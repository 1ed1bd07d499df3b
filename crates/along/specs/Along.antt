-- Document 01, the row list on one row: a row of pixels and black places after them, through the boxes of a list. Values are counted
-- modulo 2^64.
use Rattle.std.specs.Prelude.{ℕ, ◌%◌, ◌^◌, Bool, cond, not, ◌||◌, List, length, ◌==◌, nat_lt}
use Rattle.spec.specs.Words.{sum, tab, somewhere}
use Rattle.laws.proofs.Kernels.{at}
use Rattle.laws.proofs.Cascades.{cascaded}

-- a width that takes running totals: all but 1, which changes nothing, and 2
unfoldable pub wide : ℕ → Bool
wide n = not (n == 1 || n == 2)

-- what the call refuses: a list longer than 48, a row longer than any grown row
unfoldable pub too_much : ℕ → ℕ → Bool
too_much count w = nat_lt 48 count || nat_lt 1279 w

-- a row after the row list ns: at place k what the boxes make of the pixels there, and of black past their end
unfoldable pub row_after : List ℕ → List ℕ → List ℕ → List ℕ
row_after ns pixels row = cond (too_much (length ns) (length row)) row (tab (length row) (λ k. cascaded 1 ns (at pixels) k % 2 ^ 64))

-- the total of the pixels on the row, where a width is wide
unfoldable pub total_after : List ℕ → List ℕ → ℕ → ℕ
total_after ns pixels w = cond (too_much (length ns) w) 0 (cond (somewhere wide ns) (sum w (at pixels) % 2 ^ 64) 0)
