-- A weight to divide by, and what is formed of a sum and it, for every weight and sum; where that is the sum over the weight,
-- `quotient_gray` in proofs/Dividing.antt says.
use Rattle.std.specs.Prelude.{◌≡◌, ℕ, ◌+◌, ◌-◌, ◌*◌, ◌/◌, ◌%◌, ◌^◌, ◌<◌, ◌≤◌, cond, List, ℤ, pos, ◌-ℤ◌, ◌==◌, count_ones, nat_le, nat_lt, slice_index}
use Rattle.std.specs.Int.Count.{count_trailing_zeros}
use Rattle.gray.specs.declared.rounding.Divisor.{Divisor}
use Rattle.gray.specs.declared.rounding.Way.{Way}
use Rattle.gray.specs.declared.rounding.Way.TheVariants.{Shift, Reciprocal}

-- 2 to this power stands for 1 in a reciprocal: the number that a larger grey would change (`Suits` in proofs/Dividing.antt says how)
abbrev pub reciprocal_bits : ℕ
reciprocal_bits = 55

-- that over a weight, downwards; x / 0 is 0
abbrev pub reciprocal_of : ℕ → ℕ
reciprocal_of weight = 2 ^ reciprocal_bits / weight

-- what is kept to divide by a weight: its half; and how many zeros stand below its lowest bit, where that is the only bit set, or otherwise
-- its reciprocal
abbrev pub divisor_with : ℕ → ℕ → Divisor
divisor_with weight reciprocal =
    record { weight = weight; half = weight / 2; way = cond (count_ones weight == 1) (Shift (count_trailing_zeros 64 weight)) (Reciprocal reciprocal) }

abbrev pub divisor : ℕ → Divisor
divisor weight = divisor_with weight (reciprocal_of weight)

-- the quotient or one less, by the reciprocal, in 64 bits
unfoldable pub estimate : ℕ → ℕ → ℕ
estimate reciprocal raised = raised * reciprocal % 2 ^ 64 / 2 ^ reciprocal_bits

-- one more than the estimate where that many times the weight, in 64 bits, is not above the number
unfoldable pub by_reciprocal : ℕ → ℕ → ℕ → ℕ
by_reciprocal weight reciprocal raised =
    let next = estimate reciprocal raised + 1 in
    cond (nat_le (next * weight % 2 ^ 64) raised) next (estimate reciprocal raised)

-- a number divided by the shift or by the reciprocal
abbrev pub divided : Way → ℕ → ℕ → ℕ
divided (Shift places) weight raised = raised / 2 ^ (places % 64)
divided (Reciprocal reciprocal) weight raised = by_reciprocal weight reciprocal raised

-- the sum and the half, in 64 bits, divided so
unfoldable pub quotient : Divisor → ℕ → ℕ
quotient by sum = divided by.way by.weight ((sum + by.half) % 2 ^ 64)

-- so many weights, in 64 bits, by the shift where the sum is divided by it
abbrev pub times : Way → ℕ → ℕ → ℕ
times (Shift places) weight count = count * 2 ^ (places % 64) % 2 ^ 64
times (Reciprocal reciprocal) weight count = count * weight % 2 ^ 64

unfoldable pub multiple : Divisor → ℕ → ℕ
multiple by count = times by.way by.weight count

-- a number of 64 bits, read with a sign
unfoldable pub signed64 : ℕ → ℤ
signed64 n = cond (nat_lt n (2 ^ 63)) (pos n) (pos n -ℤ pos (2 ^ 64))

-- a sum less so many weights, in 64 bits with a sign
unfoldable pub leftover_of : Divisor → ℕ → ℕ → ℤ
leftover_of by sum count = signed64 ((sum + (2 ^ 64 - multiple by count)) % 2 ^ 64)

-- what is made of one sum: the lowest byte of the quotient, and the sum less so many weights; where these are the grey and the leftover of the
-- sum, `shade_is` in proofs/Dividing.antt says
unfoldable pub shade_gray : Divisor → ℕ → ℕ
shade_gray by sum = quotient by sum % 256

unfoldable pub shade_leftover : Divisor → ℕ → ℤ
shade_leftover by sum = leftover_of by sum (quotient by sum)

-- ---- words for the contracts of private functions

-- what is kept to divide by a weight, which is not 0 and at most 2^44
pub record Divides (weight : ℕ) (by : Divisor) : Type 0 where
  pub not_zero : 0 < weight
  pub light : weight ≤ 2 ^ 44
  pub is : by ≡ divisor weight

-- sums whose greys are at most a largest grey
abbrev pub Bounded : ℕ → ℕ → List ℕ → Type 0
Bounded most weight sums = (k : ℕ) → slice_index sums k ≤ most * weight
