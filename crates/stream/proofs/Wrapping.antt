-- Sums, differences and multiples modulo 2^64: what the machine's answers are, and that they follow exact ones.
-- Assumes nothing.
use Rattle.std.proofs.Common.{◌≡◌, ℕ, zero, suc, ◌+◌, ◌*◌, ◌%◌, ◌^◌, suc-mul, zero-mul, arith}
use Rattle.stream.specs.Stages.{plus, minus}

-- differences and sums of exact sums, each known modulo 2^64
pub minus_exact : (a b c : ℕ) → c + b ≡ a → minus (a % 2 ^ 64) (b % 2 ^ 64) ≡ c % 2 ^ 64
unfolding minus
minus_exact a b c e = omega arith

pub plus_exact : (a b : ℕ) → plus (a % 2 ^ 64) (b % 2 ^ 64) ≡ (a + b) % 2 ^ 64
unfolding plus
plus_exact a b = omega arith

-- multiples of numbers that agree modulo 2^64
pub times_modulo : (n a b : ℕ) → a % 2 ^ 64 ≡ b % 2 ^ 64 → n * a % 2 ^ 64 ≡ n * b % 2 ^ 64
times_modulo zero a b e = omega (arith, zero-mul a, zero-mul b)
times_modulo (suc n) a b e = omega (arith, suc-mul n a, suc-mul n b, times_modulo n a b e)
