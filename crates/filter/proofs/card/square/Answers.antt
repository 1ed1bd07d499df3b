-- `filter::card::square` meets its contract: the square of a byte is at most 65,025.
-- Assumes nothing.
use mathlib.Core.Path.{◌≡◌, ap, ◌∙◌}
use Prim.Native.Nat.{ℕ, ◌-◌, ◌*◌, ◌≤◌, ◌<◌}
use native.Mathlib.Nat.{mul-le-mul}
use native.Mathlib.Omega.{arith}
use Rattle.spec.specs.Gray.{box_square}
use Rattle.filter.proofs.card.square.Goals as goal

most : (n m : ℕ) → n < 256 → m ≡ n → m * m ≤ 65025
most n m h e =
    let l : m ≤ 255 = omega arith in
    mul-le-mul l l

pub returns : goal.returns
unfolding box_square
returns c = (
  c.saturating_sub.ensures ∙ ap (λ m. m * m - 1) c.from-m.ensures,
  omega (arith, c.saturating_sub.ensures, most _ _ c.ranges.n.fits c.from-m.ensures),
)
