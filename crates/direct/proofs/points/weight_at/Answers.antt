-- What `search` does not find of `points::weight_at`.
use Rattle.std.proofs.Common.{arith, ap₂, ◌*◌}
use native.Mathlib.Nat.{le_trans, mul-le-mul}
use Rattle.direct.proofs.points.weight_at.Goals as goal

pub overflow_mul-result : goal.overflow_mul-result
overflow_mul-result c = omega (arith, le_trans (mul-le-mul c.inside.ensures.bound c.inside-2.ensures.bound) c.requires.ready.light)

pub returns : goal.returns
returns c = ap₂ ◌*◌ c.inside.ensures.value c.inside-2.ensures.value
