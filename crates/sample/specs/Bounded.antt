-- Words for the contracts of private functions. A sum and a weight that can be rounded.
use Rattle.std.specs.Prelude.{◌*◌, ◌^◌, ◌<◌, ◌≤◌}
use Rattle.spec.specs.Picture.{largest_gray}
use Rattle.direct.specs.declared.points.Point.{Point}

-- a weight that is not 0 and that of an accepted recipe at most, and a sum of bytes over it
pub record Bounded (x : Point) : Type 0 where
  pub not_zero : 0 < x.weight
  pub light : x.weight ≤ 2 ^ 44
  pub dim : x.sum ≤ largest_gray * x.weight
