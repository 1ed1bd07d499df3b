-- Greys and leftovers are written from the left.
-- Assumes nothing.
use Rattle.std.proofs.Common.{◌≡◌, map, take}
use Rattle.gray.specs.Division.{shade_gray, shade_leftover}
use Rattle.gray.proofs.rounding.round_row.Given as goal

abbrev pub invariant-loop-k : goal.invariant-loop-k
invariant-loop-k l = record {
  grays : take l.k l.out ≡ map (shade_gray l.by) (take l.k l.sums);
  leftovers : take l.k l.leftovers ≡ map (shade_leftover l.by) (take l.k l.sums);
}
