-- The lists of an accepted recipe, each accepted as a recipe of its own.
-- Assumes nothing.
use mathlib.Core.Path.{◌≡◌}
use mathlib.Core.List.{List}
use Prim.Native.Nat.{ℕ, ◌^◌, ◌≤◌, ◌<◌}
use native.Mathlib.Nat.{le_trans, le_of_eq, mul-one, mul_comm, le-mul_of_pos_right}
use native.Mathlib.Omega.{arith}
use lib.ListN.{length}
use Rattle.spec.specs.Words.{total, product}
use Rattle.spec.specs.Recipe.{Recipe, order, weight, gain}
use Rattle.spec.specs.Refusals.{first, alone, recipe_checks}
use Rattle.laws.proofs.Exact.{rows_pos, columns_pos}
use Rattle.laws.proofs.Refusals.{Accepted, accepted_none}

-- a list that is accepted as a recipe of its own
pub record Light (ns : List ℕ) : Type 0 where
  pub short : length ns ≤ 48
  pub not_zero : 0 < weight ns
  pub reach : order ns ≤ 255
  pub light : weight ns ≤ 2 ^ 44

pub light_alone : (ns : List ℕ) → Light ns → first (recipe_checks (alone ns)) ≡ 0
unfolding alone weight gain product order total
light_alone ns l =
    accepted_none (alone ns)
    (record {
      rows_short = l.short;
      columns_short = omega arith;
      not_zero = omega (arith, l.not_zero, mul-one (weight ns));
      row_reach = l.reach;
      column_reach = omega arith;
      light = omega (arith, l.light, mul-one (weight ns));
    })

-- both lists of an accepted recipe are
module _ (r : Recipe) (k : Accepted r) where
  across_pos : 0 < weight r.rows
  across_pos = rows_pos r k.not_zero

  down_pos : 0 < weight r.columns
  down_pos = columns_pos r k.not_zero

  pub rows_light : Light r.rows
  unfolding gain
  rows_light =
      record {
        short = k.rows_short;
        not_zero = across_pos;
        reach = k.row_reach;
        light = le_trans (le-mul_of_pos_right (weight r.rows) down_pos) k.light;
      }

  pub columns_light : Light r.columns
  unfolding gain
  columns_light =
      record {
        short = k.columns_short;
        not_zero = down_pos;
        reach = k.column_reach;
        light =
            le_trans (le-mul_of_pos_right (weight r.columns) across_pos)
            (le_trans (le_of_eq (mul_comm (weight r.columns) (weight r.rows))) k.light);
      }
