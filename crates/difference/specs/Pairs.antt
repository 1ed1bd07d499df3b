-- Words for the contracts of private functions; no exported contract uses them. The two recipes of a difference.
use Rattle.std.specs.Prelude.{◌≡◌, ◌||◌, List, [], ◌∷◌, ℕ, ◌+◌, ◌*◌, ◌^◌, ◌≤◌, ltb, length}
use Rattle.spec.specs.Recipe.{recipe, gain}
use Rattle.spec.specs.Picture.{Picture}
use Rattle.spec.specs.Refusals as Refusals
use Rattle.spec.specs.Refusals.{Check, check, odd_apart, other_pixels, other_output, too_few_cells, picture_checks, full_size}
use Rattle.filter.specs.declared.checks.Measures.{Measures}
use Rattle.filter.proofs.Measuring.{Known}
use Rattle.difference.specs.declared.Pass.{Pass}
use Rattle.difference.specs.declared.Operand.{Operand}
use Rattle.difference.specs.declared.Plan.{Plan}
use Rattle.gray.specs.declared.rounding.Divisor.{Divisor}
use Rattle.gray.specs.Division.{Divides}
use Rattle.rows.specs.Taking.{Taken}

-- Both one passes of the same picture stand before the first row that is taken, and what divides does so by the product of the weights.
pub record BothTaken (a b : Pass) (by : Divisor) (pixels : List ℕ) : Type 0 where
  pub first : Taken a.state a.left pixels a.row.now a.cells.now
  pub second : Taken b.state b.left pixels b.row.now b.cells.now
  pub same_width : b.state.width ≡ a.state.width
  pub same_height : b.state.height ≡ a.state.height
  pub a_gain : a.weight ≡ gain (recipe a.state.filter)
  pub b_gain : b.weight ≡ gain (recipe b.state.filter)
  pub divides : Divides (a.weight * b.weight) by

-- Two recipes and a picture that a difference accepts, and how many work cells each recipe has.
pub record BothAccepted (a b : Operand) (p : Picture) (front all : ℕ) : Type 0 where
  pub first : Refusals.first (picture_checks (recipe a.filter) p) ≡ 0
  pub second : Refusals.first (picture_checks (recipe b.filter) p) ≡ 0
  pub first_known : Known (recipe a.filter) a.known
  pub second_known : Known (recipe b.filter) b.known
  pub light : gain (recipe a.filter) * gain (recipe b.filter) ≤ 2 ^ 44
  pub middle : front ≡ 2 * full_size (recipe a.filter) p
  pub cells : all ≡ 2 * (full_size (recipe a.filter) p + full_size (recipe b.filter) p)

-- grown sides that an accepted recipe and picture can have
pub record Moderate (m : Measures) (w h : ℕ) : Type 0 where
  pub wide : w + m.row_order ≤ 1279
  pub tall : h + m.column_order ≤ 1279

-- 12 and 13, by what measuring the recipes told
abbrev pub measured_checks : Measures → Measures → List Check
measured_checks m n =
    check (odd_apart m.row_order n.row_order || odd_apart m.column_order n.column_order) 12
    ∷ check (ltb (2 ^ 44) (m.gain * n.gain)) 13 ∷ []

-- the work cells of one recipe, twice its grown size
unfoldable pub grown_cells : Measures → ℕ → ℕ → ℕ
grown_cells m w h = 2 * ((w + m.row_order) * (h + m.column_order))

-- 7, 8, 12 and 13, for so many outputs and work cells; and 6 before them
abbrev pub output_checks : Measures → Measures → Picture → ℕ → ℕ → List Check
output_checks m n p out cells =
    check (other_output out (p.width * p.height)) 7
    ∷ check (too_few_cells cells (grown_cells m p.width p.height + grown_cells n p.width p.height)) 8
    ∷ measured_checks m n

unfoldable pub plan_checks : Measures → Measures → Picture → ℕ → ℕ → List Check
plan_checks m n p out cells = check (other_pixels (length p.pixels) (p.width * p.height)) 6 ∷ output_checks m n p out cells

-- the sizes
abbrev pub plan_of : Measures → Measures → Picture → Plan
plan_of m n p =
    record { middle = grown_cells m p.width p.height; needed = grown_cells m p.width p.height + grown_cells n p.width p.height }
