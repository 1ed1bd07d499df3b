-- `difference::planned` meets its contract: the sizes fit, and the checks are asked in their order.
-- Assumes nothing.
use mathlib.Core.Path.{◌≡◌, sym, ap, ap₂, ◌∙◌}
use mathlib.Core.Bool.{cond}
use Prim.Native.Nat.{ℕ, ◌+◌, ◌*◌, ◌≤◌, ◌<◌}
use native.Mathlib.Nat.{mul-le-mul}
use native.Mathlib.Omega.{arith}
use lib.ListN.{length}
use Rattle.std.specs.Prelude.{Err}
use Rattle.std.proofs.lemmas.Result.{err_from_is_err_and}
use Rattle.spec.specs.declared.refusal.Refusal.{Refusal}
use Rattle.spec.specs.declared.refusal.Refusal.TheVariants.{OtherPixels, OtherOutput, TooFewCells}
use Rattle.spec.specs.Picture.{Picture, pictured}
use Rattle.spec.specs.Refusals.{check, first, number, answer, told}
use Rattle.laws.proofs.Refusals.{as_stated, not_stated, by_output, after_output, by_cells, after_cells}
use Rattle.laws.proofs.Results.{told_err, told_ok}
use Rattle.filter.specs.declared.checks.Measures.{Measures}
use Rattle.difference.specs.declared.Plan.{Plan}
use Rattle.difference.specs.Pairs.{Moderate, measured_checks, grown_cells, output_checks, plan_checks, plan_of}
use Rattle.difference.proofs.planned.Goals as goal

-- the work cells are not many
few : (m : Measures) (w h : ℕ) → Moderate m w h → grown_cells m w h ≤ 2 * (1279 * 1279)
unfolding grown_cells
few m w h k = omega (arith, mul-le-mul k.wide k.tall)

module _ (m n : Measures) (p : Picture) (out cells : ℕ) where
  refused : (e : Refusal) → first (plan_checks m n p out cells) ≡ number e → told (λ (x : Plan). x) (Err e) ≡ answer (plan_checks m n p out cells) (plan_of m n p)
  refused e h = told_err (λ (x : Plan). x) (plan_checks m n p out cells) (plan_of m n p) e h

  by_pixels : (length p.pixels ≡ p.width * p.height → ⊥) → first (plan_checks m n p out cells) ≡ 6
  unfolding plan_checks first check
  by_pixels h = ap (λ b. cond b 6 (first (output_checks m n p out cells))) (not_stated (length p.pixels) (p.width * p.height) h)

  -- the pixels are as many as stated
  module _ (six : length p.pixels ≡ p.width * p.height) where
    rest : first (plan_checks m n p out cells) ≡ first (output_checks m n p out cells)
    unfolding plan_checks first check
    rest = ap (λ b. cond b 6 (first (output_checks m n p out cells))) (as_stated (length p.pixels) (p.width * p.height) six)

    by_length : (out ≡ p.width * p.height → ⊥) → first (plan_checks m n p out cells) ≡ 7
    by_length h = rest ∙ by_output _ out (p.width * p.height) h

    module _ (seven : out ≡ p.width * p.height) where
      by_few : cells < grown_cells m p.width p.height + grown_cells n p.width p.height → first (plan_checks m n p out cells) ≡ 8
      by_few h = rest ∙ after_output _ out (p.width * p.height) seven ∙ by_cells _ cells _ h

      by_pair : grown_cells m p.width p.height + grown_cells n p.width p.height ≤ cells → first (plan_checks m n p out cells) ≡ first (measured_checks m n)
      by_pair h = rest ∙ after_output _ out (p.width * p.height) seven ∙ after_cells _ cells _ h

pub returns-then-image-size : goal.returns-then-image-size
unfolding number
returns-then-image-size c = refused _ _ (pictured c.args.image) _ _ OtherPixels (by_pixels _ _ (pictured c.args.image) _ _ c.if-image-size.true)

pub returns-then-out-size : goal.returns-then-out-size
unfolding number
returns-then-out-size c =
    refused _ _ (pictured c.args.image) _ _ OtherOutput (by_length _ _ (pictured c.args.image) _ _ c.if-image-size.false c.if-out-size.true)

pub overflow_add-needed : goal.overflow_add-needed
overflow_add-needed c =
    omega (arith, few _ _ _ c.requires.0, few _ _ _ c.requires.1, c.cells-middle.ensures, c.cells.ensures)

pub returns-then-cells-needed : goal.returns-then-cells-needed
unfolding number
returns-then-cells-needed c =
    refused _ _ (pictured c.args.image) _ _ TooFewCells
    (by_few _ _ (pictured c.args.image) _ _ c.if-image-size.false c.if-out-size.false (omega (arith, c.cells-middle.ensures, c.cells.ensures, c.if-cells-needed.true)))

pub returns-in_err-pair_refusal : goal.returns-in_err-pair_refusal
returns-in_err-pair_refusal c =
    let p = err_from_is_err_and c.from_residual.result c.from_residual.ensures.1 in
    rw (p.1, p.2)
    (refused _ _ (pictured c.args.image) _ _ _
    (by_pair _ _ (pictured c.args.image) _ _ c.if-image-size.false c.if-out-size.false (omega (arith, c.cells-middle.ensures, c.cells.ensures, c.if-cells-needed.false))
    ∙ sym c.in_err-pair_refusal.ensures))

pub returns : goal.returns
returns c =
    let p = pictured c.args.image in
    told_ok (λ (x : Plan). x) (plan_checks _ _ p _ _) (plan_of _ _ p) _
    (by_pair _ _ p _ _ c.if-image-size.false c.if-out-size.false (omega (arith, c.cells-middle.ensures, c.cells.ensures, c.if-cells-needed.false))
    ∙ sym c.in_ok-pair_refusal.ensures)
    (ap₂ (λ x y. record { middle = x; needed = x + y }) c.cells-middle.ensures c.cells.ensures)
