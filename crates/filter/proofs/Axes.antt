-- What filling in the inside weights along one axis answers: a box of the line's length on the coefficients, by their running totals, and
-- the checks, from what measuring the list as a recipe of its own does.
-- Assumes nothing.
use mathlib.Core.Path.{◌≡◌, sym, ap, ◌∙◌}
use mathlib.Core.Bool.{true, false, cond}
use mathlib.Core.List.{List, [], ◌∷◌}
use Prim.Native.Nat.{ℕ, suc, ◌+◌, ◌-◌, ◌/◌, ◌≤◌, ◌<◌, min}
use native.Mathlib.Decide.{dec_le, dec_lt}
use native.Mathlib.Omega.{arith}
use lib.ListN.{length, get_or-eq_default}
use Rattle.spec.specs.Words.{sum, tab}
use Rattle.spec.specs.Recipe.{kernel, order}
use Rattle.spec.specs.Gray.{inside_weight}
use Rattle.std.specs.Prelude.{Ok, Err}
use Rattle.spec.specs.declared.refusal.Refusal.{Refusal}
use Rattle.spec.specs.Refusals.{check, first, answer, told, number, other_output, bad_side, alone, recipe_checks, cell_checks}
use Rattle.laws.proofs.Sums.{sum_front}
use Rattle.laws.proofs.Lists.{length_tab, get_d_tab, tab_agree}
use Rattle.laws.proofs.Sequences.{behind, boxed, running, behind_within, behind_before, boxed_running}
use Rattle.laws.proofs.Kernels.{at}
use Rattle.laws.proofs.Refusals.{first_front, first_rest, recipe_numbered, numbered_more, lent_refused, lent_accepted, by_output, after_output}
use Rattle.laws.proofs.Results.{number_not_zero}
use Rattle.laws.proofs.Inside.{inside_alone, axis_box}
use Rattle.filter.specs.declared.checks.Measures.{Measures}
use Rattle.filter.specs.Measured.{measured}
use Rattle.filter.specs.Axis.{axis_checks, AxisFilled}
use Rattle.filter.proofs.Measuring.{measured_refused, measured_then}
use Rattle.filter.proofs.Filling.{list_weight}

-- ---- a box on coefficients

-- at i of a line of n places, from running totals of which the last is that of all coefficients
abbrev pub apart : List ℕ → ℕ → ℕ → ℕ
apart totals n i = at totals (min i (length totals - 1)) - behind (at totals) n i

module _ (ks totals : List ℕ) (some : 0 < length ks) (is : totals ≡ tab (length ks) (running (at ks))) where
  pub totals_long : length totals ≡ length ks
  totals_long = ap length is ∙ length_tab (length ks) (running (at ks))

  total_at : (k : ℕ) → k < length ks → at totals k ≡ running (at ks) k
  unfolding at
  total_at k h = ap (λ l. at l k) is ∙ get_d_tab (length ks) (running (at ks)) k 0 h

  -- past the coefficients a total stays
  last_total : (i : ℕ) → at totals (min i (length totals - 1)) ≡ running (at ks) i
  unfolding running at
  last_total i =
      elim (dec_lt i (length ks)) [
        | yes h ↦
            let e : min i (length totals - 1) ≡ i = omega (arith, totals_long) in
            ap (at totals) e ∙ total_at i h
        | no h ↦
            let e : min i (length totals - 1) ≡ length ks - 1 = omega (arith, totals_long) in
            let all : suc (length ks - 1) ≡ length ks = omega arith in
            ap (at totals) e
            ∙ total_at (length ks - 1) (omega arith)
            ∙ ap (λ n. sum n (at ks)) all
            ∙ sym (sum_front (at ks) (length ks) (suc i) (omega arith) (λ k g l. get_or-eq_default ks 0 g))
      ]

  module _ (n i : ℕ) (near : i < n + length ks) where
    earlier-total : behind (at totals) n i ≡ behind (running (at ks)) n i
    earlier-total =
        elim (dec_le n i) [
          | yes h ↦ behind_within (at totals) n i h ∙ total_at (i - n) (omega arith) ∙ sym (behind_within (running (at ks)) n i h)
          | no h ↦ behind_before (at totals) n i (omega arith) ∙ sym (behind_before (running (at ks)) n i (omega arith))
        ]

    -- nothing is taken away that was not added
    pub earlier_less : behind (at totals) n i ≤ at totals (min i (length totals - 1))
    earlier_less = omega (arith, earlier-total, last_total i, boxed_running (at ks) n i)

    pub apart_box : apart totals n i ≡ boxed n (at ks) i
    apart_box = omega (arith, earlier-total, last_total i, boxed_running (at ks) n i)

-- ---- the answer

module _ (ns : List ℕ) (side : ℕ) (old : List ℕ) where
  refused_by_lem : (n : ℕ) → first (axis_checks ns side (length old)) ≡ n → (n ≡ 0 → ⊥) → AxisFilled ns side old n old
  refused_by_lem n e h = record { answer = sym e; slice = sym (lent_refused _ _ old n e h) }

  -- by 1 to 4
  pub axis_refused : (e : Refusal) → told (λ (x : Measures). x) (Err e) ≡ answer (recipe_checks (alone ns)) (measured (alone ns))
      → AxisFilled ns side old (number e) old
  unfolding axis_checks cell_checks
  axis_refused e s =
      let h = number_not_zero e in
      refused_by_lem (number e) (first_front (cell_checks (alone ns) side) _ _ (measured_refused (alone ns) e s _) h) h

  module _ (m : Measures) (s : told (λ (x : Measures). x) (Ok m) ≡ answer (recipe_checks (alone ns)) (measured (alone ns))) where
    five : first (cell_checks (alone ns) side) ≡ cond (bad_side side) 5 0
    unfolding cell_checks
    five = measured_then (alone ns) m s (bad_side side) 5

    pub axis_side : bad_side side ≡ true → AxisFilled ns side old 5 old
    unfolding axis_checks
    axis_side b = refused_by_lem 5 (first_front (cell_checks (alone ns) side) _ 5 (five ∙ ap (λ x. cond x 5 0) b) (λ e. omega arith)) (λ e. omega arith)

    module _ (b : bad_side side ≡ false) where
      rest : first (axis_checks ns side (length old)) ≡ first (check (other_output (length old) side) 7 ∷ [])
      unfolding axis_checks cell_checks
      rest =
          first_rest (cell_checks (alone ns) side) _ (numbered_more (recipe_checks (alone ns)) (bad_side side) 4 (recipe_numbered (alone ns)))
          (five ∙ ap (λ x. cond x 5 0) b)

      pub axis_other : (length old ≡ side → ⊥) → AxisFilled ns side old 7 old
      axis_other h = refused_by_lem 7 (rest ∙ by_output [] (length old) side h) (λ e. omega arith)

      pub axis_all : length old ≡ side → (new : List ℕ) → new ≡ tab (length old) (λ k. boxed (length old) (at (kernel ns)) (k + order ns / 2))
          → AxisFilled ns side old 0 new
      unfolding first
      axis_all l new p =
          let e = rest ∙ after_output [] (length old) side l in
          record {
            answer = sym e;
            slice =
                p
                ∙ ap (λ n. tab n (λ k. boxed n (at (kernel ns)) (k + order ns / 2))) l
                ∙ tab_agree side (λ k. boxed side (at (kernel ns)) (k + order ns / 2)) (λ k. inside_weight (alone ns) side 1 k 0)
                (λ k h. sym (inside_alone ns side k ∙ axis_box ns (list_weight ns old m s).0 side (k + order ns / 2)))
                ∙ sym (lent_accepted _ _ old e);
          }
