-- The row list on a row of pixels and black places, and on all cells: what `along::along` and `keep` make are the stages, one after the
-- other.
-- Assumes nothing.
use Rattle.std.proofs.Common.{◌≡◌, ℕ, zero, suc, ◌+◌, ◌*◌, ◌%◌, ◌^◌, ◌<◌, ◌≤◌, Bool, true, false, cond, not, ◌||◌, eqb, List, ◌++◌, length, get_or, take, drop, sym, refl, ap, ◌∙◌, true≢false, le_trans, le_of_eq, arith, take-append-drop, length-take-le, le-ltb, eqb-true}
use Rattle.spec.specs.Words.{sum, tab, somewhere}
use Rattle.spec.specs.Recipe.{order, weight}
use Rattle.spec.specs.Stream.{box_cells, cascade_cells}
use Rattle.laws.proofs.Lists.{nowhere}
use Rattle.laws.proofs.Kernels.{at}
use Rattle.laws.proofs.Cascades.{cascaded}
use Rattle.along.specs.Along.{wide, too_much, row_after, total_after}
use Rattle.stream.specs.Stages.{row_stage, stages}
use Rattle.stream.specs.Private.{kept}
use Rattle.stream.proofs.Both.{stages_beyond}
use Rattle.stream.proofs.Black.{row_made, row_kept, kept_modulo, kept_narrow}

-- a width that is not wide
not_wide : (n : ℕ) → wide n ≡ false → n ≤ 2
unfolding wide
not_wide n e = go (eqb n 1) (eqb n 2) refl refl e
  where
    go : (a b : Bool) → eqb n 1 ≡ a → eqb n 2 ≡ b → not (a || b) ≡ false → n ≤ 2
    go true b p q r = omega (arith, eqb-true n 1 p)
    go false true p q r = omega (arith, eqb-true n 2 q)
    go false false p q r = absurd (true≢false r)

module _ (w : ℕ) (ns pixels : List ℕ) (short : length ns ≤ 48) (narrow : w ≤ 1279) (bytes : (k : ℕ) → get_or pixels k 0 ≤ 255) where
  fits : too_much (length ns) w ≡ false
  unfolding too_much
  fits = rw (le-ltb 48 (length ns) short, le-ltb 1279 w narrow) refl

  pub row_after_lem : (old : List ℕ) → length old ≡ w → row_after ns pixels old ≡ tab w (λ k. cascaded 1 ns (at pixels) k % 2 ^ 64)
  unfolding row_after
  row_after_lem old e =
      let same = tab w (λ k. cascaded 1 ns (at pixels) k % 2 ^ 64) in
      ap (λ n. cond (too_much (length ns) n) old (tab n (λ k. cascaded 1 ns (at pixels) k % 2 ^ 64))) e ∙ ap (λ b. cond b old same) fits

  total_after_lem : total_after ns pixels w ≡ cond (somewhere wide ns) (sum w (at pixels) % 2 ^ 64) 0
  unfolding total_after
  total_after_lem = ap (λ b. cond b 0 (cond (somewhere wide ns) (sum w (at pixels) % 2 ^ 64) 0)) fits

  few : (n : ℕ) → sum n (at pixels) ≤ 255 * n
  unfolding at sum
  few zero = omega arith
  few (suc n) = omega (arith, few n, bytes n)

  pub total_small : total_after ns pixels w ≤ 255 * 1279
  total_small = le_trans (le_of_eq total_after_lem) (go (somewhere wide ns))
    where
      go : (b : Bool) → cond b (sum w (at pixels) % 2 ^ 64) 0 ≤ 255 * 1279
      go true = omega (arith, few w)
      go false = omega arith

  -- the total as it is told is enough
  pub total_kept : kept ns (total_after ns pixels w) ≡ kept ns (sum w (at pixels))
  total_kept = ap (kept ns) total_after_lem ∙ go (somewhere wide ns) refl
    where
      go : (b : Bool) → somewhere wide ns ≡ b → kept ns (cond b (sum w (at pixels) % 2 ^ 64) 0) ≡ kept ns (sum w (at pixels))
      go true e = kept_modulo ns _ _ (omega arith)
      go false e = kept_narrow ns _ _ (λ i h. not_wide (get_or ns i 0) (nowhere wide 0 ns e i h))

  module _ (cells : List ℕ) (pos : 0 < weight ns) (room : cascade_cells ns ≤ length cells) (black : length pixels + order ns ≤ w) where
    pub row_list : stages box_cells row_stage ns (tab w (λ k. get_or pixels k 0)) cells
        ≡ record {
          row = tab w (λ k. cascaded 1 ns (at pixels) k % 2 ^ 64);
          cells = kept ns (sum w (at pixels)) ++ drop (cascade_cells ns) cells;
        }
    unfolding cascade_cells
    row_list =
        let row = tab w (λ k. get_or pixels k 0) in
        let front = take (cascade_cells ns) cells in
        let back = drop (cascade_cells ns) cells in
        let size : length front ≡ cascade_cells ns = length-take-le (cascade_cells ns) cells room in
        let small : (k : ℕ) → k < length pixels → get_or pixels k 0 < 2 ^ 64 = λ k h. omega (arith, bytes k) in
        ap (stages box_cells row_stage ns row) (sym (take-append-drop (cascade_cells ns) cells))
        ∙ stages_beyond box_cells row_stage ns row front back (sym size)
        ∙ (λ i. record { row = row_made w ns pixels front pos size small i; cells = row_kept w ns pixels front pos size small black i ++ back })
