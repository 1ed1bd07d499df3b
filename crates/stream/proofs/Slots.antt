-- The cells of a stage down the columns: the oldest slot gives way to the totals with this row.
-- Assumes nothing.
use Rattle.std.proofs.Common.{◌≡◌, ℕ, ◌+◌, ◌<◌, ◌≤◌, ◌⊎◌, List, ◌++◌, length, get_or, take, drop, sym, ap, ◌∙◌, ⊎_elim, arith}
use Rattle.spec.specs.Words.{tab}
use Rattle.laws.proofs.Lists.{length_tab, get_d_tab}
use Rattle.laws.proofs.Slices.{patched, length_patched, patched_inside, patched_before, patched_after}
use Rattle.stream.specs.Stages.{slot_total}

module _ (before oldest : ℕ) (xs was : List ℕ) (h : oldest + length xs ≤ length was) where
  totals : List ℕ
  totals = tab (length xs) (slot_total before xs was)

  wide : length totals ≡ length xs
  unfolding totals
  wide = length_tab (length xs) (slot_total before xs was)

  fits : oldest + length totals ≤ length was
  fits = omega (arith, wide)

  pub new : List ℕ
  new = patched oldest totals was fits

  pub new_is : take oldest was ++ (tab (length xs) (slot_total before xs was) ++ drop (oldest + length xs) was) ≡ new
  unfolding new totals patched
  new_is = ap (λ n. take oldest was ++ (tab (length xs) (slot_total before xs was) ++ drop (oldest + n) was)) (sym wide)

  pub size : length new ≡ length was
  unfolding new
  size = length_patched oldest totals was fits

  -- the totals go to their places
  pub at_new : (i : ℕ) → i < length xs → get_or new (oldest + i) 0 ≡ slot_total before xs was i
  unfolding new totals
  at_new i g = patched_inside oldest totals was fits 0 i (omega (arith, wide)) ∙ get_d_tab (length xs) (slot_total before xs was) i 0 g

  -- no place outside the slot is touched
  pub beside : (k : ℕ) → (k < oldest) ⊎ (oldest + length xs ≤ k) → get_or new k 0 ≡ get_or was k 0
  unfolding new
  beside k d =
      ⊎_elim
      (λ u. patched_before oldest totals was fits 0 k u)
      (λ u. patched_after oldest totals was fits 0 k (omega (arith, wide)))
      d
