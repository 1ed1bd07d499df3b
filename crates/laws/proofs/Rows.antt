-- Rows one after the other in one list, W columns and H rows, f j i at column i of row j: the list's length, what stands at each place, and
-- an output that is written row by row.
-- Assumes nothing.
use mathlib.Core.Path.{◌≡◌, sym, ap, ◌∙◌}
use mathlib.Core.List.{List, ◌++◌, flatten}
use Prim.Native.Nat.{ℕ, zero, suc, ◌+◌, ◌-◌, ◌*◌, ◌≤◌, ◌<◌}
use native.Mathlib.Nat.{zero-mul, suc-mul}
use native.Mathlib.Omega.{arith}
use lib.ListN.{length, get_or, take, drop, length-append, get_or-append}
use lib.Seq.{get_or-append-add}
use Rattle.spec.specs.Words.{tab}
use Rattle.laws.proofs.Lists.{length_tab, get_d_tab}
use Rattle.laws.proofs.Slices.{Mixed, mixed_part}

module _ {A : Type 0} (W : ℕ) where
  pub length_rows : (H : ℕ) (f : ℕ → ℕ → A) → length (flatten (tab H (λ j. tab W (f j)))) ≡ H * W
  unfolding tab flatten
  length_rows zero f = sym (zero-mul W)
  length_rows (suc H) f =
      let rest = flatten (tab H (λ j. tab W (f (suc j)))) in
      omega (arith, length-append (tab W (f 0)) rest, length_tab W (f 0), length_rows H (λ j. f (suc j)), suc-mul H W)

  pub get_d_rows : (H : ℕ) (f : ℕ → ℕ → A) (d : A) (j i : ℕ) → j < H → i < W → get_or (flatten (tab H (λ j. tab W (f j)))) (j * W + i) d ≡ f j i
  unfolding tab flatten
  get_d_rows zero f d j i h l = absurd (omega arith)
  get_d_rows (suc H) f d zero i h l =
      let rest = flatten (tab H (λ j. tab W (f (suc j)))) in
      let e : 0 * W + i ≡ i = omega (arith, zero-mul W) in
      ap (λ k. get_or (tab W (f 0) ++ rest) k d) e
      ∙ get_or-append (tab W (f 0)) rest d i (omega (arith, length_tab W (f 0)))
      ∙ get_d_tab W (f 0) i d l
  get_d_rows (suc H) f d (suc j) i h l =
      let rest = flatten (tab H (λ j. tab W (f (suc j)))) in
      let e : suc j * W + i ≡ length (tab W (f 0)) + (j * W + i) = omega (arith, length_tab W (f 0), suc-mul j W) in
      ap (λ k. get_or (tab W (f 0) ++ rest) k d) e
      ∙ get_or-append-add (tab W (f 0)) rest (j * W + i) d
      ∙ get_d_rows H (λ j. f (suc j)) d j i (omega arith) l

  -- one row more, which was lent and came back as ys
  pub rows_more : (H : ℕ) (f : ℕ → ℕ → A) (d : A) (j from : ℕ) {old l : List A} (ys : List A) → Mixed from (flatten (tab H (λ j. tab W (f j)))) old l
      → from ≡ j * W → j < H → from + W ≤ length old → ys ≡ tab W (f j)
      → Mixed (from + W) (flatten (tab H (λ j. tab W (f j)))) old (take from l ++ (ys ++ drop (from + W - from) (drop from l)))
  rows_more H f d j from ys m e h fits is =
      let size : length ys ≡ W = ap length is ∙ length_tab W (f j) in
      mixed_part d from (from + W) ys m (omega arith) fits
      (λ k g.
      ap (λ l. get_or l k d) is
      ∙ get_d_tab W (f j) k d (omega arith)
      ∙ sym (get_d_rows H f d j k h (omega arith))
      ∙ ap (λ b. get_or (flatten (tab H (λ j. tab W (f j)))) (b + k) d) (sym e))
