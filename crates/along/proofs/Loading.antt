-- A row of pixels and black places after them; and boxes counted.
-- Assumes nothing.
use Rattle.std.proofs.Common.{◌≡◌, ℕ, ◌+◌, ◌-◌, ◌<◌, ◌≤◌, min, List, [], ◌∷◌, ◌++◌, length, get_or, take, drop, replicate, sym, refl, ap, ap₂, ◌∙◌, arith, length-append, length-drop, length-take-le, get_or-take, get_or-drop, get_or-append-add, ext_get_or}
use Rattle.std.specs.Prelude.{count_by, ◌==◌}
use Rattle.std.specs.List.{sum_by}
use Rattle.std.proofs.lemmas.List.{get_or_past}
use Rattle.std.proofs.lemmas.List.Sums.{sum_by-cons}
use lib.ListN.{get_or-append, length-replicate, get_or-replicate}
use native.Mathlib.Decide.{dec_lt}
use Rattle.spec.specs.Words.{tab, total, occurs}
use Rattle.laws.proofs.Lists.{tab_agree, tab_get_d}
use Rattle.laws.proofs.Kernels.{at}
use Rattle.along.specs.Along.{wide}
use Rattle.along.specs.Private.{wides}

-- a list by its entries
loaded : (n : ℕ) (f : ℕ → ℕ) (xs : List ℕ) → length xs ≡ n → ((k : ℕ) → k < n → get_or xs k 0 ≡ f k) → xs ≡ tab n f
loaded n f xs size e =
    sym (tab_get_d 0 xs) ∙ ap (λ n. tab n (λ k. get_or xs k 0)) size ∙ tab_agree n (λ k. get_or xs k 0) f e

-- pixels, as many as fit, on a black row
pub on_black : (w fit : ℕ) (xs front old : List ℕ) → old ≡ replicate w 0 → fit ≡ min (length xs) w → length front ≡ fit
    → ((k : ℕ) → k < fit → get_or front k 0 ≡ get_or (take fit xs) k 0) → front ++ drop fit old ≡ tab w (at xs)
unfolding at
on_black w fit xs front old e f size same =
    let long : length old ≡ w = ap length e ∙ length-replicate w 0 in
    loaded w (at xs) (front ++ drop fit old) (length-append front (drop fit old) ∙ omega (arith, length-drop fit old))
    (λ k h.
    elim (dec_lt k fit) [
      | yes u ↦ get_or-append front (drop fit old) 0 k (omega arith) ∙ same k u ∙ get_or-take fit xs k 0 u
      | no u ↦
          let j : k ≡ length front + (k - fit) = omega arith in
          let i : fit + (k - fit) ≡ k = omega arith in
          ap (λ n. get_or (front ++ drop fit old) n 0) j
          ∙ get_or-append-add front (drop fit old) (k - fit) 0
          ∙ get_or-drop fit old (k - fit) 0
          ∙ ap₂ (λ l n. get_or l n 0) e i
          ∙ get_or-replicate w k 0 0 h
          ∙ sym (get_or_past xs k 0 (omega arith))
    ])

-- the front of a black row
pub length_black : (w m : ℕ) → w ≤ m → length (take w (replicate {A = ℕ} m 0)) ≡ w
length_black w m h = length-take-le w (replicate m 0) (omega (arith, length-replicate {A = ℕ} m 0))

pub black : (w m : ℕ) → w ≤ m → take w (replicate m 0) ≡ replicate {A = ℕ} w 0
black w m h =
    ext_get_or 0 (take w (replicate m 0)) (replicate w 0) (length_black w m h ∙ sym (length-replicate {A = ℕ} w 0))
    (λ k g.
    let l : k < w = omega (arith, length_black w m h) in
    get_or-take w (replicate m 0) k 0 l ∙ get_or-replicate m k 0 0 (omega arith) ∙ sym (get_or-replicate w k 0 0 l))

-- boxes counted
count_total : (p : ℕ → ℕ) (xs : List ℕ) → sum_by p xs ≡ total p xs
unfolding total
count_total p [] = refl
count_total p (x ∷ xs) = omega (arith, sum_by-cons p x xs, count_total p xs)

pub count_twos : (ns : List ℕ) → count_by (λ n. n == 2) ns ≡ occurs 2 ns
unfolding occurs
count_twos ns = count_total _ ns

pub count_wides : (ns : List ℕ) → count_by wide ns ≡ wides ns
unfolding wides
count_wides ns = count_total _ ns
