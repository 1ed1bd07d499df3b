-- A row that is rewritten in place from its end: part by part, and with differences of values a fixed number of places apart.
-- Assumes nothing.
use Rattle.std.proofs.Common.{◌≡◌, ℕ, ◌+◌, ◌-◌, ◌<◌, ◌≤◌, List, ◌++◌, length, get_or, take, drop, set, sym, refl, ap, ◌∙◌, subst, ap₂, arith, length-append, length-drop, length-take-le, get_or-drop, get_or-take, get_or-append-add, ext_get_or, le-leb}
use native.Mathlib.Decide.{dec_lt}
use lib.ListN.{get_or-append}
use borrow.Author.Tests.{lt-leb}
use Rattle.spec.specs.Words.{tab}
use Rattle.laws.proofs.Lists.{length_tab, get_d_tab, tab_agree}
use Rattle.laws.proofs.Kernels.{at}
use Rattle.laws.proofs.Slices.{mix, Mixed, length_mixed, mixed_front, mixed_back, Leftwards, leftwards_more, leftwards_all, length_lent}
use Rattle.along.specs.Private.{minus, less_earlier, differences}

-- n entries more, which were lent from i on and came back as ys
pub mixed_left : {A : Type 0} (d : A) (i n : ℕ) {front back l : List A} (ys : List A) → Mixed (i + n) front back l → length ys ≡ n
    → ((k : ℕ) → k < n → get_or ys k d ≡ get_or back (i + k) d) → Mixed i front back (take i l ++ (ys ++ drop n (drop i l)))
unfolding mix
mixed_left d i n {front} {back} {l} ys m size same =
    let long = length_mixed m in
    let a : length (take i l) ≡ i = length-take-le i l (omega (arith, m.inside)) in
    let b : length (take i front) ≡ i = length-take-le i front (omega (arith, m.size, m.inside)) in
    let rest : length (ys ++ drop n (drop i l)) ≡ length (drop i back) =
    omega (arith, m.inside, length-append ys (drop n (drop i l)), length-drop n (drop i l), length-drop i l, length-drop i back) in
    record {
      size = m.size;
      inside = omega (arith, m.inside);
      is =
          ap₂ ◌++◌
          (ext_get_or d (take i l) (take i front) (a ∙ sym b)
          (λ k g.
          let u : k < i = omega arith in
          get_or-take i l k d u ∙ mixed_front d m k (omega arith) ∙ sym (get_or-take i front k d u)))
          (ext_get_or d (ys ++ drop n (drop i l)) (drop i back) rest
          (λ k g.
          elim (dec_lt k n) [
            | yes u ↦
                get_or-append ys (drop n (drop i l)) d k (omega arith)
                ∙ same k u
                ∙ sym (get_or-drop i back k d)
            | no u ↦
                let e : k ≡ length ys + (k - n) = omega arith in
                let o : i + (n + (k - n)) ≡ i + k = omega arith in
                ap (λ j. get_or (ys ++ drop n (drop i l)) j d) e
                ∙ get_or-append-add ys (drop n (drop i l)) (k - n) d
                ∙ get_or-drop n (drop i l) (k - n) d
                ∙ get_or-drop i l (n + (k - n)) d
                ∙ ap (λ j. get_or l j d) o
                ∙ mixed_back d m (i + k) (omega arith)
                ∙ sym (get_or-drop i back k d)
          ]));
    }

-- eight differences, where the values that are taken away were copied to x and the others were lent
pub eight_made : (n from : ℕ) (xs x ys : List ℕ) → from + 8 ≤ length xs → x ≡ tab 8 (λ k. at xs (from - n + k))
    → ys ≡ tab (length (take (from + 8 - from) (drop from xs))) (λ k. minus (at (take (from + 8 - from) (drop from xs)) k) (at x k))
    → take from xs ++ (ys ++ drop (from + 8 - from) (drop from xs))
    ≡ take from xs ++ (tab 8 (λ k. minus (at xs (from + k)) (at xs (from - n + k))) ++ drop 8 (drop from xs))
unfolding at
eight_made n from xs x ys l e g =
    let size : from + 8 - from ≡ 8 = omega arith in
    let lent = take (from + 8 - from) (drop from xs) in
    ap₂ (λ a b. take from xs ++ (a ++ b))
    (g
    ∙ ap (λ j. tab j (λ k. minus (at lent k) (at x k))) (length_lent from 8 xs l)
    ∙ tab_agree 8 (λ k. minus (at lent k) (at x k)) (λ k. minus (at xs (from + k)) (at xs (from - n + k)))
    (λ k u.
    ap₂ minus (get_or-take (from + 8 - from) (drop from xs) k 0 (omega arith) ∙ get_or-drop from xs k 0)
    (ap (λ l. get_or l k 0) e ∙ get_d_tab 8 (λ k. at xs (from - n + k)) k 0 u)))
    (ap (λ j. drop j (drop from xs)) size)

-- Differences n places apart, taken from the end of the row down to a place.
module _ (n : ℕ) (old : List ℕ) where
  earlier : (k : ℕ) → n ≤ k → less_earlier n old k ≡ minus (at old k) (at old (k - n))
  unfolding less_earlier
  earlier k h = rw (le-leb n k h) refl

  -- one more
  pub apart_more : (from : ℕ) {l : List ℕ} (v : ℕ) → Leftwards (less_earlier n old) old from l → n < from
      → v ≡ minus (get_or l (from - 1) 0) (get_or l (from - 1 - n) 0) → Leftwards (less_earlier n old) old (from - 1) (set l (from - 1) v)
  unfolding at
  apart_more from {l} v m h e =
      let g : from ≡ from - 1 + 1 = omega arith in
      leftwards_more (less_earlier n old) old (from - 1) v (subst (λ i. Leftwards (less_earlier n old) old i l) g m)
      (e
      ∙ ap₂ minus (mixed_front 0 m (from - 1) (omega arith)) (mixed_front 0 m (from - 1 - n) (omega arith))
      ∙ sym (earlier (from - 1) (omega arith)))

  -- eight more
  pub eight_more : (from : ℕ) {l : List ℕ} (new : List ℕ) → Leftwards (less_earlier n old) old from l → n + 8 ≤ from
      → new ≡ take (from - 8) l ++ (tab 8 (λ k. minus (at l (from - 8 + k)) (at l (from - 8 - n + k))) ++ drop 8 (drop (from - 8) l))
      → Leftwards (less_earlier n old) old (from - 8) new
  unfolding at
  eight_more from {l} new m h e =
      let made : ℕ → ℕ = λ k. minus (at l (from - 8 + k)) (at l (from - 8 - n + k)) in
      let g : from ≡ from - 8 + 8 = omega arith in
      let inside : from ≤ length old = omega (arith, m.inside, length_tab (length old) (less_earlier n old)) in
      subst (λ x. Leftwards (less_earlier n old) old (from - 8) x) (sym e)
      (mixed_left 0 (from - 8) 8 (tab 8 made) (subst (λ i. Leftwards (less_earlier n old) old i l) g m) (length_tab 8 made)
      (λ k u.
      let o : from - 8 - n + k ≡ from - 8 + k - n = omega arith in
      get_d_tab 8 made k 0 u
      ∙ ap₂ minus (mixed_front 0 m (from - 8 + k) (omega arith)) (mixed_front 0 m (from - 8 - n + k) (omega arith) ∙ ap (λ j. get_or old j 0) o)
      ∙ sym (get_d_tab (length old) (less_earlier n old) (from - 8 + k) 0 (omega arith) ∙ earlier (from - 8 + k) (omega arith))))

  -- no place is left that has one n places earlier
  pub apart_all : (from : ℕ) {l : List ℕ} → Leftwards (less_earlier n old) old from l → from ≤ n → l ≡ differences n old
  unfolding differences less_earlier at
  apart_all from m h =
      leftwards_all (less_earlier n old) old 0 m
      (λ j g. let u : j < n = omega arith in rw (lt-leb n j u) refl)
