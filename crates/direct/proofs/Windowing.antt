-- The parts of two slices that a window takes: the coefficients from its start on, and as many places of the line, backwards.
-- Assumes nothing.
use Rattle.std.proofs.Common.{◌≡◌, ℕ, ◌+◌, ◌-◌, ◌≤◌, ◌<◌, min, List, length, get_or, take, drop, reverse, sum, sym, ap, ◌∙◌, subst, arith, suc, zero, add-zero, add-one}
use Rattle.std.proofs.Common.{Option, Some, None, Bor, Iter}
use Rattle.std.specs.declared.iter.Zip.{Zip}
use Rattle.std.specs.declared.iter.Rev.{Rev}
use Rattle.std.specs.Iterator.{Yields}
use Rattle.std.specs.Iterator.Adapters.{zip_first, zip_second, rev_source, rev_steps}
use Rattle.std.specs.List.{zip}
use Rattle.std.specs.Slice.Iter.{iter_rest, iter_steps_back}
use Rattle.std.proofs.iter.Yields.{fronts}
use Rattle.std.proofs.lemmas.Iterator.{zips, YieldsList, YieldsList-from_slice, YieldsList-from_zip}
use Rattle.std.proofs.lemmas.Iterator.Adapters.{YieldsList-from_rev_slice}
use Rattle.std.proofs.lemmas.Iterator.Consumers.{YieldsList-turn, YieldsList-end}
use Rattle.std.proofs.lemmas.List.{get_or-take, get_or-drop, get_or-reverse, length-reverse, get_or_default}
use Rattle.std.proofs.lemmas.List.Sums.{sum_by_more}
use Rattle.std.proofs.lemmas.Slice.Zip.{length-zip, get_or-zip}
use lib.ListN.{length-drop}
use lib.Seq.{length-take-le}
use Rattle.laws.proofs.Convolution.{ones}
use Rattle.laws.proofs.Kernels.{at}
use Rattle.direct.proofs.Weighing.{Weighed, weighed_start, weighed_one, ones_past}

module _ (ks line : List ℕ) (i s e : ℕ) (from : s ≡ i + 1 - length line) (to : e ≡ min (length ks) (i + 1)) where
  abbrev pub coefficients : List ℕ
  coefficients = take (e - s) (drop s ks)

  abbrev pub behind : List ℕ
  behind = take (i + 1 - s - (i + 1 - e)) (drop (i + 1 - e) line)

  abbrev pub places : List ℕ
  places = reverse behind

  long : length coefficients ≡ e - s
  long = length-take-le (e - s) (drop s ks) (omega (arith, length-drop s ks))

  behind_long : length behind ≡ e - s
  behind_long =
      let size : i + 1 - s - (i + 1 - e) ≡ e - s = omega arith in
      length-take-le (i + 1 - s - (i + 1 - e)) (drop (i + 1 - e) line) (omega (arith, length-drop (i + 1 - e) line)) ∙ size

  -- the pair at a turn: the coefficient at a, and the line's place i - a
  pub paired : (n x y : ℕ) → n < length (zip coefficients places) → (x, y) ≡ get_or (zip coefficients places) n (x, y)
      → (s + n < e) × (x ≡ at ks (s + n)) × (y ≡ at line (i - (s + n)))
  unfolding at
  paired n x y h g =
      let both = length-zip coefficients places in
      let back : length places ≡ e - s = length-reverse behind ∙ behind_long in
      let inside : n < e - s = omega (arith, both, long, back) in
      let here = g ∙ get_or-zip coefficients places n (x, y) (omega (arith, long)) (omega (arith, back)) in
      let k : e - s - 1 - n < i + 1 - s - (i + 1 - e) = omega arith in
      let place : i + 1 - e + (e - s - 1 - n) ≡ i - (s + n) = omega arith in (
        omega arith,
        ap (λ (p : ℕ × ℕ). p.0) here ∙ get_or-take (e - s) (drop s ks) n x inside ∙ get_or-drop s ks n x
            ∙ get_or_default ks (s + n) x 0 (omega arith),
        ap (λ (p : ℕ × ℕ). p.1) here ∙ get_or-reverse behind n y (omega (arith, behind_long))
            ∙ ap (λ m. get_or behind (m - 1 - n) y) behind_long
            ∙ get_or-take (i + 1 - s - (i + 1 - e)) (drop (i + 1 - e) line) (e - s - 1 - n) y k
            ∙ get_or-drop (i + 1 - e) line (e - s - 1 - n) y
            ∙ ap (λ m. get_or line m y) place
            ∙ get_or_default line (i - (s + n)) y 0 (omega arith),
      )

  -- as many pairs as the window has places
  pub all_paired : length (zip coefficients places) ≡ e - s
  all_paired = omega (arith, length-zip coefficients places, long, length-reverse behind, behind_long)

  -- a loop over the pairs
  module _ (s0 t u : Zip (Iter ℕ) (Rev (Iter ℕ))) (first : iter_rest (zip_first s0) ≡ coefficients) (second : iter_rest (rev_source (zip_second s0)) ≡ behind)
      (xs : List (Bor ℕ × Bor ℕ)) (yielded : Yields (zips fronts (rev_steps iter_steps_back)) s0 xs t)
      (r : Option (Bor ℕ × Bor ℕ)) (steps : zips fronts (rev_steps iter_steps_back) t r u) where
    road : YieldsList (zips fronts (rev_steps iter_steps_back)) (λ p. (p.0.now, p.1.now)) s0 (zip coefficients places)
    road = YieldsList-from_zip (YieldsList-from_slice coefficients first) (YieldsList-from_rev_slice behind second)

    pub turn : (p : Bor ℕ × Bor ℕ) → r ≡ Some p
        → (s + length xs < e) × (p.0.now ≡ at ks (s + length xs)) × (p.1.now ≡ at line (i - (s + length xs)))
    turn p is =
        let here = YieldsList-turn road xs t yielded r u p is steps in
        paired (length xs) p.0.now p.1.now here.0 here.1

    pub end : r ≡ None → length xs ≡ e - s
    end is = (YieldsList-end road xs t yielded r u is steps).1 ∙ all_paired

-- the coefficients from s on that fall inside a line of n ones, added up
pub part_ones : (ks : List ℕ) (n i s m : ℕ) → s ≡ i + 1 - n → Weighed ks (ones n) i 1 s 0 → s + m ≤ length ks → s + m ≤ i + 1
    → Weighed ks (ones n) i 1 (s + m) (sum (take m (drop s ks)))
unfolding at
part_ones ks n i s zero from w h l = subst (λ a. Weighed ks (ones n) i 1 a 0) (sym (add-zero s)) w
part_ones ks n i s (suc m) from w h l =
    let before : Weighed ks (ones n) i 1 (s + m) (sum (take m (drop s ks))) = part_ones ks n i s m from w (omega arith) (omega arith) in
    let total = sum (take m (drop s ks)) in
    let here : at ks (s + m) ≡ get_or (drop s ks) m 0 = sym (get_or-drop s ks m 0) in
    let more : sum (take (suc m) (drop s ks)) ≡ total + at ks (s + m) =
    ap (λ k. sum (take k (drop s ks))) (sym (add-one m))
    ∙ sum_by_more (λ x. x) (drop s ks) m 0 (omega (arith, length-drop s ks))
    ∙ ap (λ x. total + x) (sym here) in
    let next : s + m + 1 ≡ s + suc m = omega arith in
    rw more
    (subst (λ a. Weighed ks (ones n) i 1 a (total + at ks (s + m))) next
    (weighed_one ks n i before (omega arith) (omega arith)))

-- and so for the whole window
pub window_ones : (ks : List ℕ) (n i s e : ℕ) → s ≡ i + 1 - n → e ≡ min (length ks) (i + 1) → 0 < n → i + 1 < n + length ks
    → Weighed ks (ones n) i 1 e (sum (take (e - s) (drop s ks)))
window_ones ks n i s e from to some reach =
    let whole : s + (e - s) ≡ e = omega arith in
    subst (λ a. Weighed ks (ones n) i 1 a (sum (take (e - s) (drop s ks)))) whole
    (part_ones ks n i s (e - s) from (weighed_start ks (ones n) i 1 n s (λ k h. ones_past n k h) from some) (omega arith) (omega arith))
