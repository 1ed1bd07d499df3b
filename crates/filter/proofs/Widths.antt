-- A total and a weight over the front of a list of widths, the weight held at a limit; and the width at a
-- place.
-- Assumes nothing.
use mathlib.Core.Path.{◌≡◌, refl, sym, ap, ap₂, ◌∙◌}
use mathlib.Core.List.{List, [], ◌∷◌}
use Prim.Native.Nat.{ℕ, suc, ◌+◌, ◌*◌, ◌≤◌, ◌<◌, min}
use native.Mathlib.Nat.{zero-add, mul-add, mul-one, mul_assoc}
use native.Mathlib.Omega.{arith}
use lib.ListN.{length, get_or, take, drop, drop_of_length-le, get_or-eq_default}
use lib.Seq.{drop-cons, take_all}
use Rattle.spec.specs.declared.Cascade.{Cascade}
use Rattle.spec.specs.Words.{part, total}
use Rattle.spec.specs.Recipe.{widths, weight}
use Rattle.laws.proofs.Lists.{get_d_tab, total_more, product_more}
use Rattle.laws.proofs.Boxes.{length_widths}
use Rattle.laws.proofs.Numbers.{cap_times}

-- A loop over widths that adds up f, no term of which is above most, after i of them.
pub record Summed (f : ℕ → ℕ) (most : ℕ) (ns : List ℕ) (i acc : ℕ) : Type 0 where
  pub is : acc ≡ total f (take i ns)
  pub small : acc ≤ most * i

module _ (f : ℕ → ℕ) (most : ℕ) (ns : List ℕ) where
  pub summed_none : Summed f most ns 0 0
  unfolding total
  summed_none = record { is = refl; small = omega arith }

  module _ (i : ℕ) {acc : ℕ} (s : Summed f most ns i acc) where
    pub summed_more : (v : ℕ) → i < length ns → v ≡ f (get_or ns i 0) → v ≤ most → Summed f most ns (i + 1) (acc + v)
    summed_more v h e l =
        record {
          is = ap₂ ◌+◌ s.is e ∙ sym (total_more f ns i h);
          small = omega (arith, s.small, mul-add most i 1, mul-one most);
        }

    -- after all of them
    pub summed_all : length ns ≤ i → acc ≡ total f ns
    summed_all h = s.is ∙ ap (total f) (take_all i ns h)

-- one width more
pub capped_more : (g₀ cap : ℕ) (ws : List ℕ) (i g r : ℕ) → i < length ws → g ≡ min (g₀ * weight (take i ws)) cap
    → r ≡ min (g * get_or ws i 0) cap → r ≡ min (g₀ * weight (take (i + 1) ws)) cap
unfolding weight
capped_more g₀ cap ws i g r h p q =
    q
    ∙ ap (λ x. min (x * get_or ws i 0) cap) p
    ∙ cap_times (g₀ * weight (take i ws)) (get_or ws i 0) cap
    ∙ ap (λ x. min x cap) (mul_assoc g₀ (weight (take i ws)) (get_or ws i 0) ∙ ap (λ x. g₀ * x) (sym (product_more ws i h)))

-- the width at a place: it stands there in the array, and past the count it is 0
pub width_stored : (c : Cascade) (i : ℕ) → i < c.count → get_or (widths c) i 0 ≡ get_or c.widths i 0
unfolding widths part
width_stored c i h = get_d_tab c.count (λ k. get_or c.widths (0 + k) 0) i 0 h ∙ ap (λ k. get_or c.widths k 0) (zero-add i)

pub width_past : (c : Cascade) (i : ℕ) → c.count ≤ i → get_or (widths c) i 0 ≡ 0
width_past c i h = get_or-eq_default (widths c) 0 (rw length_widths h)

-- the widths from a place on: the one there, and those after it
pub widths_on : (c : Cascade) (i : ℕ) → i < c.count → drop i (widths c) ≡ get_or (widths c) i 0 ∷ drop (suc i) (widths c)
widths_on c i h = drop-cons (widths c) i 0 (rw length_widths h)

pub widths_past : (c : Cascade) (i : ℕ) → c.count ≤ i → drop i (widths c) ≡ []
widths_past c i h = drop_of_length-le (widths c) (rw length_widths h)
