-- The checks of a recipe, by the counts, the two reaches and the weight held at one more than the largest.
-- Assumes nothing.
use mathlib.Core.Path.{◌≡◌, refl, sym, ap, ap₂, ◌∙◌}
use mathlib.Core.Logic.{◌⊎◌, inl, inr}
use mathlib.Core.Bool.{Bool, true, false, cond, ◌||◌}
use mathlib.Core.List.{List, [], ◌∷◌, ◌++◌}
use Prim.Native.Nat.{ℕ, zero, suc, ◌+◌, ◌*◌, ◌^◌, ◌≤◌, ◌<◌, min}
use native.Mathlib.Nat.{one-mul}
use native.Mathlib.Decide.{dec_le}
use native.Mathlib.Omega.{arith}
use lib.Dec.{eqb, ltb}
use borrow.Author.Tests.{lt-ltb, le-ltb, eq-eqb, ne_eqb, ltb-false}
use Rattle.spec.specs.declared.Filter.{Filter}
use Rattle.spec.specs.Recipe.{Recipe, recipe, widths, order, weight, gain}
use Rattle.spec.specs.declared.refusal.Refusal.{Refusal}
use Rattle.spec.specs.Refusals.{too_long, zero_width, too_far, too_heavy, Check, check, first, answer, told, number, recipe_checks}
use Rattle.laws.proofs.Lists.{length_part, product_zero}
use Rattle.laws.proofs.Refusals.{Accepted, is_accepted, first_front, first_then, recipe_numbered}
use Rattle.laws.proofs.Results.{number_not_zero, told_err, told_ok, err_told, ok_told}
use Rattle.std.specs.Prelude.{Ok, Err}
use Rattle.laws.proofs.Numbers.{zero_factor, cap_times}
use Rattle.filter.specs.declared.checks.Measures.{Measures}
use Rattle.laws.proofs.Boxes.{length_widths}
use Rattle.filter.specs.Measured.{measured}

-- 1 goes by the counts
by_counts : (f : Filter) → too_long (recipe f) ≡ (ltb 48 f.rows.count || ltb 48 f.columns.count)
unfolding too_long recipe widths
by_counts f =
    ap₂ (λ a b. ltb 48 a || ltb 48 b)
    (length_part 0 f.rows.count f.rows.widths) (length_part 0 f.columns.count f.columns.widths)

long : (r : Recipe) → too_long r ≡ true → first (recipe_checks r) ≡ 1
unfolding first recipe_checks check
long r e = rw e refl

long_rows : (f : Filter) → 48 < f.rows.count → first (recipe_checks (recipe f)) ≡ 1
long_rows f h = long (recipe f) (by_counts f ∙ ap (λ b. b || ltb 48 f.columns.count) (lt-ltb 48 f.rows.count h))

long_columns : (f : Filter) → f.rows.count ≤ 48 → 48 < f.columns.count → first (recipe_checks (recipe f)) ≡ 1
long_columns f g h = long (recipe f) (by_counts f ∙ ap₂ ◌||◌ (le-ltb 48 f.rows.count g) (lt-ltb 48 f.columns.count h))

pub counts_short : (f : Filter) → f.rows.count ≤ 48 → f.columns.count ≤ 48 → too_long (recipe f) ≡ false
counts_short f g h = by_counts f ∙ ap₂ ◌||◌ (le-ltb 48 f.rows.count g) (le-ltb 48 f.columns.count h)

pub long_either : (f : Filter) → (48 < f.rows.count) ⊎ ((f.rows.count ≤ 48) × (48 < f.columns.count)) → first (recipe_checks (recipe f)) ≡ 1
long_either f (inl h) = long_rows f h
long_either f (inr h) = long_columns f h.0 h.1

-- the weight, multiplied up over the rows and then over the columns
pub gain_capped : (f : Filter) (a b : ℕ) → a ≡ min (1 * weight (widths f.rows)) (2 ^ 44 + 1)
    → b ≡ min (a * weight (widths f.columns)) (2 ^ 44 + 1) → b ≡ min (gain (recipe f)) (2 ^ 44 + 1)
unfolding gain recipe
gain_capped f a b p q =
    q
    ∙ ap (λ x. min (x * weight (widths f.columns)) (2 ^ 44 + 1)) p
    ∙ cap_times (1 * weight (widths f.rows)) (weight (widths f.columns)) (2 ^ 44 + 1)
    ∙ ap (λ x. min (x * weight (widths f.columns)) (2 ^ 44 + 1)) (one-mul (weight (widths f.rows)))

-- a number of which the smaller of it and a larger limit is known
zero_capped : (g w : ℕ) → g ≡ min w (2 ^ 44 + 1) → eqb w 0 ≡ eqb g 0
zero_capped g zero e = sym (eq-eqb g 0 (omega arith))
zero_capped g (suc w) e = ne_eqb (suc w) 0 (λ q. omega arith) ∙ sym (ne_eqb g 0 (λ q. omega arith))

heavy_capped : (g w : ℕ) → g ≡ min w (2 ^ 44 + 1) → ltb (2 ^ 44) w ≡ ltb (2 ^ 44) g
heavy_capped g w e =
    elim (dec_le w (2 ^ 44)) [
      | yes h ↦ le-ltb (2 ^ 44) w h ∙ sym (le-ltb (2 ^ 44) g (omega arith))
      | no h ↦ lt-ltb (2 ^ 44) w (omega arith) ∙ sym (lt-ltb (2 ^ 44) g (omega arith))
    ]

-- the first of 2 to 4 that holds, by the two reaches and the weight so held
abbrev pub verdict_of : ℕ → ℕ → ℕ → ℕ
verdict_of row_reach column_reach held =
    first (check (eqb held 0) 2 ∷ check (ltb 255 row_reach || ltb 255 column_reach) 3 ∷ check (ltb (2 ^ 44) held) 4 ∷ [])

-- 2 to 4 go by the reaches and the weight so held
pub short : (r : Recipe) (g : ℕ) → too_long r ≡ false → g ≡ min (gain r) (2 ^ 44 + 1)
    → first (recipe_checks r) ≡ verdict_of (order r.rows) (order r.columns) g
unfolding first recipe_checks check zero_width too_far too_heavy weight gain
short r g e p =
    let zeros : zero_width r ≡ eqb g 0 =
    ap₂ ◌||◌ (product_zero r.rows) (product_zero r.columns)
    ∙ zero_factor (weight r.rows) (weight r.columns)
    ∙ zero_capped g (gain r) p in
    rw (e, zeros, heavy_capped g (gain r) p) refl

last_of_three : (a b c : Bool) → ◌≡◌ {A = ℕ} (cond a 2 (cond b 3 (cond c 4 0))) 0 → c ≡ false
last_of_three a b false e = refl
last_of_three true b true e = absurd (omega arith)
last_of_three false true true e = absurd (omega arith)
last_of_three false false true e = absurd (omega arith)

-- a weight that is held and not too heavy is the weight
pub light : (w a b g : ℕ) → g ≡ min w (2 ^ 44 + 1) → verdict_of a b g ≡ 0 → g ≡ w
unfolding first check
light w a b g p e =
    let l : g ≤ 2 ^ 44 = ltb-false (2 ^ 44) g (last_of_three (eqb g 0) (ltb 255 a || ltb 255 b) (ltb (2 ^ 44) g) e) in
    omega arith

pub accepted_so : (r : Recipe) (m : Measures) → m.gain ≡ min (gain r) (2 ^ 44 + 1)
    → m.row_order ≡ order r.rows → m.column_order ≡ order r.columns
    → too_long r ≡ false → verdict_of (order r.rows) (order r.columns) m.gain ≡ 0
    → told (λ (x : Measures). x) (Ok m) ≡ answer (recipe_checks r) (measured r)
accepted_so r m g a b s v =
    let e : first (recipe_checks r) ≡ 0 = short r m.gain s g ∙ v in
    let w = light (gain r) (order r.rows) (order r.columns) m.gain g v in
    told_ok (λ (x : Measures). x) (recipe_checks r) (measured r) m e
    (λ i. record { gain = w i; row_order = a i; column_order = b i })

-- what a caller knows of a recipe that measures as accepted
pub record Known (r : Recipe) (m : Measures) : Type 0 where
  pub none : first (recipe_checks r) ≡ 0
  pub weight : m.gain ≡ gain r
  pub row_reach : m.row_order ≡ order r.rows
  pub column_reach : m.column_order ≡ order r.columns
  pub accepted : Accepted r

pub known : (r : Recipe) (m : Measures) → told (λ (x : Measures). x) (Ok m) ≡ answer (recipe_checks r) (measured r) → Known r m
known r m s =
    let is = ok_told (λ (x : Measures). x) (recipe_checks r) (measured r) m s in
    record {
      none = is.0;
      weight = ap (λ (x : Measures). x.gain) is.1;
      row_reach = ap (λ (x : Measures). x.row_order) is.1;
      column_reach = ap (λ (x : Measures). x.column_order) is.1;
      accepted = is_accepted r is.0;
    }

pub measured_err : (r : Recipe) (e : Refusal) → told (λ (x : Measures). x) (Err e) ≡ answer (recipe_checks r) (measured r)
    → first (recipe_checks r) ≡ number e
measured_err r e s = err_told (λ (x : Measures). x) (recipe_checks r) (measured r) e s

-- The checks of a call that begin with a recipe's: refused by one of those, by one condition b more, or the value.
module _ (r : Recipe) where
  pub measured_refused : (e : Refusal) → told (λ (x : Measures). x) (Err e) ≡ answer (recipe_checks r) (measured r)
      → (ds : List Check) → first (recipe_checks r ++ ds) ≡ number e
  measured_refused e s ds =
      first_front (recipe_checks r) ds (number e) (measured_err r e s) (number_not_zero e)

  module _ (m : Measures) (s : told (λ (x : Measures). x) (Ok m) ≡ answer (recipe_checks r) (measured r)) where
    pub measured_then : (b : Bool) (n : ℕ) → first (recipe_checks r ++ check b n ∷ []) ≡ cond b n 0
    measured_then b n = first_then (recipe_checks r) b n (recipe_numbered r) (known r m s).none

    pub told_then : {A B : Type 0} (f : A → B) (b : Bool) (e : Refusal) (v : B) → b ≡ true
        → told f (Err e) ≡ answer (recipe_checks r ++ check b (number e) ∷ []) v
    told_then f b e v p =
        told_err f (recipe_checks r ++ check b (number e) ∷ []) v e
        (measured_then b (number e) ∙ ap (λ x. cond x (number e) 0) p)

    pub told_accepted : {A B : Type 0} (f : A → B) (b : Bool) (n : ℕ) (a : A) (v : B) → b ≡ false → f a ≡ v
        → told f (Ok a) ≡ answer (recipe_checks r ++ check b n ∷ []) v
    told_accepted f b n a v p q =
        told_ok f (recipe_checks r ++ check b n ∷ []) v a (measured_then b n ∙ ap (λ x. cond x n 0) p) q

-- the counts of an accepted recipe
pub accepted_counts : (f : Filter) → Accepted (recipe f) → (f.rows.count ≤ 48) × (f.columns.count ≤ 48)
unfolding recipe
accepted_counts f k = (omega (arith, length_widths f.rows, k.rows_short), omega (arith, length_widths f.columns, k.columns_short))
