-- A picture row in three parts: what is written at both rims, what is kept from row to row, and that the rims and the middle together are
-- the row.
-- Assumes nothing.
use mathlib.Core.Path.{◌≡◌, refl, sym, ap, ap₂, subst, ◌∙◌}
use mathlib.Core.List.{List, [], ◌++◌, map}
use Prim.Native.Nat.{ℕ, ◌+◌, ◌-◌, ◌*◌, ◌^◌, ◌≤◌, ◌<◌}
use native.Mathlib.Nat.{le_refl, mul-zero, div-zero}
use native.Mathlib.Decide.{dec_le, dec_lt}
use native.Mathlib.Omega.{arith}
use lib.IntN.{ℤ}
use lib.ListN.{length, get_or, set, take, drop, replicate, length-replicate, get_or-replicate, get_or-eq_default, get_or-append}
use lib.Seq.{ext_get_or, length-take-le, get_or-take, get_or-set_same, get_or-set_other}
use borrow.Author.Count.{below_more}
use Rattle.spec.specs.Words.{tab}
use Rattle.laws.proofs.Lists.{length_tab, get_d_tab, tab_map}
use Rattle.laws.proofs.Slices.{length_between, get_d_between, length_came, came_before, came_inside, came_after}
use Rattle.spec.specs.declared.refusal.Refusal.{Refusal}
use Rattle.spec.specs.Refusals.{first, outcome}
use Rattle.laws.proofs.Refusals.{after_outputs, lent_accepted}
use Rattle.laws.proofs.Results.{number_not_zero}
use Rattle.gray.specs.declared.rounding.Divisor.{Divisor}
use Rattle.gray.specs.Rounded.{length_checks, Shaded}
use Rattle.std.specs.Prelude.{Result, Ok, Err, IsOk}
use Rattle.gray.specs.Division.{reciprocal_bits, reciprocal_of, divisor, shade_gray, shade_leftover}
use Rattle.blur.specs.declared.rims.Span.{Span}
use Rattle.blur.specs.declared.rims.Band.{Band}
use Rattle.blur.specs.Rims.{weight_at, Dim, Level, OnRims, Ready, shaded}

-- ---- rows, and parts of them

-- one more entry is written
pub one_more : {A : Type 0} (f : ℕ → A) (d : A) (l : List A) (i : ℕ) (v : A) → i < length l → v ≡ f i → ((k : ℕ) → k < i → get_or l k d ≡ f k)
    → (k : ℕ) → k < i + 1 → get_or (set l i v) k d ≡ f k
one_more f d l i v inside is before =
    below_more (λ k. get_or (set l i v) k d ≡ f k) i (λ k h. get_or-set_other l i k v d (λ e. omega arith) ∙ before k h)
    (get_or-set_same l i v d inside ∙ is)

-- a list with what is made at each column is the row
pub is_shaded : {A : Type 0} (f : ℕ → ℕ → A) (d : A) (across : List ℕ) (down : ℕ) (sums : List ℕ) (l : List A) → length l ≡ length across
    → ((k : ℕ) → k < length across → get_or l k d ≡ f (weight_at across down k) (get_or sums k 0)) → l ≡ shaded f across down sums
is_shaded f d across down sums l long is =
    let row : ℕ → _ = λ k. f (weight_at across down k) (get_or sums k 0) in
    ext_get_or d l (shaded f across down sums) (long ∙ sym (length_tab (length across) row))
    (λ k h. let in_row : k < length across = omega arith in is k in_row ∙ sym (get_d_tab (length across) row k d in_row))

module _ {A : Type 0} (f : ℕ → ℕ → A) (d : A) (across : List ℕ) (down : ℕ) (sums : List ℕ) where
  -- what is made at the columns before a, and at those from a on
  pub shaded_front : (a : ℕ) → a ≤ length across → (k : ℕ) → k < a
      → get_or (shaded f (take a across) down (take a sums)) k d ≡ f (weight_at across down k) (get_or sums k 0)
  shaded_front a inside k h =
      get_d_tab (length (take a across)) (λ k. f (weight_at (take a across) down k) (get_or (take a sums) k 0)) k d (omega (arith, length-take-le a across inside))
      ∙ ap₂ (λ x s. f (x * down) s) (get_or-take a across k 0 h) (get_or-take a sums k 0 h)

  pub shaded_back : (a : ℕ) → a ≤ length across → length sums ≡ length across → (k : ℕ) → k < length across - a
      → get_or (shaded f (take (length across - a) (drop a across)) down (take (length sums - a) (drop a sums))) k d
      ≡ f (weight_at across down (a + k)) (get_or sums (a + k) 0)
  shaded_back a inside size k h =
      let xs = take (length across - a) (drop a across) in
      let ys = take (length sums - a) (drop a sums) in
      get_d_tab (length xs) (λ k. f (weight_at xs down k) (get_or ys k 0)) k d (omega (arith, length_between 0 across a (length across) inside (le_refl (length across))))
      ∙ ap₂ (λ x s. f (x * down) s)
      (get_d_between 0 across a (length across) inside (le_refl (length across)) k h)
      (get_d_between 0 sums a (length sums) (omega arith) (le_refl (length sums)) k (omega arith))

-- what is written at the columns of one rim and then of the other stands at both
pub both_rims : {A : Type 0} (d : A) (s : Span) (e : ℕ) (ys back zs : List A) → s.from < s.to → s.to ≤ e → e ≤ length (ys ++ back) → length ys ≡ s.from
    → length zs ≡ e - s.to → (f : ℕ → A) → ((k : ℕ) → k < s.from → get_or ys k d ≡ f k) → ((k : ℕ) → k < e - s.to → get_or zs k d ≡ f (s.to + k))
    → (k : ℕ) → k < e → (s.from ≤ k → s.to ≤ k) → get_or (take s.to (ys ++ back) ++ (zs ++ drop (e - s.to) (drop s.to (ys ++ back)))) k d ≡ f k
both_rims d s e ys back zs some fits room first second f left right k below at =
    elim (dec_lt k s.from) [
      | yes h ↦ came_before d (ys ++ back) s.to e fits room zs k (omega arith) ∙ get_or-append ys back d k (omega (arith, first)) ∙ left k h
      | no h ↦
          let past : s.to ≤ k = at (omega arith) in
          let place : s.to + (k - s.to) ≡ k = omega arith in
          came_inside d (ys ++ back) s.to e fits room zs k past (omega (arith, second)) ∙ right (k - s.to) (omega arith) ∙ ap f place
    ]

-- ---- runs and bands

pub level_run : (across : List ℕ) (at from to : ℕ) → from ≤ at → at < to → to ≤ length across
    → ((k : ℕ) → from ≤ k → k ≤ at → get_or across k 0 ≡ get_or across at 0) → ((k : ℕ) → at ≤ k → k < to → get_or across k 0 ≡ get_or across at 0)
    → Level across (record { from = from; to = to })
level_run across at from to h l g before after =
    record {
      some = omega arith;
      inside = g;
      same = λ k i j.
          elim (dec_le k at) [
            | yes m ↦ before k i m ∙ sym (before from (omega arith) h)
            | no m ↦ after k (omega arith) j ∙ sym (before from (omega arith) h)
          ];
    }

-- a slice of zeros
pub get_d_zeros : (n k : ℕ) → get_or {A = ℕ} (replicate n 0) k 0 ≡ 0
get_d_zeros n k =
    elim (dec_lt k n) [
      | yes h ↦ get_or-replicate n k 0 0 h
      | no h ↦ get_or-eq_default (replicate n 0) 0 (omega (arith, length-replicate {A = ℕ} n 0))
    ]

-- a band before the first row
pub ready_none : (band : Band) → Level band.across.now band.middle → band.down ≡ 0 → band.by ≡ divisor 0 → length band.across.now ≤ 1024
    → ((k : ℕ) → get_or band.reciprocals k 0 ≡ 0) → Ready band
ready_none band level none by short black =
    let weightless : (k : ℕ) → weight_at band.across.now band.down k ≡ 0 =
    λ k. ap (λ x. get_or band.across.now k 0 * x) none ∙ mul-zero (get_or band.across.now k 0) in
    record {
      level = level;
      short = short;
      by = by ∙ ap divisor (sym (weightless band.middle.from));
      rims = λ k h r. black k ∙ sym (ap reciprocal_of (weightless k) ∙ div-zero (2 ^ reciprocal_bits));
    }

-- ---- the middle, written behind the rims

-- a call without a number is accepted
pub is_accepted : {A : Type 0} (r : Result A Refusal) → outcome r ≡ 0 → IsOk r
is_accepted (Ok a) z = refl
is_accepted (Err e) z = absurd (number_not_zero e z)

-- sums are rounded into outputs of their length
module _ (by : Divisor) (sums out : List ℕ) (left : List ℤ) (e : length out ≡ length sums) (f : length left ≡ length sums)
    (number : ℕ) (new : List ℕ) (new_left : List ℤ) (told : Shaded by sums out left number new new_left) where
  none : first (length_checks sums out left) ≡ 0
  unfolding first
  none = after_outputs [] (length out) (length left) (length sums) e f

  pub rounded_number : number ≡ 0
  rounded_number = told.answer ∙ none

  pub rounded_all : (new ≡ map (shade_gray by) sums) × (new_left ≡ map (shade_leftover by) sums)
  rounded_all = (told.grays ∙ lent_accepted _ _ out none, told.leftovers ∙ lent_accepted _ _ left none)

-- the sums there, by the one weight
pub middle_dim : (across sums : List ℕ) (down : ℕ) (s : Span) → Level across s → length sums ≡ length across → (most : ℕ) → Dim most across down sums
    → (k : ℕ) → get_or (take (s.to - s.from) (drop s.from sums)) k 0 ≤ most * weight_at across down s.from
middle_dim across sums down s level size most dim k =
    let a = s.from in
    let e = s.to in
    let some = level.some in
    let inside = level.inside in
    let h : a ≤ e = omega arith in
    let g : e ≤ length sums = omega arith in
    elim (dec_lt k (e - a)) [
      | yes i ↦
          subst (λ x. x ≤ most * weight_at across down a) (sym (get_d_between 0 sums a e h g k i))
          (subst (λ x. get_or sums (a + k) 0 ≤ most * (x * down)) (level.same (a + k) (omega arith) (omega arith)) (dim (a + k) (omega arith)))
      | no i ↦
          subst (λ x. x ≤ most * weight_at across down a)
          (sym (get_or-eq_default (take (e - a) (drop a sums)) 0 (omega (arith, length_between 0 sums a e h g)))) (omega arith)
    ]

-- the row, of greys and of leftovers alike
pub whole_row : {A : Type 0} (f : ℕ → ℕ → A) (d : A) (across sums : List ℕ) (down : ℕ) (s : Span) → Level across s → length sums ≡ length across
    → (l : List A) → length l ≡ length across → OnRims across s (λ k. get_or l k d ≡ f (weight_at across down k) (get_or sums k 0))
    → (ys : List A) → ys ≡ map (f (weight_at across down s.from)) (take (s.to - s.from) (drop s.from sums))
    → take s.from l ++ (ys ++ drop (s.to - s.from) (drop s.from l)) ≡ shaded f across down sums
whole_row f d across sums down s level size l fits rims ys is =
    let a = s.from in
    let e = s.to in
    let some = level.some in
    let inside = level.inside in
    let h : a ≤ e = omega arith in
    let g : e ≤ length sums = omega arith in
    let in_row : e ≤ length l = omega arith in
    let w = weight_at across down a in
    let part = take (e - a) (drop a sums) in
    let made : ys ≡ tab (length part) (λ k. f w (get_or part k 0)) = is ∙ sym (tab_map (f w) 0 part) in
    let many : length ys ≡ e - a = ap length made ∙ length_tab (length part) (λ k. f w (get_or part k 0)) ∙ length_between 0 sums a e h g in
    let long : length (take a l ++ (ys ++ drop (e - a) (drop a l))) ≡ length l = length_came d l a e h in_row ys many in
    let at : (k : ℕ) → k < length across → get_or (shaded f across down sums) k d ≡ f (weight_at across down k) (get_or sums k 0) =
    λ k i. get_d_tab (length across) (λ k. f (weight_at across down k) (get_or sums k 0)) k d i in
    ext_get_or d (take a l ++ (ys ++ drop (e - a) (drop a l))) (shaded f across down sums)
    (long ∙ fits ∙ sym (length_tab (length across) (λ k. f (weight_at across down k) (get_or sums k 0))))
    (λ k i.
    let k-in : k < length across = omega arith in
    elim (dec_lt k a) [
      | yes b ↦ came_before d l a e h in_row ys k b ∙ rims k k-in (λ q. absurd (omega arith)) ∙ sym (at k k-in)
      | no b ↦
          elim (dec_lt k e) [
            | yes c ↦
                let j : k - a < e - a = omega arith in
                let place : a + (k - a) ≡ k = omega arith in
                came_inside d l a e h in_row ys k (omega arith) (omega arith)
                ∙ ap (λ x. get_or x (k - a) d) made
                ∙ get_d_tab (length part) (λ k. f w (get_or part k 0)) (k - a) d (omega (arith, length_between 0 sums a e h g))
                ∙ ap₂ f (ap (λ x. x * down) (sym (level.same k (omega arith) c))) (get_d_between 0 sums a e h g (k - a) j ∙ ap (λ n. get_or sums n 0) place)
                ∙ sym (at k k-in)
            | no c ↦ came_after d l a e h in_row ys many k (omega arith) ∙ rims k k-in (λ q. omega arith) ∙ sym (at k k-in)
          ]
    ])
