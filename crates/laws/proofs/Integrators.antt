-- Integrators, which undo boxes. The integrator with a spread u adds up every u-th earlier value. After a box of width n and spread s, the
-- one with a spread n s gives what the one with a spread s gives without the box. So boxes become products of integrators, and of these the
-- count of each spread can be read off.
-- Assumes nothing.
use mathlib.Core.Path.{◌≡◌, refl, sym, ap, ap₂, ◌∙◌}
use mathlib.Core.Bool.{cond}
use mathlib.Core.List.{List, [], ◌∷◌, ◌++◌, Permᴰ}
use Prim.Native.Nat.{ℕ, zero, suc, ◌+◌, ◌-◌, ◌*◌, ◌≤◌, ◌<◌}
use native.Mathlib.Nat.{le_refl, le_trans, le_of_eq, mul_assoc, add-mul, le-mul_of_pos_right}
use native.Mathlib.Decide.{dec_lt}
use native.Mathlib.Omega.{arith}
use lib.Dec.{ltb}
use borrow.Author.Tests.{lt-ltb, le-ltb}
use Rattle.spec.specs.Words.{sum, product, keep, occurs}
use Rattle.laws.proofs.Sums.{sum_agree, sum_front, sum_rows}
use Rattle.laws.proofs.Lists.{first_pos, rest_pos}
use Rattle.laws.proofs.Sequences.{behind, behind_within, behind_before, behind_agree}
use Rattle.laws.proofs.Cascades.{spread, spread_agree, spread_twice, spread_comm, slide}
use Rattle.laws.proofs.Counts.{Balanced, balanced_order, product_order, occurs_none, occurs_here, occurs_other, occurs_keep, keep_pos}

-- the integrator with a spread s: f k + f (k - s) + .. , as far back as the sequence goes
unfoldable pub integrated : ℕ → (ℕ → ℕ) → ℕ → ℕ
integrated s f k = spread s (suc k) f k

-- integrators one after the other, one for each spread of a list, the last of the list first
unfoldable pub integrators : List ℕ → (ℕ → ℕ) → ℕ → ℕ
integrators [] f = f
integrators (u ∷ us) f = integrated u (integrators us f)

-- a box that reaches back past the start is the integrator
spread_whole : (s m : ℕ) (f : ℕ → ℕ) (k : ℕ) → 0 < s → k < m → spread s m f k ≡ integrated s f k
unfolding integrated spread
spread_whole s m f k h l =
    sum_front (λ a. behind f (a * s) k) (suc k) m l (λ a g i. behind_before f (a * s) k (omega (arith, le-mul_of_pos_right a h)))

-- sequences that agree up to k
pub integrated_agree : (s : ℕ) (f g : ℕ → ℕ) (k : ℕ) → ((j : ℕ) → j ≤ k → f j ≡ g j) → integrated s f k ≡ integrated s g k
unfolding integrated
integrated_agree s f g k e = spread_agree s (suc k) f g k e

-- y (k) = f (k) + y (k - s)
pub integrated_step : (s : ℕ) (f : ℕ → ℕ) (k : ℕ) → 0 < s → integrated s f k ≡ f k + behind (integrated s f) s k
unfolding integrated
integrated_step s f k h =
    omega (
      arith,
      slide s (suc k) f k,
      behind_before f (suc k * s) k (omega (arith, le-mul_of_pos_right (suc k) h)),
      behind_agree (spread s (suc k) f) (integrated s f) k (λ j l. spread_whole s (suc k) f j h (omega arith)) s,
    )

-- integrators may be taken in either order
pub integrated_comm : (s t : ℕ) (f : ℕ → ℕ) (k : ℕ) → 0 < s → 0 < t → integrated s (integrated t f) k ≡ integrated t (integrated s f) k
unfolding integrated
integrated_comm s t f k h g =
    spread_agree s (suc k) (integrated t f) (spread t (suc k) f) k (λ j l. sym (spread_whole t (suc k) f j g (omega arith)))
    ∙ spread_comm s t (suc k) (suc k) f k
    ∙ spread_agree t (suc k) (spread s (suc k) f) (integrated s f) k (λ j l. spread_whole s (suc k) f j h (omega arith))

-- a box, and the integrator that undoes it
pub integrated_box : (s n : ℕ) (f : ℕ → ℕ) (k : ℕ) → 0 < s → 0 < n → integrated (n * s) (spread s n f) k ≡ integrated s f k
unfolding sum spread integrated
integrated_box s n f k h g =
    let wide : k < suc k * n = omega (arith, le-mul_of_pos_right (suc k) g) in
    spread_twice (n * s) s (suc k) n f k
    ∙ sum_agree (λ a. sum n (λ b. behind f (b * s + a * (n * s)) k)) (λ a. sum n (λ b. behind f ((a * n + b) * s) k)) (suc k)
    (λ a l. sum_agree (λ b. behind f (b * s + a * (n * s)) k) (λ b. behind f ((a * n + b) * s) k) n
    (λ b i. ap (λ c. behind f c k) (omega (arith, add-mul (a * n) b s, mul_assoc a n s))))
    ∙ sym (sum_rows (λ c. behind f (c * s) k) (suc k) n)
    ∙ spread_whole s (suc k * n) f k h wide

-- an integrator loses nothing
integrated_back : (s : ℕ) (f g : ℕ → ℕ) → 0 < s → ((k : ℕ) → integrated s f k ≡ integrated s g k) → (k : ℕ) → f k ≡ g k
integrated_back s f g h e k =
    omega (arith, integrated_step s f k h, integrated_step s g k h, e k, behind_agree (integrated s f) (integrated s g) k (λ j l. e j) s)

-- integrators one after the other: sequences that agree, and lists one after the other
pub integrators_agree : (us : List ℕ) (f g : ℕ → ℕ) (k : ℕ) → ((j : ℕ) → j ≤ k → f j ≡ g j) → integrators us f k ≡ integrators us g k
unfolding integrators
integrators_agree [] f g k e = e k (le_refl k)
integrators_agree (u ∷ us) f g k e =
    integrated_agree u (integrators us f) (integrators us g) k (λ j h. integrators_agree us f g j (λ i l. e i (le_trans l h)))

pub integrators_append : (us vs : List ℕ) (f : ℕ → ℕ) (k : ℕ) → integrators (us ++ vs) f k ≡ integrators us (integrators vs f) k
unfolding integrators
integrators_append [] vs f k = refl
integrators_append (u ∷ us) vs f k =
    integrated_agree u (integrators (us ++ vs) f) (integrators us (integrators vs f)) k (λ j h. integrators_append us vs f j)

-- they lose nothing, and may be taken in any order
pub integrators_back : (us : List ℕ) (f g : ℕ → ℕ) → 0 < product us → ((k : ℕ) → integrators us f k ≡ integrators us g k) → (k : ℕ) → f k ≡ g k
unfolding integrators
integrators_back [] f g p e = e
integrators_back (u ∷ us) f g p e =
    integrators_back us f g (rest_pos u us p) (integrated_back u (integrators us f) (integrators us g) (first_pos u us p) e)

pub integrators_order : {us vs : List ℕ} → Permᴰ us vs → 0 < product us → (f : ℕ → ℕ) (k : ℕ) → integrators us f k ≡ integrators vs f k
unfolding integrators
integrators_order Permᴰ.nil g f k = refl
integrators_order (Permᴰ.cons {a = a} {l₁ = us} {l₂ = vs} e d) g f k =
    integrated_agree a (integrators us f) (integrators vs f) k (λ j l. integrators_order d (rest_pos a us g) f j)
    ∙ ap (λ u. integrated u (integrators vs f) k) e
integrators_order (Permᴰ.swap {a = a} {b = b} {l = us} e d) g f k =
    integrated_comm a b (integrators us f) k (first_pos a (b ∷ us) g) (first_pos b us (rest_pos a (b ∷ us) g))
    ∙ ap₂ (λ u v. integrated u (integrated v (integrators us f)) k) d e
integrators_order (Permᴰ.trans d e) g f k =
    integrators_order d g f k ∙ integrators_order e (le_trans g (le_of_eq (product_order d))) f k

-- an integrator that comes last may come first
pub integrators_inside : (t : ℕ) (us : List ℕ) (f : ℕ → ℕ) (k : ℕ) → 0 < t → 0 < product us
    → integrated t (integrators us f) k ≡ integrators us (integrated t f) k
unfolding integrators
integrators_inside t [] f k g p = refl
integrators_inside t (u ∷ us) f k g p =
    integrated_comm t u (integrators us f) k g (first_pos u us p)
    ∙ integrated_agree u (integrated t (integrators us f)) (integrators us (integrated t f)) k
    (λ j l. integrators_inside t us f j g (rest_pos u us p))

-- The product of integrators on a sequence that begins with 1 tells how often each number occurs in their list: at u it is what the
-- smaller numbers give there, and one more for each u.
unfoldable below : ℕ → List ℕ → List ℕ
below u us = keep (λ v. ltb v u) us

-- an integrator changes nothing nearer the start than its spread
near : (v : ℕ) (f : ℕ → ℕ) (k : ℕ) → 0 < v → k < v → integrated v f k ≡ f k
near v f k p l = omega (arith, integrated_step v f k p, behind_before (integrated v f) v k l)

module _ (f : ℕ → ℕ) where
  start : (us : List ℕ) → 0 < product us → integrators us f 0 ≡ f 0
  unfolding integrators
  start [] p = refl
  start (u ∷ us) p = near u (integrators us f) 0 (first_pos u us p) (first_pos u us p) ∙ start us (rest_pos u us p)

  -- before u only the smaller numbers count
  before : (u : ℕ) (us : List ℕ) (k : ℕ) → 0 < product us → k < u → integrators us f k ≡ integrators (below u us) f k
  unfolding integrators below keep
  before u [] k p l = refl
  before u (v ∷ us) k p l =
      elim (dec_lt v u) [
        | yes g ↦
            rw (lt-ltb v u g)
            (integrated_agree v (integrators us f) (integrators (below u us) f) k (λ j i. before u us j (rest_pos v us p) (omega arith)))
        | no g ↦
            let m : u ≤ v = omega arith in
            rw (le-ltb v u m) (near v (integrators us f) k (first_pos v us p) (omega arith) ∙ before u us k (rest_pos v us p) l)
      ]

  module _ (one : f 0 ≡ 1) where
    counted : (u : ℕ) (us : List ℕ) → 0 < product us → integrators us f u ≡ integrators (below u us) f u + occurs u us
    unfolding integrators below keep
    counted u [] p = omega (arith, occurs_none u)
    counted u (v ∷ us) p =
        let all = integrators us f in
        let some = integrators (below u us) f in
        let v-pos = first_pos v us p in
        let rest = counted u us (rest_pos v us p) in
        let step = integrated_step v all u v-pos in
        elim (dec_lt v u) [
          | yes g ↦
              let back : integrated v all (u - v) ≡ integrated v some (u - v) =
              integrated_agree v all some (u - v) (λ j i. before u us j (rest_pos v us p) (omega arith)) in
              rw (lt-ltb v u g)
              (omega (
                arith,
                step,
                integrated_step v some u v-pos,
                behind_within (integrated v all) v u (omega arith),
                behind_within (integrated v some) v u (omega arith),
                back,
                rest,
                occurs_other u v us (λ e. omega arith),
              ))
          | no g ↦
              let m : u ≤ v = omega arith in
              rw (le-ltb v u m)
              (elim (dec_lt u v) [
                | yes l ↦ omega (arith, near v all u v-pos l, rest, occurs_other u v us (λ e. omega arith))
                | no l ↦
                    let e : v ≡ u = omega arith in
                    let z : u - v ≡ 0 = omega arith in
                    omega (
                      arith,
                      step,
                      behind_within (integrated v all) v u (omega arith),
                      ap (integrated v all) z,
                      near v all 0 v-pos v-pos,
                      start us (rest_pos v us p),
                      one,
                      rest,
                      occurs_here u v us e,
                    )
              ])
        ]

    module _ (us vs : List ℕ) (p : 0 < product us) (q : 0 < product vs) (e : (k : ℕ) → integrators us f k ≡ integrators vs f k) where
      -- u occurs as often in both, where every smaller number does
      next : (u : ℕ) → ((v : ℕ) → v < u → occurs v us ≡ occurs v vs) → occurs u us ≡ occurs u vs
      unfolding below
      next u i =
          let smaller : Balanced (below u us) (below u vs) =
          λ v.
          occurs_keep (λ w. ltb w u) v us
          ∙ elim (dec_lt v u) [
            | yes l ↦ ap (λ k. cond (ltb v u) k 0) (i v l)
            | no l ↦ let m : u ≤ v = omega arith in rw (le-ltb v u m) refl
          ]
          ∙ sym (occurs_keep (λ w. ltb w u) v vs) in
          omega (
            arith,
            counted u us p,
            counted u vs q,
            e u,
            integrators_order (balanced_order (below u us) (below u vs) smaller) (keep_pos (λ v. ltb v u) us p) f u,
          )

      pub integrators_counts : Balanced us vs
      integrators_counts n = upto (suc n) n (le_refl (suc n))
        where
          upto : (u v : ℕ) → v < u → occurs v us ≡ occurs v vs
          upto zero v l = absurd (omega arith)
          upto (suc u) v l =
              elim (dec_lt v u) [
                | yes g ↦ upto u v g
                | no g ↦ next v (λ w i. upto u w (omega arith))
              ]
