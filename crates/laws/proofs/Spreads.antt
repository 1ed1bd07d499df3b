-- Boxes with a spread each, one after the other: two lists of them make the same kernel exactly when their counts balance.
-- Assumes nothing.
use mathlib.Core.Path.{◌≡◌, refl, sym, ◌∙◌}
use mathlib.Core.Logic.{◌↔◌}
use mathlib.Core.List.{List, [], ◌∷◌, ◌++◌, map, Permᴰ}
use Prim.Native.Nat.{ℕ, ◌+◌, ◌*◌, ◌<◌}
use native.Mathlib.Nat.{le_trans, le_of_eq, mul-pos, mul_comm}
use native.Mathlib.Omega.{arith}
use Rattle.spec.specs.Words.{product, occurs}
use Rattle.spec.specs.Recipe.{kernel}
use Rattle.laws.proofs.Lists.{product_append, factor_pos, first_pos, rest_pos}
use Rattle.laws.proofs.Kernels.{at, impulse_start}
use Rattle.laws.proofs.Cascades.{spread}
use Rattle.laws.proofs.Counts.{Balanced, balanced_order, occurs_append}
use Rattle.laws.proofs.Integrators.{integrated, integrated_agree, integrated_box, integrators, integrators_agree, integrators_append, integrators_back, integrators_order, integrators_inside, integrators_counts}

-- a box: its width n, and the spread s of its ones, which stand at 0, s, 2 s and so on
pub record Box : Type 0 where
  pub width : ℕ
  pub spread : ℕ

-- boxes one after the other, the first of the list first
unfoldable pub boxes : List Box → (ℕ → ℕ) → ℕ → ℕ
boxes [] f = f
boxes (b ∷ bs) f = boxes bs (spread b.spread b.width f)

-- n times s, and s, for every box
unfoldable pub ends : List Box → List ℕ
ends bs = map (λ (b : Box). b.width * b.spread) bs

unfoldable pub spreads : List Box → List ℕ
spreads bs = map (λ (b : Box). b.spread) bs

-- plus one at n times s and minus one at s for every box: the totals at every number agree
abbrev pub Balance : List Box → List Box → Type 0
Balance bs cs = (u : ℕ) → occurs u (ends bs) + occurs u (spreads cs) ≡ occurs u (ends cs) + occurs u (spreads bs)

spreads_pos : (bs : List Box) → 0 < product (ends bs) → 0 < product (spreads bs)
unfolding ends spreads product
spreads_pos [] p = p
spreads_pos (b ∷ bs) p =
    mul-pos (factor_pos b.width b.spread (first_pos (b.width * b.spread) (ends bs) p)) (spreads_pos bs (rest_pos (b.width * b.spread) (ends bs) p))

append_pos : (ns ms : List ℕ) → 0 < product ns → 0 < product ms → 0 < product (ns ++ ms)
append_pos ns ms p q = le_trans (mul-pos p q) (le_of_eq (sym (product_append ns ms)))

-- boxes undone: for each there is left the integrator with its spread
boxes_undone : (bs : List Box) (f : ℕ → ℕ) (k : ℕ) → 0 < product (ends bs) → integrators (ends bs) (boxes bs f) k ≡ integrators (spreads bs) f k
unfolding boxes ends spreads integrators
boxes_undone [] f k p = refl
boxes_undone (b ∷ bs) f k p =
    let n = b.width in
    let s = b.spread in
    let here = first_pos (n * s) (ends bs) p in
    let rest = rest_pos (n * s) (ends bs) p in
    let n_pos : 0 < n = factor_pos s n (rw (mul_comm s n) here) in
    let s-pos : 0 < s = factor_pos n s here in
    integrated_agree (n * s) (integrators (ends bs) (boxes bs (spread s n f))) (integrators (spreads bs) (spread s n f)) k
    (λ j l. boxes_undone bs (spread s n f) j rest)
    ∙ integrators_inside (n * s) (spreads bs) (spread s n f) k here (spreads_pos bs rest)
    ∙ integrators_agree (spreads bs) (integrated (n * s) (spread s n f)) (integrated s f) k (λ j l. integrated_box s n f j s-pos n_pos)
    ∙ sym (integrators_inside s (spreads bs) f k s-pos (spreads_pos bs rest))

-- and so after further integrators
undone_after : (us : List ℕ) (bs : List Box) (f : ℕ → ℕ) (k : ℕ) → 0 < product (ends bs)
    → integrators (us ++ ends bs) (boxes bs f) k ≡ integrators (us ++ spreads bs) f k
undone_after us bs f k p =
    integrators_append us (ends bs) (boxes bs f) k
    ∙ integrators_agree us (integrators (ends bs) (boxes bs f)) (integrators (spreads bs) f) k (λ j l. boxes_undone bs f j p)
    ∙ sym (integrators_append us (spreads bs) f k)

-- the ends of both lists, in either order
exchanged : (us vs : List ℕ) → Permᴰ (us ++ vs) (vs ++ us)
exchanged us vs = balanced_order (us ++ vs) (vs ++ us) (λ n. omega (arith, occurs_append n us vs, occurs_append n vs us))

module _ (bs cs : List Box) (p : 0 < product (ends bs)) (q : 0 < product (ends cs)) (f : ℕ → ℕ) where
  -- the boxes of both lists, undone by the ends of both
  both_undone : (k : ℕ) → integrators (ends cs ++ ends bs) (boxes cs f) k ≡ integrators (ends bs ++ spreads cs) f k
  both_undone k =
      integrators_order (exchanged (ends cs) (ends bs)) (append_pos (ends cs) (ends bs) q p) (boxes cs f) k ∙ undone_after (ends bs) cs f k q

  boxes_balance : f 0 ≡ 1 → ((k : ℕ) → boxes bs f k ≡ boxes cs f k) → Balance bs cs
  boxes_balance one e u =
      let same : (k : ℕ) → integrators (ends cs ++ spreads bs) f k ≡ integrators (ends bs ++ spreads cs) f k =
      λ k.
      sym (undone_after (ends cs) bs f k p)
      ∙ integrators_agree (ends cs ++ ends bs) (boxes bs f) (boxes cs f) k (λ j l. e j)
      ∙ both_undone k in
      omega (
        arith,
        integrators_counts f one (ends cs ++ spreads bs) (ends bs ++ spreads cs) (append_pos (ends cs) (spreads bs) q (spreads_pos bs p))
            (append_pos (ends bs) (spreads cs) p (spreads_pos cs q)) same u,
        occurs_append u (ends cs) (spreads bs),
        occurs_append u (ends bs) (spreads cs),
      )

  balance_boxes : Balance bs cs → (k : ℕ) → boxes bs f k ≡ boxes cs f k
  balance_boxes b =
      let balanced : Balanced (ends cs ++ spreads bs) (ends bs ++ spreads cs) =
      λ u. omega (arith, b u, occurs_append u (ends cs) (spreads bs), occurs_append u (ends bs) (spreads cs)) in
      let order' = balanced_order (ends cs ++ spreads bs) (ends bs ++ spreads cs) balanced in
      integrators_back (ends cs ++ ends bs) (boxes bs f) (boxes cs f) (append_pos (ends cs) (ends bs) q p)
      (λ k.
      undone_after (ends cs) bs f k p
      ∙ integrators_order order' (append_pos (ends cs) (spreads bs) q (spreads_pos bs p)) f k
      ∙ sym (both_undone k))

-- The law: the kernels of two lists of boxes, which are what the single 1 becomes, agree exactly when the counts balance.
pub kernels_same : (bs cs : List Box) → 0 < product (ends bs) → 0 < product (ends cs)
    → ((k : ℕ) → boxes bs (at (kernel [])) k ≡ boxes cs (at (kernel [])) k) ↔ Balance bs cs
kernels_same bs cs p q =
    (boxes_balance bs cs p q (at (kernel [])) (impulse_start 0 refl), balance_boxes bs cs p q (at (kernel [])))
