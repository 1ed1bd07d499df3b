-- How often each number occurs in a list, and what depends on that alone.
-- Assumes nothing.
use mathlib.Core.Path.{◌≡◌, refl, sym, ap, ap₂, ◌∙◌}
use mathlib.Core.Bool.{Bool, true, false, not, cond, ◌&&◌}
use mathlib.Core.List.Permᴰ
use mathlib.Core.List.{List, [], ◌∷◌, ◌++◌, Permᴰ}
use Prim.Native.Nat.{ℕ, suc, ◌+◌, ◌*◌, ◌<◌}
use native.Mathlib.Nat.{mul_comm, mul_assoc, mul-pos, one-mul, zero-add}
use native.Mathlib.Decide.{dec_lt}
use native.Mathlib.Omega.{arith}
use lib.Dec.{eqb}
use borrow.Author.Tests.{eq-eqb, ne_eqb, eqb-true}
use Rattle.spec.specs.Words.{total, product, everywhere, keep, occurs}
use Rattle.spec.specs.Same.{struck, same_counts}
use Rattle.laws.proofs.Numbers.{both}
use Rattle.laws.proofs.Lists.{total_append, first_pos, rest_pos}

-- every number occurs as often in the one list as in the other
abbrev pub Balanced : List ℕ → List ℕ → Type 0
Balanced ns ms = (n : ℕ) → occurs n ns ≡ occurs n ms

pub occurs_none : (n : ℕ) → occurs n [] ≡ 0
unfolding occurs total
occurs_none n = refl

pub occurs_here : (n m : ℕ) (ms : List ℕ) → m ≡ n → occurs n (m ∷ ms) ≡ suc (occurs n ms)
unfolding occurs total
occurs_here n m ms e = rw (eq-eqb m n e) (omega arith)

pub occurs_other : (n m : ℕ) (ms : List ℕ) → (m ≡ n → ⊥) → occurs n (m ∷ ms) ≡ occurs n ms
unfolding occurs total
occurs_other n m ms h = rw (ne_eqb m n h) (omega arith)

pub occurs_append : (n : ℕ) (xs ys : List ℕ) → occurs n (xs ++ ys) ≡ occurs n xs + occurs n ys
unfolding occurs
occurs_append n xs ys = total_append (λ x. cond (eqb x n) 1 0) xs ys

-- the entries at which a test holds
pub occurs_keep : (p : ℕ → Bool) (n : ℕ) (xs : List ℕ) → occurs n (keep p xs) ≡ cond (p n) (occurs n xs) 0
unfolding keep occurs total
occurs_keep p n [] = go (p n)
  where
    go : (b : Bool) → ◌≡◌ {A = ℕ} 0 (cond b 0 0)
    go true = refl
    go false = refl
occurs_keep p n (x ∷ xs) = go (eqb x n) refl (p x) refl (occurs_keep p n xs)
  where
    more : (b : Bool) → 0 + cond b (occurs n xs) 0 ≡ cond b (0 + occurs n xs) 0
    more true = refl
    more false = refl

    -- kept or not, an entry that is n and one that is not
    go : (same : Bool) → eqb x n ≡ same → (b : Bool) → p x ≡ b → occurs n (keep p xs) ≡ cond (p n) (occurs n xs) 0
        → occurs n (cond b (x ∷ keep p xs) (keep p xs)) ≡ cond (p n) (cond same 1 0 + occurs n xs) 0
    go true e true h i =
        let q : p n ≡ true = ap p (sym (eqb-true x n e)) ∙ h in
        let j = rw q at i in
        rw (e, q) (ap (λ k. 1 + k) j)
    go true e false h i =
        let q : p n ≡ false = ap p (sym (eqb-true x n e)) ∙ h in
        rw q (rw q at i)
    go false e true h i = rw e (ap (λ k. 0 + k) i ∙ more (p n))
    go false e false h i = i ∙ ap (λ k. cond (p n) k 0) (sym (zero-add (occurs n xs)))

-- A list with its entries in another order: totals, the product and every count stay.
pub total_order : (f : ℕ → ℕ) {xs ys : List ℕ} → Permᴰ xs ys → total f xs ≡ total f ys
unfolding total
total_order f Permᴰ.nil = refl
total_order f (Permᴰ.cons e d) = ap₂ (λ x t. f x + t) e (total_order f d)
total_order f (Permᴰ.swap e d) = omega (arith, ap f e, ap f d)
total_order f (Permᴰ.trans d e) = total_order f d ∙ total_order f e

pub product_order : {xs ys : List ℕ} → Permᴰ xs ys → product xs ≡ product ys
unfolding product
product_order Permᴰ.nil = refl
product_order (Permᴰ.cons e d) = ap₂ ◌*◌ e (product_order d)
product_order (Permᴰ.swap {a} {b} {a'} {b'} {l} e d) =
    sym (mul_assoc a b (product l)) ∙ ap (λ x. x * product l) (mul_comm a b ∙ ap₂ ◌*◌ d e) ∙ mul_assoc a' b' (product l)
product_order (Permᴰ.trans d e) = product_order d ∙ product_order e

-- a list with one n less
unfoldable without : ℕ → List ℕ → List ℕ
without n [] = []
without n (x ∷ xs) = cond (eqb x n) xs (x ∷ without n xs)

to_front : (n : ℕ) (xs : List ℕ) → 0 < occurs n xs → Permᴰ (n ∷ without n xs) xs
unfolding without occurs total
to_front n [] h = absurd (omega arith)
to_front n (x ∷ xs) h = go (eqb x n) refl h (to_front n xs)
  where
    go : (b : Bool) → eqb x n ≡ b → 0 < cond b 1 0 + occurs n xs → (0 < occurs n xs → Permᴰ (n ∷ without n xs) xs)
        → Permᴰ (n ∷ cond b xs (x ∷ without n xs)) (x ∷ xs)
    go true e l next = Permᴰ.cons (sym (eqb-true x n e)) (Permᴰ.refl xs)
    go false e l next = Permᴰ.trans (Permᴰ.swap refl refl) (Permᴰ.cons refl (next (omega arith)))

-- lists in which every number occurs as often differ in their order alone
pub balanced_order : (ns ms : List ℕ) → Balanced ns ms → Permᴰ ns ms
unfolding occurs total
balanced_order [] [] b = Permᴰ.nil
balanced_order [] (m ∷ ms) b = absurd (omega (arith, b m, occurs_here m m ms refl))
balanced_order (n ∷ ns) ms b =
    let front = to_front n ms (omega (arith, b n, occurs_here n n ns refl)) in
    Permᴰ.trans
    (Permᴰ.cons refl (balanced_order ns (without n ms) (λ k. omega (arith, b k, total_order (λ x. cond (eqb x k) 1 0) front))))
    front

-- a width of 1 is struck out, and any other occurs as often as before
pub struck_one : (ns : List ℕ) → occurs 1 (struck ns) ≡ 0
unfolding struck
struck_one ns = occurs_keep (λ n. not (eqb n 1)) 1 ns

pub struck_other : (n : ℕ) (ns : List ℕ) → (n ≡ 1 → ⊥) → occurs n (struck ns) ≡ occurs n ns
unfolding struck
struck_other n ns h = occurs_keep (λ m. not (eqb m 1)) n ns ∙ ap (λ b. cond (not b) (occurs n ns) 0) (ne_eqb n 1 h)

-- Widths of 1 struck out: a total to which they add nothing stays, and the product.
pub struck_total : (f : ℕ → ℕ) → f 1 ≡ 0 → (ns : List ℕ) → total f (struck ns) ≡ total f ns
unfolding struck keep total
struck_total f z [] = refl
struck_total f z (n ∷ ns) = go (eqb n 1) refl (struck_total f z ns)
  where
    go : (b : Bool) → eqb n 1 ≡ b → total f (struck ns) ≡ total f ns → total f (cond (not b) (n ∷ struck ns) (struck ns)) ≡ f n + total f ns
    go true e i = omega (arith, i, z, ap f (eqb-true n 1 e))
    go false e i = ap (λ t. f n + t) i

pub struck_product : (ns : List ℕ) → product (struck ns) ≡ product ns
unfolding struck keep product
struck_product [] = refl
struck_product (n ∷ ns) = go (eqb n 1) refl (struck_product ns)
  where
    go : (b : Bool) → eqb n 1 ≡ b → product (struck ns) ≡ product ns → product (cond (not b) (n ∷ struck ns) (struck ns)) ≡ n * product ns
    go true e i = i ∙ sym (ap (λ k. k * product ns) (eqb-true n 1 e) ∙ one-mul (product ns))
    go false e i = ap (λ t. n * t) i

-- where the product of a list is not 0, neither is that of the entries at which a test holds
pub keep_pos : (p : ℕ → Bool) (xs : List ℕ) → 0 < product xs → 0 < product (keep p xs)
unfolding keep product
keep_pos p [] h = h
keep_pos p (x ∷ xs) h = go (p x) (keep_pos p xs (rest_pos x xs h))
  where
    go : (b : Bool) → 0 < product (keep p xs) → 0 < product (cond b (x ∷ keep p xs) (keep p xs))
    go true i = mul-pos (first_pos x xs h) i
    go false i = i

-- a test that holds everywhere holds of each number that occurs, and one that holds of every number holds everywhere
pub everywhere_so : (p : ℕ → Bool) (xs : List ℕ) → everywhere p xs ≡ true → (n : ℕ) → 0 < occurs n xs → p n ≡ true
unfolding everywhere occurs total
everywhere_so p [] e n h = absurd (omega arith)
everywhere_so p (x ∷ xs) e n h =
    let all = both (p x) (everywhere p xs) e in
    go (eqb x n) refl h (everywhere_so p xs all.1 n) all.0
  where
    go : (b : Bool) → eqb x n ≡ b → 0 < cond b 1 0 + occurs n xs → (0 < occurs n xs → p n ≡ true) → p x ≡ true → p n ≡ true
    go true q l next here = ap p (sym (eqb-true x n q)) ∙ here
    go false q l next here = next (omega arith)

so_everywhere : (p : ℕ → Bool) (xs : List ℕ) → ((n : ℕ) → p n ≡ true) → everywhere p xs ≡ true
unfolding everywhere
so_everywhere p [] h = refl
so_everywhere p (x ∷ xs) h = ap₂ ◌&&◌ (h x) (so_everywhere p xs h)

-- what the comparison by counts says: every number occurs as often, those that occur nowhere too
pub same_balanced : (ns ms : List ℕ) → same_counts ns ms ≡ true → Balanced (struck ns) (struck ms)
unfolding same_counts
same_balanced ns ms e n =
    elim (dec_lt 0 (occurs n (struck ns ++ struck ms))) [
      | yes h ↦
          eqb-true (occurs n (struck ns)) (occurs n (struck ms))
          (everywhere_so (λ k. eqb (occurs k (struck ns)) (occurs k (struck ms))) (struck ns ++ struck ms) e n h)
      | no h ↦ omega (arith, occurs_append n (struck ns) (struck ms))
    ]

pub balanced_same : (ns ms : List ℕ) → Balanced (struck ns) (struck ms) → same_counts ns ms ≡ true
unfolding same_counts
balanced_same ns ms b =
    so_everywhere (λ n. eqb (occurs n (struck ns)) (occurs n (struck ms))) (struck ns ++ struck ms)
    (λ n. eq-eqb (occurs n (struck ns)) (occurs n (struck ms)) (b n))
