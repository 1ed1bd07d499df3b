-- Tallies of the widths of cascades: the loop that counts them, the loop that compares two tallies, and what the comparison says of the lists.
-- Assumes nothing.
use mathlib.Core.Path.{◌≡◌, refl, sym, ap, ap₂, subst, ◌∙◌}
use mathlib.Core.Bool.{Bool, true, false, cond, ◌&&◌, true≢false}
use mathlib.Core.List.{List, [], ◌∷◌}
use Prim.Native.Nat.{ℕ, ◌+◌, ◌≤◌, ◌<◌}
use native.Mathlib.Nat.{le_trans, le_of_eq, one-mul}
use native.Mathlib.Numerals.{add-one}
use native.Mathlib.Decide.{dec_lt}
use native.Mathlib.Omega.{arith}
use lib.Dec.{eqb}
use lib.ListN.{length, get_or, drop, set, replicate, length-set, length-replicate, get_or-replicate, drop_of_length-le}
use lib.Seq.{get_or-set_same, get_or-set_other, drop-cons}
use borrow.Author.Tests.{eqb-true, eqb-false, lt-ltb, ltb-true}
use Rattle.spec.specs.Words.{tab, everywhere, occurs}
use Rattle.spec.specs.Same.{struck, same_counts}
use Rattle.equivalence.specs.Tally.{byte, tally_of, Alike, Decides}
use Rattle.laws.proofs.Lists.{get_d_tab, total_most}
use Rattle.laws.proofs.Kernels.{at, holds_tab}
use Rattle.laws.proofs.Counts.{Balanced, occurs_none, occurs_here, occurs_other, struck_one, struck_other, everywhere_so, same_balanced, balanced_same}

-- ---- the loop that counts the widths

-- a width occurs no more often than there are widths
occurs_most : (n : ℕ) (ns : List ℕ) → occurs n ns ≤ length ns
unfolding occurs
occurs_most n ns = le_trans (total_most (λ x. cond (eqb x n) 1 0) 1 (λ x. once (eqb x n)) ns) (le_of_eq (one-mul (length ns)))
  where
    once : (b : Bool) → cond b 1 0 ≤ 1
    once true = omega arith
    once false = omega arith

-- After i widths: those from place i on are still to be counted, and to be seen to be bytes.
pub record Tallied (ns counts : List ℕ) (i : ℕ) : Type 0 where
  pub size : length counts ≡ 256
  pub is : (n : ℕ) → n < 256 → get_or counts n 0 + occurs n (drop i ns) ≡ occurs n ns
  pub bytes : everywhere byte (drop i ns) ≡ everywhere byte ns

module _ (ns : List ℕ) where
  pub tallied_none : Tallied ns (replicate 256 0) 0
  tallied_none =
      record {
        size = length-replicate {A = ℕ} 256 0;
        is = λ n h. omega (arith, get_or-replicate {A = ℕ} 256 n 0 0 h);
        bytes = refl;
      }

  module _ (counts : List ℕ) (i : ℕ) (t : Tallied ns counts i) where
    pub tally_small : length ns ≤ 48 → (n : ℕ) → n < 256 → get_or counts n 0 ≤ 48
    tally_small k n l = omega (arith, t.is n l, occurs_most n ns)

    pub tallied_more : i < length ns → (n : ℕ) → n ≡ get_or ns i 0 → n < 256 → Tallied ns (set counts n (get_or counts n 0 + 1)) (i + 1)
    unfolding everywhere
    tallied_more h n e l =
        record {
          size = length-set counts n (get_or counts n 0 + 1) ∙ t.size;
          is = λ m g. go m g (eqb n m) refl;
          bytes =
              ap (λ b. b && everywhere byte (drop (i + 1) ns)) (sym (lt-ltb n 256 l))
              ∙ ap (everywhere byte) (sym here)
              ∙ t.bytes;
        }
      where
        -- the width that is counted, and those after it
        here : drop i ns ≡ n ∷ drop (i + 1) ns
        here = drop-cons ns i 0 h ∙ ap₂ (λ m j. m ∷ drop j ns) (sym e) (sym (add-one i))

        go : (m : ℕ) → m < 256 → (b : Bool) → eqb n m ≡ b
            → get_or (set counts n (get_or counts n 0 + 1)) m 0 + occurs m (drop (i + 1) ns) ≡ occurs m ns
        go m g true q =
            let same : n ≡ m = eqb-true n m q in
            omega (
              arith,
              t.is m g,
              ap (occurs m) here,
              occurs_here m n (drop (i + 1) ns) same,
              ap (λ j. get_or counts j 0) same,
              ap (λ j. get_or (set counts n (get_or counts n 0 + 1)) j 0) same,
              get_or-set_same counts n (get_or counts n 0 + 1) 0 (omega (arith, t.size)),
            )
        go m g false q =
            let other : n ≡ m → ⊥ = eqb-false n m q in
            omega (
              arith,
              t.is m g,
              ap (occurs m) here,
              occurs_other m n (drop (i + 1) ns) other,
              get_or-set_other counts n m (get_or counts n 0 + 1) 0 (λ d. other (sym d)),
            )

    -- all are counted, and those of 1 are struck out
    pub tallied_all : length ns ≤ i → (set counts 1 0 ≡ tally_of ns) × (everywhere byte ns ≡ true)
    unfolding at tally_of everywhere
    tallied_all h = (
      holds_tab (λ n. occurs n (struck ns)) (set counts 1 0) (λ n l. go n (omega (arith, length-set counts 1 0, t.size)) (eqb n 1) refl)
          ∙ ap (λ m. tab m (λ n. occurs n (struck ns))) (length-set counts 1 0 ∙ t.size),
      sym t.bytes ∙ ap (everywhere byte) over,
    )
      where
        over : drop i ns ≡ []
        over = drop_of_length-le ns h

        go : (n : ℕ) → n < 256 → (b : Bool) → eqb n 1 ≡ b → get_or (set counts 1 0) n 0 ≡ occurs n (struck ns)
        go n l true q =
            let one : n ≡ 1 = eqb-true n 1 q in
            ap (λ m. get_or (set counts 1 0) m 0) one
            ∙ get_or-set_same counts 1 0 0 (omega (arith, t.size))
            ∙ sym (ap (λ m. occurs m (struck ns)) one ∙ struck_one ns)
        go n l false q =
            let other : n ≡ 1 → ⊥ = eqb-false n 1 q in
            get_or-set_other counts 1 n 0 0 other
            ∙ omega (arith, t.is n l, ap (occurs n) over, occurs_none n)
            ∙ sym (struck_other n ns other)

-- ---- the loop that compares two tallies

-- Before place n they agree, or they are known to differ.
pub record AlikeBefore (a b : List ℕ) (same : Bool) (n : ℕ) : Type 0 where
  pub so : same ≡ true → (k : ℕ) → k < n → get_or a k 0 ≡ get_or b k 0
  pub not : same ≡ false → Alike a b → ⊥

module _ (a b : List ℕ) where
  pub compared_none : AlikeBefore a b true 0
  compared_none = record { so = λ e k h. absurd (omega arith); not = λ e. absurd (true≢false e) }

  module _ (same : Bool) (n : ℕ) (t : AlikeBefore a b same n) where
    pub compared_more : n < 256 → (x y : ℕ) → x ≡ get_or a n 0 → y ≡ get_or b n 0 → AlikeBefore a b (same && eqb x y) (n + 1)
    compared_more h x y d e = go same (eqb x y) refl refl
      where
        go : (was now : Bool) → same ≡ was → eqb x y ≡ now → AlikeBefore a b (was && now) (n + 1)
        go false now p q = record { so = λ z. absurd (true≢false (sym z)); not = λ z. t.not p }
        go true false p q =
            record {
              so = λ z. absurd (true≢false (sym z));
              not = λ z alike. eqb-false x y q (d ∙ alike n h ∙ sym e);
            }
        go true true p q =
            record {
              so = λ z k l. elim (dec_lt k n) [
                | yes m ↦ t.so p k m
                | no m ↦
                    let is : k ≡ n = omega arith in
                    ap (λ j. get_or a j 0) is ∙ sym d ∙ eqb-true x y q ∙ e ∙ sym (ap (λ j. get_or b j 0) is)
              ];
              not = λ z. absurd (true≢false z);
            }

    pub compared_all : 256 ≤ n → Decides same (Alike a b)
    compared_all h = record { so = λ e k l. t.so e k (omega arith); not = t.not }

-- ---- what the comparison says of the lists

-- a width that is no byte does not occur in a list of bytes
no_byte : (n : ℕ) → 256 ≤ n → (ks : List ℕ) → everywhere byte ks ≡ true → occurs n (struck ks) ≡ 0
no_byte n h ks e =
    struck_other n ks (λ q. omega arith)
    ∙ elim (dec_lt 0 (occurs n ks)) [
      | yes l ↦ absurd (omega (arith, ltb-true n 256 (everywhere_so byte ks e n l)))
      | no l ↦ omega arith
    ]

module _ (ns ms : List ℕ) (x : everywhere byte ns ≡ true) (y : everywhere byte ms ≡ true) where
  tallies_balanced : Alike (tally_of ns) (tally_of ms) → Balanced (struck ns) (struck ms)
  unfolding tally_of
  tallies_balanced e n =
      elim (dec_lt n 256) [
        | yes h ↦ sym (get_d_tab 256 (λ k. occurs k (struck ns)) n 0 h) ∙ e n h ∙ get_d_tab 256 (λ k. occurs k (struck ms)) n 0 h
        | no h ↦ no_byte n (omega arith) ns x ∙ sym (no_byte n (omega arith) ms y)
      ]

  balanced_tallies : Balanced (struck ns) (struck ms) → Alike (tally_of ns) (tally_of ms)
  unfolding tally_of
  balanced_tallies b n h = get_d_tab 256 (λ k. occurs k (struck ns)) n 0 h ∙ b n ∙ sym (get_d_tab 256 (λ k. occurs k (struck ms)) n 0 h)

  tallies_same : (told : Bool) → Decides told (Alike (tally_of ns) (tally_of ms)) → told ≡ same_counts ns ms
  tallies_same true d = sym (balanced_same ns ms (tallies_balanced (d.so refl)))
  tallies_same false d = go (same_counts ns ms) refl
    where
      go : (q : Bool) → same_counts ns ms ≡ q → false ≡ q
      go true e = absurd (d.not refl (balanced_tallies (same_balanced ns ms e)))
      go false e = refl

pub tallies_answer : (ns ms a b : List ℕ) (told : Bool) → (a ≡ tally_of ns) × (everywhere byte ns ≡ true) → (b ≡ tally_of ms) × (everywhere byte ms ≡ true)
    → Decides told (Alike a b) → told ≡ same_counts ns ms
tallies_answer ns ms a b told x y d = tallies_same ns ms x.1 y.1 told (subst (Decides told) (ap₂ Alike x.0 y.0) d)
