-- Slices that are written place by place, and part by part.
-- Assumes nothing.
use mathlib.Core.Path.{◌≡◌, sym, ap, ◌∙◌}
use mathlib.Core.List.{List, ◌++◌}
use Prim.Native.Nat.{ℕ, ◌+◌, ◌-◌, ◌≤◌, ◌<◌}
use native.Mathlib.Decide.{dec_lt}
use native.Mathlib.Omega.{arith}
use lib.ListN.{length, set, take, drop, get_or-append}
use lib.Seq.{get_or-set_same, get_or-set_other, get_or-append_right, get_or-take, length-take-le}
use Rattle.laws.proofs.Kernels.{at}
use Rattle.laws.proofs.Slices.{get_d_between, length_came}
use Rattle.passes.specs.Steps.{Below}

-- what stands in a list after a store
at_same : (l : List ℕ) (i v : ℕ) → i < length l → at (set l i v) i ≡ v
unfolding at
at_same l i v h = get_or-set_same l i v 0 h

at_other : (l : List ℕ) (i j v : ℕ) → (j ≡ i → ⊥) → at (set l i v) j ≡ at l j
unfolding at
at_other l i j v h = get_or-set_other l i j v 0 h

-- one place more
pub below_more : (f : ℕ → ℕ) (n : ℕ) (l : List ℕ) (v : ℕ) → Below n f l → n < length l → v ≡ f n → Below (n + 1) f (set l n v)
below_more f n l v b h e k m =
    elim (dec_lt k n) [
      | yes g ↦ at_other l n k v (λ q. omega arith) ∙ b k g
      | no g ↦
          let q : k ≡ n = omega arith in
          ap (at (set l n v)) q ∙ at_same l n v h ∙ e ∙ ap f (sym q)
    ]

-- a part more: it begins where the sequence stands already
pub below_part : (f : ℕ → ℕ) (here : ℕ) (old part rest : List ℕ) → Below here f old → here ≤ length old
    → ((k : ℕ) → k < length part → at part k ≡ f (here + k)) → Below (here + length part) f (take here old ++ (part ++ rest))
unfolding at
below_part f here old part rest b h e k m =
    let front : length (take here old) ≡ here = length-take-le here old h in
    elim (dec_lt k here) [
      | yes g ↦ get_or-append (take here old) (part ++ rest) 0 k (omega arith) ∙ get_or-take here old k 0 g ∙ b k g
      | no g ↦
          let i : k - length (take here old) ≡ k - here = omega arith in
          let j : here + (k - here) ≡ k = omega arith in
          get_or-append_right (take here old) (part ++ rest) k 0 (omega arith)
          ∙ ap (λ x. at (part ++ rest) x) i
          ∙ get_or-append part rest 0 (k - here) (omega arith)
          ∙ e (k - here) (omega arith)
          ∙ ap f j
    ]

-- what stands in a part of a list
pub at_between : (xs : List ℕ) (a e k : ℕ) → a ≤ e → e ≤ length xs → k < e - a → at (take (e - a) (drop a xs)) k ≡ at xs (a + k)
unfolding at
at_between xs a e k h l g = get_d_between 0 xs a e h l k g

-- a last part, up to the end of the list
pub below_last : (f : ℕ → ℕ) (here : ℕ) (old part : List ℕ) → Below here f old → here ≤ length old → length part ≡ length old - here
    → ((k : ℕ) → k < length part → at part k ≡ f (here + k))
    → let new = take here old ++ (part ++ drop (length old - here) (drop here old)) in Below (length new) f new
below_last f here old part b h long e k m =
    below_part f here old part (drop (length old - here) (drop here old)) b h e k
    (omega (arith, length_came 0 old here (length old) h (omega arith) part long))
