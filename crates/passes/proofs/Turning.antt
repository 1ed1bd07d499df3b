-- The two buffers that passes go between, and the widths that are left to do.
-- Assumes nothing.
use mathlib.Core.Path.{◌≡◌, refl, sym, ap, ◌∙◌}
use mathlib.Core.Bool.{Bool, true, false, cond}
use mathlib.Core.List.{List, [], ◌∷◌, ◌++◌}
use Prim.Native.Nat.{ℕ, ◌+◌, ◌≤◌, ◌<◌}
use native.Mathlib.Nat.{le_trans, le_of_eq, mul_comm}
use native.Mathlib.Numerals.{add-one}
use native.Mathlib.Omega.{arith}
use lib.Dec.{eqb}
use lib.ListN.{length, get_or, take, drop, take-append-drop}
use lib.Seq.{drop-cons, take_all}
use Rattle.spec.specs.Words.{product}
use Rattle.spec.specs.Recipe.{Recipe, weight, joined}
use Rattle.laws.proofs.Lists.{factor_pos, product_append}
use Rattle.laws.proofs.Kernels.{at}
use Rattle.laws.proofs.Cascades.{spread, cascaded, cascaded_agree, cascaded_grows}
use Rattle.passes.specs.declared.buffers.Buffer.{Buffer}
use Rattle.passes.specs.declared.buffers.Buffer.TheVariants.{Out, Work}
use Rattle.passes.specs.declared.buffers.Buffers.{Buffers}
use Rattle.passes.specs.Steps.{Below, Small}
use Rattle.passes.specs.Turned.{other, turned, turned_by, turned_all, present, held, SameBuffers}

other_twice : (b : Buffer) → other (other b) ≡ b
other_twice Out = refl
other_twice Work = refl

-- a width twice ends where it began
turned_twice : (n : ℕ) (b : Buffer) → turned n (turned n b) ≡ b
unfolding turned
turned_twice n b = go (eqb n 1)
  where
    go : (t : Bool) → cond t (cond t b (other b)) (other (cond t b (other b))) ≡ b
    go true = refl
    go false = other_twice b

-- the buffers may be exchanged before a width or after it
turned_other : (n : ℕ) (b : Buffer) → turned n (other b) ≡ other (turned n b)
unfolding turned
turned_other n b = go (eqb n 1)
  where
    go : (t : Bool) → cond t (other b) (other (other b)) ≡ other (cond t b (other b))
    go true = refl
    go false = refl

turned_by_other : (ns : List ℕ) (b : Buffer) → turned_by ns (other b) ≡ other (turned_by ns b)
turned_by_other [] b = refl
turned_by_other (n ∷ ns) b = ap (turned_by ns) (turned_other n b) ∙ turned_by_other ns (turned n b)

turned_by_turned : (ns : List ℕ) (n : ℕ) (b : Buffer) → turned_by ns (turned n b) ≡ turned n (turned_by ns b)
unfolding turned
turned_by_turned ns n b = go (eqb n 1)
  where
    go : (t : Bool) → turned_by ns (cond t b (other b)) ≡ cond t (turned_by ns b) (other (turned_by ns b))
    go true = refl
    go false = turned_by_other ns b

-- a list of widths twice ends where it began
pub turned_by_twice : (ns : List ℕ) (b : Buffer) → turned_by ns (turned_by ns b) ≡ b
turned_by_twice [] b = refl
turned_by_twice (n ∷ ns) b =
    ap (turned_by ns) (sym (turned_by_turned ns n (turned n b)) ∙ ap (turned_by ns) (turned_twice n b)) ∙ turned_by_twice ns b

-- widths in two lists, one after the other and in either order, and so of two recipes
turned_by_append : (ns ms : List ℕ) (b : Buffer) → turned_by (ns ++ ms) b ≡ turned_by ms (turned_by ns b)
turned_by_append [] ms b = refl
turned_by_append (n ∷ ns) ms b = turned_by_append ns ms (turned n b)

turned_by_comm : (ns ms : List ℕ) (b : Buffer) → turned_by ns (turned_by ms b) ≡ turned_by ms (turned_by ns b)
turned_by_comm [] ms b = refl
turned_by_comm (n ∷ ns) ms b = ap (turned_by ns) (sym (turned_by_turned ms n b)) ∙ turned_by_comm ns ms (turned n b)

pub turned_joined : (r s : Recipe) (b : Buffer) → turned_all s (turned_all r b) ≡ turned_all (joined r s) b
unfolding joined
turned_joined r s b =
    ap (turned_by s.columns) (turned_by_comm s.rows r.columns (turned_by r.rows b))
    ∙ sym (turned_by_append r.columns s.columns (turned_by s.rows (turned_by r.rows b)))
    ∙ ap (turned_by (r.columns ++ s.columns)) (sym (turned_by_append r.rows s.rows b))

-- the picture is as long as each buffer
pub length_held : (b : Buffers) → length (held b) ≡ length b.out.now
length_held b = go b.holder
  where
    go : (h : Buffer) → length (present h b.out.now b.work.now) ≡ length b.out.now
    go Out = refl
    go Work = b.paired

-- the same two stay the same, through one step and another
pub same_twice : (a b c : Buffers) → SameBuffers a b → SameBuffers b c → SameBuffers a c
same_twice a b c s t =
    record {
      out = t.out ∙ s.out;
      work = t.work ∙ s.work;
      long = t.long ∙ s.long;
    }

-- an accepted list is read whole
pub all_boxes : (ns : List ℕ) → length ns ≤ 48 → take 48 ns ≡ ns
all_boxes ns h = take_all 48 ns h

-- the next width of a list
pub next_width : (ns : List ℕ) (i : ℕ) → i < length ns → drop i ns ≡ get_or ns i 0 ∷ drop (i + 1) ns
next_width ns i h = rw (add-one, drop-cons ns i 0) refl

-- Widths in turn, with a spread s: the first i are done, and those that are left lead from the list now to what all lead to from first.
module _ (s : ℕ) (ns : List ℕ) (size : ℕ) (first : List ℕ) where
  abbrev pub Left : ℕ → List ℕ → Type 0
  Left i now = (k : ℕ) → k < size → cascaded s (drop i ns) (at now) k ≡ cascaded s ns (at first) k

  -- the next width
  module _ (i n : ℕ) (now : List ℕ) (e : drop i ns ≡ n ∷ drop (i + 1) ns) (left : Left i now) where
    step : (k : ℕ) → k < size → cascaded s (drop (i + 1) ns) (spread s n (at now)) k ≡ cascaded s ns (at first) k
    unfolding cascaded
    step k h = ap (λ ws. cascaded s ws (at now) k) (sym e) ∙ left k h

    positive : 0 < weight ns → 0 < product (n ∷ drop (i + 1) ns)
    unfolding weight
    positive h =
        le_trans (factor_pos (product (take i ns)) (product (drop i ns))
        (le_trans h (le_of_eq (ap product (sym (take-append-drop i ns)) ∙ product_append (take i ns) (drop i ns)))))
        (le_of_eq (ap product e))

    -- it is not 0, and its sums fit
    pub width_pos : 0 < weight ns → 0 < n
    unfolding weight product
    width_pos h = factor_pos (product (drop (i + 1) ns)) n (le_trans (positive h) (le_of_eq (mul_comm n (product (drop (i + 1) ns)))))

    pub width_small : 0 < weight ns → Small size (cascaded s ns (at first)) → Small size (spread s n (at now))
    unfolding weight product
    width_small h small k l =
        le_trans
        (cascaded_grows s (drop (i + 1) ns) (spread s n (at now)) k (factor_pos n (product (drop (i + 1) ns)) (positive h)))
        (le_trans (le_of_eq (step k l)) (small k l))

    -- after its pass
    pub left_more : (new : List ℕ) → Below size (spread s n (at now)) new → Left (i + 1) new
    left_more new b k h =
        cascaded_agree s (drop (i + 1) ns) (at new) (spread s n (at now)) k (λ j l. b j (omega arith)) ∙ step k h
