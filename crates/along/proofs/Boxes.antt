-- A list of boxes by their kinds: those of width 1 change nothing, those of width 2 and the wide ones may be taken apart.
-- Assumes nothing.
use Rattle.std.proofs.Common.{◌≡◌, ℕ, zero, suc, ◌+◌, ◌-◌, ◌^◌, ◌<◌, ◌≤◌, min, Bool, true, false, cond, ◌||◌, eqb, List, [], ◌∷◌, length, drop, replicate, sym, refl, ap, ◌∙◌, ap₂, mul-le-mul_right, suc-add, zero-add, add-one, arith, drop_of_length-le, ne_eqb}
use mathlib.Core.Path.{fun_ext}
use native.Mathlib.Nat.{pow-le-pow_right}
use native.Mathlib.Decide.{dec_lt}
use Rattle.spec.specs.Words.{tab, total, somewhere, occurs}
use Rattle.laws.proofs.Kernels.{at}
use Rattle.laws.proofs.Cascades.{spread, cascaded, spread_unit}
use Rattle.along.specs.Along.{wide}
use Rattle.along.specs.Private.{repeat, paired, totalled, differences, wide_boxes, wides}
use Rattle.along.proofs.Orders.{totals, totals_box, totals_cascaded, box_cascaded}
use Rattle.along.proofs.Rows.{row, row_exact, pairs_row, totals_row, differences_row, pairs_small}

-- which widths are wide
module _ (n : ℕ) where
  pub wide_one : n ≡ 1 → wide n ≡ false
  unfolding wide
  wide_one e = rw e refl

  pub wide_two : n ≡ 2 → wide n ≡ false
  unfolding wide
  wide_two e = rw e refl

  pub wide_other : (n ≡ 1 → ⊥) → (n ≡ 2 → ⊥) → wide n ≡ true
  unfolding wide
  wide_other h g = rw (ne_eqb n 1 h, ne_eqb n 2 g) refl

-- how many boxes of a list are wide, and how many have width 2, by the first of them
module _ (n : ℕ) (ns : List ℕ) where
  wides_none : wide n ≡ false → wides (n ∷ ns) ≡ wides ns
  unfolding wides total
  wides_none e = rw e (zero-add (total (λ n. cond (wide n) 1 0) ns))

  wides_more : wide n ≡ true → wides (n ∷ ns) ≡ suc (wides ns)
  unfolding wides total
  wides_more e = rw e (omega arith)

  twos_none : (n ≡ 2 → ⊥) → occurs 2 (n ∷ ns) ≡ occurs 2 ns
  unfolding occurs total
  twos_none h = rw (ne_eqb n 2 h) (zero-add (total (λ x. cond (eqb x 2) 1 0) ns))

  twos_more : n ≡ 2 → occurs 2 (n ∷ ns) ≡ suc (occurs 2 ns)
  unfolding occurs total
  twos_more e = rw e (omega arith)

  wide_boxes_none : wide n ≡ false → (xs : List ℕ) → wide_boxes (n ∷ ns) xs ≡ wide_boxes ns xs
  unfolding wide_boxes
  wide_boxes_none e xs = rw e refl

  wide_boxes_more : wide n ≡ true → (xs : List ℕ) → wide_boxes (n ∷ ns) xs ≡ wide_boxes ns (differences n xs)
  unfolding wide_boxes
  wide_boxes_more e xs = rw e refl

-- a list from its width at i on: that width is done, and none is left
pub wide_boxes_next : (ns : List ℕ) (i n : ℕ) (xs new target : List ℕ) → drop i ns ≡ n ∷ drop (suc i) ns
    → new ≡ cond (wide n) (differences n xs) xs → wide_boxes (drop i ns) xs ≡ target → wide_boxes (drop (i + 1) ns) new ≡ target
unfolding wide_boxes
wide_boxes_next ns i n xs new target d e g =
    ap₂ (λ j l. wide_boxes (drop j ns) l) (add-one i) e ∙ sym (ap (λ l. wide_boxes l xs) d) ∙ g

pub wide_boxes_all : (ns : List ℕ) (i : ℕ) (xs target : List ℕ) → length ns ≤ i → wide_boxes (drop i ns) xs ≡ target → xs ≡ target
unfolding wide_boxes
wide_boxes_all ns i xs target h g = sym (ap (λ l. wide_boxes l xs) (drop_of_length-le ns {i = i} h)) ∙ g

-- a sequence after the running totals and the boxes of width 2 of a list
unfoldable pub begun : List ℕ → (ℕ → ℕ) → ℕ → ℕ
begun ns f = totals (wides ns) (cascaded 1 (replicate (occurs 2 ns) 2) f)

-- the differences of a list's wide widths, after its running totals and its boxes of width 2: all of its boxes
wide_boxes_empty : (w : ℕ) (f : ℕ → ℕ) → wide_boxes [] (row (2 ^ 64) w (begun [] f)) ≡ row (2 ^ 64) w (cascaded 1 [] f)
unfolding begun cascaded wide_boxes totals wides occurs total
wide_boxes_empty w f = refl

pub wide_boxes_row : (w : ℕ) (ns : List ℕ) (f : ℕ → ℕ) → wide_boxes ns (row (2 ^ 64) w (begun ns f)) ≡ row (2 ^ 64) w (cascaded 1 ns f)
unfolding begun cascaded totals
wide_boxes_row w [] f = wide_boxes_empty w f
wide_boxes_row w (n ∷ ns) f =
    let rest = wide_boxes_row w ns in
    elim (dec_lt n 1) [
      | yes h ↦ other n ns w f rest (λ e. omega arith) (λ e. omega arith)
      | no h ↦
          elim (dec_lt 2 n) [
            | yes g ↦ other n ns w f rest (λ e. omega arith) (λ e. omega arith)
            | no g ↦
                elim (dec_lt n 2) [
                  | yes l ↦ one n ns w f rest (omega arith)
                  | no l ↦ two n ns w f rest (omega arith)
                ]
          ]
    ]
  where
    one : (n : ℕ) (ns : List ℕ) (w : ℕ) (f : ℕ → ℕ) → ((g : ℕ → ℕ) → wide_boxes ns (row (2 ^ 64) w (begun ns g)) ≡ row (2 ^ 64) w (cascaded 1 ns g))
        → n ≡ 1 → wide_boxes (n ∷ ns) (row (2 ^ 64) w (begun (n ∷ ns) f)) ≡ row (2 ^ 64) w (cascaded 1 ns (spread 1 n f))
    one n ns w f rest e =
        let unit : spread 1 n f ≡ f = ap (λ m. spread 1 m f) e ∙ fun_ext (spread_unit 1 f) in
        wide_boxes_none n ns (wide_one n e) (row (2 ^ 64) w (begun (n ∷ ns) f))
        ∙ ap₂ (λ a b. wide_boxes ns (row (2 ^ 64) w (totals a (cascaded 1 (replicate b 2) f))))
        (wides_none n ns (wide_one n e)) (twos_none n ns (λ d. omega arith))
        ∙ rest f
        ∙ ap (λ g. row (2 ^ 64) w (cascaded 1 ns g)) (sym unit)

    two : (n : ℕ) (ns : List ℕ) (w : ℕ) (f : ℕ → ℕ) → ((g : ℕ → ℕ) → wide_boxes ns (row (2 ^ 64) w (begun ns g)) ≡ row (2 ^ 64) w (cascaded 1 ns g))
        → n ≡ 2 → wide_boxes (n ∷ ns) (row (2 ^ 64) w (begun (n ∷ ns) f)) ≡ row (2 ^ 64) w (cascaded 1 ns (spread 1 n f))
    two n ns w f rest e =
        wide_boxes_none n ns (wide_two n e) (row (2 ^ 64) w (begun (n ∷ ns) f))
        ∙ ap₂ (λ a b. wide_boxes ns (row (2 ^ 64) w (totals a (cascaded 1 (replicate b 2) f))))
        (wides_none n ns (wide_two n e)) (twos_more n ns e)
        ∙ rest (spread 1 2 f)
        ∙ ap (λ m. row (2 ^ 64) w (cascaded 1 ns (spread 1 m f))) (sym e)

    other : (n : ℕ) (ns : List ℕ) (w : ℕ) (f : ℕ → ℕ) → ((g : ℕ → ℕ) → wide_boxes ns (row (2 ^ 64) w (begun ns g)) ≡ row (2 ^ 64) w (cascaded 1 ns g))
        → (n ≡ 1 → ⊥) → (n ≡ 2 → ⊥) → wide_boxes (n ∷ ns) (row (2 ^ 64) w (begun (n ∷ ns) f)) ≡ row (2 ^ 64) w (cascaded 1 ns (spread 1 n f))
    other n ns w f rest h g =
        let pairs : List ℕ = replicate (occurs 2 ns) 2 in
        let left = totals (wides ns) (cascaded 1 pairs f) in
        wide_boxes_more n ns (wide_other n h g) (row (2 ^ 64) w (begun (n ∷ ns) f))
        ∙ ap₂ (λ a b. wide_boxes ns (differences n (row (2 ^ 64) w (totals a (cascaded 1 (replicate b 2) f)))))
        (wides_more n ns (wide_other n h g)) (twos_none n ns g)
        ∙ ap (wide_boxes ns) (differences_row n w left)
        ∙ ap (λ u. wide_boxes ns (row (2 ^ 64) w u))
        (totals_box (wides ns) n (cascaded 1 pairs f) ∙ ap (totals (wides ns)) (sym (box_cascaded n pairs f)))
        ∙ rest (spread 1 n f)

-- a list without a wide width
module _ (n : ℕ) (ns : List ℕ) (e : wides (n ∷ ns) ≡ 0) where
  first_not : wide n ≡ false
  unfolding wides total
  first_not = go (wide n) e
    where
      go : (b : Bool) → cond b 1 0 + total (λ n. cond (wide n) 1 0) ns ≡ 0 → b ≡ false
      go true d = absurd (omega arith)
      go false d = refl

  rest_not : wides ns ≡ 0
  rest_not = sym (wides_none n ns first_not) ∙ e

pub wide_boxes_still : (ns xs : List ℕ) → wides ns ≡ 0 → wide_boxes ns xs ≡ xs
unfolding wide_boxes
wide_boxes_still [] xs e = refl
wide_boxes_still (n ∷ ns) xs e = wide_boxes_none n ns (first_not n ns e) xs ∙ wide_boxes_still ns xs (rest_not n ns e)

pub nowhere_wide : (ns : List ℕ) → wides ns ≡ 0 → somewhere wide ns ≡ false
unfolding somewhere
nowhere_wide [] e = refl
nowhere_wide (n ∷ ns) e = ap (λ b. b || somewhere wide ns) (first_not n ns e) ∙ nowhere_wide ns (rest_not n ns e)

pub somewhere_wide : (ns : List ℕ) → 0 < wides ns → somewhere wide ns ≡ true
unfolding somewhere wides total
somewhere_wide [] h = absurd (omega arith)
somewhere_wide (n ∷ ns) h = go (wide n) h (somewhere_wide ns)
  where
    go : (b : Bool) → 0 < cond b 1 0 + total (λ n. cond (wide n) 1 0) ns → (0 < total (λ n. cond (wide n) 1 0) ns → somewhere wide ns ≡ true)
        → (b || somewhere wide ns) ≡ true
    go true l rest = refl
    go false l rest = rest (omega arith)

-- boxes of width 2 after others
pairs_add : (c d : ℕ) (f : ℕ → ℕ) → cascaded 1 (replicate d 2) (cascaded 1 (replicate c 2) f) ≡ cascaded 1 (replicate (c + d) 2) f
unfolding cascaded
pairs_add zero d f = ap (λ n. cascaded 1 (replicate n 2) f) (sym (zero-add d))
pairs_add (suc c) d f = pairs_add c d (spread 1 2 f) ∙ ap (λ n. cascaded 1 (replicate n 2) f) (sym (suc-add c d))

-- A list on w places of pixels and of black past their end.
module _ (w : ℕ) (ns pixels : List ℕ) (bytes : (k : ℕ) → at pixels k ≤ 255) where
  -- without a wide width: up to eight boxes in 16 bits, which lose nothing, and the others in 64
  small : (c : ℕ) → c ≤ 8 → (k : ℕ) → cascaded 1 (replicate c 2) (at pixels) k < 2 ^ 16
  small c h k =
      omega (
        arith,
        pairs_small c 255 (at pixels) bytes k,
        mul-le-mul_right 255 (pow-le-pow_right {n = 2} (omega arith) {i = c} {j = 8} h),
      )

  pub worked_pairs : wides ns ≡ 0
      → repeat (occurs 2 ns - min (occurs 2 ns) 8) (paired (2 ^ 64)) (repeat (min (occurs 2 ns) 8) (paired (2 ^ 16)) (tab w (at pixels)))
      ≡ row (2 ^ 64) w (cascaded 1 ns (at pixels))
  unfolding begun totals
  worked_pairs none =
      let c = occurs 2 ns in
      let fast = min c 8 in
      let p = at pixels in
      let f = cascaded 1 (replicate fast 2) p in
      let short : (k : ℕ) → f k < 2 ^ 16 = small fast (omega arith) in
      let all : fast + (c - fast) ≡ c = omega arith in
      ap (λ l. repeat (c - fast) (paired (2 ^ 64)) (repeat fast (paired (2 ^ 16)) l))
      (row_exact (2 ^ 16) w p (λ k. omega (arith, bytes k)))
      ∙ ap (repeat (c - fast) (paired (2 ^ 64)))
      (pairs_row (2 ^ 16) w fast p
      ∙ sym (row_exact (2 ^ 16) w f short)
      ∙ row_exact (2 ^ 64) w f (λ k. omega (arith, short k)))
      ∙ pairs_row (2 ^ 64) w (c - fast) f
      ∙ ap (row (2 ^ 64) w) (pairs_add fast (c - fast) p ∙ ap (λ n. cascaded 1 (replicate n 2) p) all)
      ∙ ap (λ n. row (2 ^ 64) w (totals n (cascaded 1 (replicate c 2) p))) (sym none)
      ∙ sym (wide_boxes_still ns (row (2 ^ 64) w (begun ns p)) none)
      ∙ wide_boxes_row w ns p

  -- with one: running totals, boxes of width 2 and differences
  pub worked_totals : wide_boxes ns (repeat (occurs 2 ns) (paired (2 ^ 64)) (repeat (wides ns) totalled (tab w (at pixels))))
      ≡ row (2 ^ 64) w (cascaded 1 ns (at pixels))
  unfolding begun
  worked_totals =
      let c = occurs 2 ns in
      let p = at pixels in
      ap (λ l. wide_boxes ns (repeat c (paired (2 ^ 64)) (repeat (wides ns) totalled l)))
      (row_exact (2 ^ 64) w p (λ k. omega (arith, bytes k)))
      ∙ ap (λ l. wide_boxes ns (repeat c (paired (2 ^ 64)) l)) (totals_row w (wides ns) p)
      ∙ ap (wide_boxes ns)
      (pairs_row (2 ^ 64) w c (totals (wides ns) p) ∙ ap (row (2 ^ 64) w) (totals_cascaded (wides ns) (replicate c 2) p))
      ∙ wide_boxes_row w ns p
