-- Loops that rewrite a slice in place, entry by entry, from the left or from the right: at each turn the slice is the front of
-- one list and the back of another, of the same length. And parts of a slice that were lent.
-- Assumes nothing.
use mathlib.Core.Path.{◌≡◌, refl, sym, ap, ap₂, subst, ◌∙◌}
use mathlib.Core.List.{List, ◌∷◌, ◌++◌, append-nil, append_assoc}
use Prim.Native.Nat.{ℕ, suc, ◌+◌, ◌-◌, ◌≤◌, ◌<◌}
use native.Mathlib.Nat.{le_refl, add-sub_of_le}
use native.Mathlib.Decide.{dec_lt}
use native.Mathlib.Numerals.{add-one}
use native.Mathlib.Omega.{arith}
use lib.ListN.{length, get_or, take, drop, set, length-append, length-drop, drop_of_length-le, get_or-append}
use Rattle.spec.specs.Words.{tab}
use Rattle.laws.proofs.Lists.{length_tab, get_d_tab}
use lib.Seq.{length-take-le, take_all, take_at, take-suc, drop-cons, append_snoc, set_at, get_or-take, get_or-drop, get_or-append-add, ext_get_or}

module _ {A : Type 0} where
  -- the first i entries of one list, then the rest of another
  unfoldable pub mix : ℕ → List A → List A → List A
  mix i front back = take i front ++ drop i back

  -- the whole front
  mix_whole : (i : ℕ) (front back : List A) → length front ≡ length back → length back ≤ i → mix i front back ≡ front
  unfolding mix
  mix_whole i front back e h =
      ap₂ ◌++◌ (take_all i front (omega arith)) (drop_of_length-le back h) ∙ append-nil front

  -- the entry at i, of the back and of the front
  module _ (d : A) (i : ℕ) (front back : List A) (e : length front ≡ length back) (h : i < length back) where
    mix-here : mix i front back ≡ take i front ++ get_or back i d ∷ drop (suc i) back
    unfolding mix
    mix-here = ap (λ l. take i front ++ l) (drop-cons back i d h)

    mix_next : mix (i + 1) front back ≡ take i front ++ get_or front i d ∷ drop (suc i) back
    unfolding mix
    mix_next =
        let g : i < length front = omega arith in
        rw (add-one i, take-suc front i d g) (append_snoc (take i front) (get_or front i d) (drop (suc i) back))

    -- what a list becomes that has x there, once y is stored
    set-mixed : (l : List A) (x y : A) → l ≡ take i front ++ x ∷ drop (suc i) back → set l i y ≡ take i front ++ y ∷ drop (suc i) back
    set-mixed l x y p =
        ap (λ m. set m i y) p ∙ set_at (take i front) x (drop (suc i) back) y i (length-take-le i front (omega arith))

  -- l is the front of one list up to i and the back of another from i on
  pub record Mixed (i : ℕ) (front back l : List A) : Type 0 where
    pub size : length front ≡ length back
    pub inside : i ≤ length back
    pub is : l ≡ mix i front back

  pub length_mixed : {i : ℕ} {front back l : List A} → Mixed i front back l → length l ≡ length back
  unfolding mix
  length_mixed {i} {front} {back} m =
      ap length m.is
      ∙ length-append (take i front) (drop i back)
      ∙ ap₂ ◌+◌ (length-take-le i front (omega (arith, m.size, m.inside))) (length-drop i back)
      ∙ add-sub_of_le m.inside

  -- nothing is written yet, from the left and from the right
  pub mixed_none : (front back : List A) → length front ≡ length back → Mixed 0 front back back
  unfolding mix
  mixed_none front back e = record { size = e; inside = omega arith; is = refl }

  pub mixed_whole : (front back : List A) → length front ≡ length back → Mixed (length back) front back front
  mixed_whole front back e = record { size = e; inside = le_refl (length back); is = sym (mix_whole (length back) front back e (le_refl (length back))) }

  -- what stands before i, and from i on
  module _ (d : A) {i : ℕ} {front back l : List A} (m : Mixed i front back l) where
    taken : length (take i front) ≡ i
    taken = length-take-le i front (omega (arith, m.size, m.inside))

    pub mixed_front : (j : ℕ) → j < i → get_or l j d ≡ get_or front j d
    unfolding mix
    mixed_front j h =
        ap (λ x. get_or x j d) m.is
        ∙ get_or-append (take i front) (drop i back) d j (omega (arith, taken))
        ∙ get_or-take i front j d h

    pub mixed_back : (j : ℕ) → i ≤ j → get_or l j d ≡ get_or back j d
    unfolding mix
    mixed_back j h =
        let e : j ≡ length (take i front) + (j - i) = omega (arith, taken) in
        let g : i + (j - i) ≡ j = omega arith in
        ap₂ (λ x k. get_or x k d) m.is e
        ∙ get_or-append-add (take i front) (drop i back) (j - i) d
        ∙ get_or-drop i back (j - i) d
        ∙ ap (λ k. get_or back k d) g

  -- one entry more, from the left and from the right
  pub mixed_up : (d : A) {i : ℕ} {front back l : List A} → Mixed i front back l → i < length back
      → Mixed (i + 1) front back (set l i (get_or front i d))
  mixed_up d {i} {front} {back} {l} m h =
      let e = set-mixed d i front back m.size h l _ (get_or front i d) (m.is ∙ mix-here d i front back m.size h) in
      record { size = m.size; inside = omega arith; is = e ∙ sym (mix_next d i front back m.size h) }

  pub mixed_down : (d : A) (i : ℕ) {front back l : List A} → Mixed (i + 1) front back l → Mixed i front back (set l i (get_or back i d))
  mixed_down d i {front} {back} {l} m =
      let h : i < length back = omega (arith, m.inside) in
      let e = set-mixed d i front back m.size h l _ (get_or back i d) (m.is ∙ mix_next d i front back m.size h) in
      record { size = m.size; inside = omega arith; is = e ∙ sym (mix-here d i front back m.size h) }

  -- a part more, which was lent from i to e and came back as ys
  pub mixed_part : (d : A) (i e : ℕ) {front back l : List A} (ys : List A) → Mixed i front back l → e ≡ i + length ys → e ≤ length back
      → ((k : ℕ) → k < length ys → get_or ys k d ≡ get_or front (i + k) d)
      → Mixed e front back (take i l ++ (ys ++ drop (e - i) (drop i l)))
  unfolding mix
  mixed_part d i e {front} {back} {l} ys m p h same =
      let a : length (take i l) ≡ i = length-take-le i l (omega (arith, length_mixed m, m.inside)) in
      let s : length (take e front) ≡ e = length-take-le e front (omega (arith, m.size)) in
      record {
        size = m.size;
        inside = h;
        is =
            sym (append_assoc (take i l) ys (drop (e - i) (drop i l)))
            ∙ ap₂ ◌++◌
            (ext_get_or d (take i l ++ ys) (take e front) (omega (arith, length-append (take i l) ys))
            (λ k g.
            let u : k < e = omega (arith, length-append (take i l) ys) in
            elim (dec_lt k i) [
              | yes v ↦
                  get_or-append (take i l) ys d k (omega arith)
                  ∙ get_or-take i l k d v
                  ∙ mixed_front d m k v
                  ∙ sym (get_or-take e front k d u)
              | no v ↦
                  let w : k ≡ length (take i l) + (k - i) = omega arith in
                  let x : i + (k - i) ≡ k = omega arith in
                  ap (λ n. get_or (take i l ++ ys) n d) w
                  ∙ get_or-append-add (take i l) ys (k - i) d
                  ∙ same (k - i) (omega arith)
                  ∙ ap (λ n. get_or front n d) x
                  ∙ sym (get_or-take e front k d u)
            ]))
            (rest d i e m (omega arith));
      }
    where
      rest : (d : A) (i e : ℕ) {front back l : List A} → Mixed i front back l → i ≤ e → drop (e - i) (drop i l) ≡ drop e back
      rest d i e {front} {back} {l} m q =
          let x : i + (e - i) ≡ e = omega arith in
          ext_get_or d (drop (e - i) (drop i l)) (drop e back)
          (omega (arith, length-drop (e - i) (drop i l), length-drop i l, length-drop e back, length_mixed m))
          (λ k g.
          let y : i + ((e - i) + k) ≡ e + k = omega arith in
          get_or-drop (e - i) (drop i l) k d
          ∙ get_or-drop i l ((e - i) + k) d
          ∙ ap (λ n. get_or l n d) y
          ∙ mixed_back d m (e + k) (omega arith)
          ∙ sym (get_or-drop e back k d))

  -- all is written from the left
  pub mixed_all : {i : ℕ} {front back l : List A} → Mixed i front back l → length back ≤ i → l ≡ front
  mixed_all {i} {front} {back} m h = m.is ∙ mix_whole i front back m.size h

  -- what is left to be written, from the left and from the right, is as it should be
  pub mixed_early : (d : A) {i : ℕ} {front back l : List A} → Mixed i front back l
      → ((k : ℕ) → i ≤ k → k < length back → get_or front k d ≡ get_or back k d) → l ≡ front
  mixed_early d {i} {front} {back} {l} m e =
      ext_get_or d l front (length_mixed m ∙ sym m.size)
      (λ k h.
      elim (dec_lt k i) [
        | yes g ↦ mixed_front d m k g
        | no g ↦
            let u : i ≤ k = omega arith in
            mixed_back d m k u ∙ sym (e k u (omega (arith, length_mixed m)))
      ])

  pub mixed_rest : (d : A) {i : ℕ} {front back l : List A} → Mixed i front back l
      → ((k : ℕ) → k < i → get_or front k d ≡ get_or back k d) → l ≡ back
  mixed_rest d {i} {front} {back} {l} m e =
      ext_get_or d l back (length_mixed m)
      (λ k h.
      elim (dec_lt k i) [
        | yes g ↦ mixed_front d m k g ∙ e k g
        | no g ↦ mixed_back d m k (omega arith)
      ])

-- the length of a part that is lent
pub length_lent : {A : Type 0} (from n : ℕ) (l : List A) → from + n ≤ length l → length (take (from + n - from) (drop from l)) ≡ n
length_lent from n l h =
    let size : from + n - from ≡ n = omega arith in
    length-take-le (from + n - from) (drop from l) (omega (arith, length-drop from l)) ∙ size

-- a part of a list that is lent, from a to e: how long it is, what stands in it, and in the list once the part has come back as ys
module _ {A : Type 0} (d : A) (xs : List A) (a e : ℕ) (h : a ≤ e) (l : e ≤ length xs) where
  pub length_between : length (take (e - a) (drop a xs)) ≡ e - a
  length_between = length-take-le (e - a) (drop a xs) (omega (arith, length-drop a xs))

  pub get_d_between : (k : ℕ) → k < e - a → get_or (take (e - a) (drop a xs)) k d ≡ get_or xs (a + k) d
  get_d_between k g = get_or-take (e - a) (drop a xs) k d g ∙ get_or-drop a xs k d

  module _ (ys : List A) where
    kept : length (take a xs) ≡ a
    kept = length-take-le a xs (omega arith)

    pub came_before : (k : ℕ) → k < a → get_or (take a xs ++ (ys ++ drop (e - a) (drop a xs))) k d ≡ get_or xs k d
    came_before k g = get_or-append (take a xs) _ d k (omega (arith, kept)) ∙ get_or-take a xs k d g

    pub came_inside : (k : ℕ) → a ≤ k → k < a + length ys → get_or (take a xs ++ (ys ++ drop (e - a) (drop a xs))) k d ≡ get_or ys (k - a) d
    came_inside k g i =
        let is : k ≡ length (take a xs) + (k - a) = omega (arith, kept) in
        ap (λ n. get_or (take a xs ++ (ys ++ drop (e - a) (drop a xs))) n d) is
        ∙ get_or-append-add (take a xs) (ys ++ drop (e - a) (drop a xs)) (k - a) d
        ∙ get_or-append ys _ d (k - a) (omega arith)

    module _ (many : length ys ≡ e - a) where
      pub length_came : length (take a xs ++ (ys ++ drop (e - a) (drop a xs))) ≡ length xs
      length_came =
          omega (
            arith,
            kept,
            length-append (take a xs) (ys ++ drop (e - a) (drop a xs)),
            length-append ys (drop (e - a) (drop a xs)),
            length-drop (e - a) (drop a xs),
            length-drop a xs,
          )

      pub came_after : (k : ℕ) → e ≤ k → get_or (take a xs ++ (ys ++ drop (e - a) (drop a xs))) k d ≡ get_or xs k d
      came_after k g =
          let is : k ≡ length (take a xs) + (length ys + (k - e)) = omega (arith, kept) in
          let back : a + ((e - a) + (k - e)) ≡ k = omega arith in
          ap (λ n. get_or (take a xs ++ (ys ++ drop (e - a) (drop a xs))) n d) is
          ∙ get_or-append-add (take a xs) (ys ++ drop (e - a) (drop a xs)) (length ys + (k - e)) d
          ∙ get_or-append-add ys (drop (e - a) (drop a xs)) (k - e) d
          ∙ get_or-drop (e - a) (drop a xs) (k - e) d
          ∙ get_or-drop a xs ((e - a) + (k - e)) d
          ∙ ap (λ n. get_or xs n d) back

-- parts of two lists from a to e are as long as each other
pub alike : {A B : Type 0} (d : A) (xs : List A) (c : B) (ys : List B) (a e : ℕ) → a ≤ e → e ≤ length xs → e ≤ length ys
    → length (take (e - a) (drop a xs)) ≡ length (take (e - a) (drop a ys))
alike d xs c ys a e h l g = length_between d xs a e h l ∙ sym (length_between c ys a e h g)

-- a front of a slice was lent and came back as ys, and the rest was not lent
pub front_lent : {A : Type 0} (lent front : ℕ) → lent ≡ front → (ys old : List A) → length ys ≡ lent
    → ys ++ drop lent old ≡ take front (ys ++ drop lent old) ++ drop front old
front_lent lent front q ys old e =
    ap₂ ◌++◌ (sym (take_at ys (drop lent old) front (e ∙ q))) (ap (λ n. drop n old) q)

-- all of a list was copied over the front of another of its length
pub copied_whole : {A : Type 0} (xs old : List A) → length xs ≡ length old → take (length xs) xs ++ drop (length xs) old ≡ xs
copied_whole xs old e =
    ap₂ ◌++◌ (take_all (length xs) xs (le_refl (length xs))) (drop_of_length-le old {i = length xs} (omega arith)) ∙ append-nil xs

-- A slice of which a part in the middle, from a on, is rewritten as ys.
module _ {A : Type 0} (a : ℕ) (ys old : List A) (h : a + length ys ≤ length old) where
  unfoldable pub patched : List A
  patched = take a old ++ (ys ++ drop (a + length ys) old)

  front : length (take a old) ≡ a
  front = length-take-le a old (omega arith)

  pub length_patched : length patched ≡ length old
  unfolding patched
  length_patched =
      omega (
        arith,
        front,
        length-append (take a old) (ys ++ drop (a + length ys) old),
        length-append ys (drop (a + length ys) old),
        length-drop (a + length ys) old,
      )

  module _ (d : A) where
    -- what stands in the part, before it and after it
    pub patched_inside : (k : ℕ) → k < length ys → get_or patched (a + k) d ≡ get_or ys k d
    unfolding patched
    patched_inside k l =
        ap (λ n. get_or patched (n + k) d) (sym front)
        ∙ get_or-append-add (take a old) (ys ++ drop (a + length ys) old) k d
        ∙ get_or-append ys (drop (a + length ys) old) d k l

    pub patched_before : (k : ℕ) → k < a → get_or patched k d ≡ get_or old k d
    unfolding patched
    patched_before k l =
        get_or-append (take a old) (ys ++ drop (a + length ys) old) d k (omega (arith, front)) ∙ get_or-take a old k d l

    pub patched_after : (k : ℕ) → a + length ys ≤ k → get_or patched k d ≡ get_or old k d
    unfolding patched
    patched_after k l =
        let m = k - (a + length ys) in
        let e : k ≡ length (take a old) + (length ys + m) = omega (arith, front) in
        let g : a + length ys + m ≡ k = omega arith in
        ap (λ n. get_or patched n d) e
        ∙ get_or-append-add (take a old) (ys ++ drop (a + length ys) old) (length ys + m) d
        ∙ get_or-append-add ys (drop (a + length ys) old) m d
        ∙ get_or-drop (a + length ys) old m d
        ∙ ap (λ n. get_or old n d) g

-- A loop that gives each entry k of a slice the value f k.
module _ {A : Type 0} (f : ℕ → A) (old : List A) where
  -- a loop from the left that has written the entries below k
  abbrev pub Rightwards : ℕ → List A → Type 0
  Rightwards k l = Mixed k (tab (length old) f) old l

  -- a loop from the right that has written the entries from k on
  abbrev pub Leftwards : ℕ → List A → Type 0
  Leftwards k l = Mixed k old (tab (length old) f) l

  pub rightwards_none : Rightwards 0 old
  rightwards_none = mixed_none (tab (length old) f) old (length_tab (length old) f)

  pub rightwards_more : {k : ℕ} {l : List A} (v : A) → Rightwards k l → k < length old → v ≡ f k → Rightwards (k + 1) (set l k v)
  rightwards_more {k} {l} v m h e =
      subst (λ x. Mixed (k + 1) (tab (length old) f) old (set l k x)) (get_d_tab (length old) f k v h ∙ sym e) (mixed_up v m h)

  pub rightwards_all : {k : ℕ} {l : List A} → Rightwards k l → length old ≤ k → l ≡ tab (length old) f
  rightwards_all m h = mixed_all m h

  pub leftwards_none : Leftwards (length old) old
  leftwards_none =
      subst (λ n. Leftwards n old) (length_tab (length old) f)
      (mixed_whole old (tab (length old) f) (sym (length_tab (length old) f)))

  pub leftwards_more : (k : ℕ) {l : List A} (v : A) → Leftwards (k + 1) l → v ≡ f k → Leftwards k (set l k v)
  leftwards_more k {l} v m e =
      let h : k < length old = omega (arith, m.inside, length_tab (length old) f) in
      subst (λ x. Leftwards k (set l k x)) (get_d_tab (length old) f k v h ∙ sym e) (mixed_down v k m)

  pub leftwards_all : {k : ℕ} {l : List A} (d : A) → Leftwards k l → ((j : ℕ) → j < k → get_or old j d ≡ f j) → l ≡ tab (length old) f
  leftwards_all {k} d m e =
      mixed_rest d m
      (λ j h.
      let i : j < length old = omega (arith, m.inside, length_tab (length old) f) in
      e j h ∙ sym (get_d_tab (length old) f j d i))
