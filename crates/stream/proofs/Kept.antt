-- A loop over the widths of a row list that writes what each box keeps of a row that ends in black places: what is left to be written,
-- behind what is written, is what the whole list keeps.
-- Assumes nothing.
use Rattle.std.proofs.Common.{◌≡◌, ℕ, zero, suc, ◌+◌, ◌-◌, ◌*◌, ◌%◌, ◌^◌, ◌<◌, ◌≤◌, cond, eqb, ltb, ◌⊎◌, List, [], ◌∷◌, ◌++◌, length, get_or, take, drop, replicate, sym, refl, ap, ◌∙◌, ap₂, inl, inr, append_assoc, le_trans, le_of_eq, lt_of_le_of_lt, mod-eq_of_lt, mul_assoc, mul_comm, mul-zero, mul-add, le-mul_of_pos_right, add-one, arith, length-append, length-drop, take-append-drop, drop_of_length-le, length-take-le, drop-drop, drop-cons, take_at, drop_at, le-ltb, lt-ltb, eq-eqb, ne_eqb}
use lib.ListN.{length-replicate}
use Rattle.spec.specs.Words.{total, product}
use Rattle.spec.specs.Recipe.{weight}
use Rattle.spec.specs.Stream.{box_cells, box_cost, cascade_cells, cascade_cost}
use Rattle.laws.proofs.Lists.{rest_pos}
use Rattle.stream.specs.Private.{box_kept, kept}
use Rattle.stream.proofs.Following.{widths_are}
use Rattle.stream.proofs.Boxes.{cascade_small}

-- the cells of one box, all the same
pub box_kept_lem : (n t v : ℕ) → t < 2 ^ 64 → v ≡ cond (eqb n 2) 0 t → box_kept n t ≡ replicate (box_cells n) v
unfolding box_kept box_cells
box_kept_lem n t v small e = go (widths_are n)
  where
    go : (n < 2) ⊎ ((n ≡ 2) ⊎ (2 < n))
        → cond (ltb n 2) [] (cond (eqb n 2) (0 ∷ []) (replicate n (t % 2 ^ 64))) ≡ replicate (cond (ltb n 2) 0 (cond (eqb n 2) 1 n)) v
    go (inl h) = rw (lt-ltb n 2 h) refl
    go (inr (inl h)) =
        let z : v ≡ 0 = e ∙ ap (λ b. cond b 0 t) (eq-eqb n 2 h) in
        rw (le-ltb n 2 (omega arith), eq-eqb n 2 h) (ap (λ x. x ∷ []) (sym z))
    go (inr (inr h)) =
        let z : v ≡ t = e ∙ ap (λ b. cond b 0 t) (ne_eqb n 2 (λ d. omega arith)) in
        rw (le-ltb n 2 (omega arith), ne_eqb n 2 (λ d. omega arith)) (ap (replicate n) (mod-eq_of_lt small ∙ sym z))

-- no width of 0 is left
pub left_pos : (i : ℕ) (ws : List ℕ) → 0 < weight ws → 0 < weight (drop i ws)
unfolding weight
left_pos zero ws h = h
left_pos (suc i) [] h = h
left_pos (suc i) (n ∷ ws) h = left_pos i ws (rest_pos n ws h)

module _ (ws : List ℕ) (width t : ℕ) (cells₀ : List ℕ) where
  pub record Keeping (i from sum entering : ℕ) (cells : List ℕ) : Type 0 where
    pub cells_are : kept ws t ++ drop (cascade_cells ws) cells₀ ≡ take from cells ++ (kept (drop i ws) entering ++ drop (cascade_cells (drop i ws)) (drop from cells))
    pub placed : from + cascade_cells (drop i ws) ≡ cascade_cells ws
    pub long : length cells ≡ length cells₀
    pub counted : sum + width * cascade_cost (drop i ws) ≡ width * cascade_cost ws
    pub weighed : entering * weight (drop i ws) ≡ t * weight ws

  module _ (i from sum entering : ℕ) (cells : List ℕ) (l : Keeping i from sum entering cells) (n : ℕ) (more : drop i ws ≡ n ∷ drop (suc i) ws) where
    -- its cells, its part of the count, and the total after it
    pub next_placed : from + box_cells n + cascade_cells (drop (suc i) ws) ≡ cascade_cells ws
    unfolding cascade_cells total
    next_placed = let r = rw more at l.placed in omega arith

    pub next_counted : sum + width * box_cost n + width * cascade_cost (drop (suc i) ws) ≡ width * cascade_cost ws
    unfolding cascade_cost total
    next_counted = let r = rw more at l.counted in omega (arith, mul-add width (box_cost n) (total box_cost (drop (suc i) ws)))

    pub next_weighed : entering * n * weight (drop (suc i) ws) ≡ t * weight ws
    unfolding weight product
    next_weighed = let r = rw more at l.weighed in mul_assoc entering n (product (drop (suc i) ws)) ∙ r

    pub keeping_more : (v to : ℕ) (part new : List ℕ) → to ≡ from + box_cells n → part ≡ take (to - from) (drop from cells) → cascade_cells ws ≤ length cells₀
        → new ≡ replicate (length part) v → v ≡ cond (eqb n 2) 0 entering → entering < 2 ^ 64 → (cost : ℕ) → cost ≡ box_cost n
        → Keeping (i + 1) to (sum + width * cost) (entering * n) (take from cells ++ (new ++ drop (to - from) (drop from cells)))
    unfolding kept cascade_cells total
    keeping_more v to part new p u room q e small cost f =
        let d : to - from ≡ box_cells n = omega arith in
        let k : drop (i + 1) ws ≡ drop (suc i) ws = ap (λ k. drop k ws) (add-one i) in
        let next = next_placed in
        let front : length (take from cells) ≡ from = length-take-le from cells (omega (arith, l.long)) in
        let partly : length part ≡ box_cells n = ap length u ∙ length-take-le (to - from) (drop from cells) (omega (arith, length-drop from cells, l.long)) ∙ d in
        let back = drop (to - from) (drop from cells) in
        let made : new ≡ box_kept n entering = q ∙ ap (λ m. replicate m v) partly ∙ sym (box_kept_lem n entering v small e) in
        let size : length new ≡ box_cells n = ap length q ∙ length-replicate (length part) v ∙ partly in
        let first : length (take from cells ++ new) ≡ to = omega (arith, length-append (take from cells) new) in
        let cells2 = take from cells ++ (new ++ back) in
        let all : cells2 ≡ (take from cells ++ new) ++ back = sym (append_assoc (take from cells) new back) in
        let took : take to cells2 ≡ take from cells ++ new = ap (take to) all ∙ take_at (take from cells ++ new) back to first in
        let left : drop to cells2 ≡ back = ap (drop to) all ∙ drop_at (take from cells ++ new) back to first in
        let rest = drop (suc i) ws in
        let after = kept rest (n * entering) ++ drop (cascade_cells rest) back in
        let beyond : drop (box_cells n + cascade_cells rest) (drop from cells) ≡ drop (cascade_cells rest) back =
        sym (drop-drop (cascade_cells rest) (box_cells n) (drop from cells)) ∙ ap (λ k. drop (cascade_cells rest) (drop k (drop from cells))) (sym d) in
        record {
          cells_are =
              l.cells_are
              ∙ ap (λ x. take from cells ++ (kept x entering ++ drop (cascade_cells x) (drop from cells))) more
              ∙ ap (λ x. take from cells ++ x) (append_assoc (box_kept n entering) (kept rest (n * entering)) (drop (box_cells n + cascade_cells rest) (drop from cells)))
              ∙ ap₂ (λ x y. take from cells ++ (x ++ (kept rest (n * entering) ++ y))) (sym made) beyond
              ∙ sym (append_assoc (take from cells) new after)
              ∙ ap₂ (λ x y. x ++ (kept rest y ++ drop (cascade_cells rest) back)) (sym took) (mul_comm n entering)
              ∙ ap₂ (λ x y. take to cells2 ++ (kept x (entering * n) ++ drop (cascade_cells x) y)) (sym k) (sym left);
          placed = omega (arith, next, ap cascade_cells k);
          long = omega (arith, ap length all, length-append (take from cells ++ new) back, length-drop (to - from) (drop from cells), length-drop from cells, l.long);
          counted = omega (arith, next_counted, ap (λ x. width * cascade_cost x) k, ap (λ x. width * x) f);
          weighed = ap (λ x. entering * n * weight x) k ∙ next_weighed;
        }

  -- a total that came to a box is no larger than that after all of them
  pub keeping_small : (i from sum entering : ℕ) (cells : List ℕ) → Keeping i from sum entering cells → 0 < weight (drop i ws) → entering ≤ t * weight ws
  keeping_small i from sum entering cells l pos = le_trans (le-mul_of_pos_right entering pos) (le_of_eq l.weighed)

  pub keeping_all : (i from sum entering : ℕ) (cells : List ℕ) → Keeping i from sum entering cells → length ws ≤ i
      → (sum ≡ width * cascade_cost ws) × (from ≡ cascade_cells ws) × (cells ≡ kept ws t ++ drop (cascade_cells ws) cells₀)
  unfolding kept cascade_cells cascade_cost total
  keeping_all i from sum entering cells l h =
      let e : drop i ws ≡ [] = drop_of_length-le ws h in
      let a = rw e at l.cells_are in
      let b = rw e at l.placed in
      let c = rw e at l.counted in
      (omega (arith, mul-zero width), omega arith, sym (a ∙ take-append-drop from cells))

-- The next box of a list that is not too long, on a row that is not too wide: its cells are there, and the count and the totals stay small.
module _ (ws : List ℕ) (width t : ℕ) (cells₀ : List ℕ) (short : length ws ≤ 48) (narrow : width ≤ 1279) (room : cascade_cells ws ≤ length cells₀)
    (pos : 0 < weight ws) (light : t * weight ws < 2 ^ 64)
    (i from sum entering : ℕ) (cells : List ℕ) (l : Keeping ws width t cells₀ i from sum entering cells) (inside : i < length ws) where
  abbrev width_here : ℕ
  width_here = get_or ws i 0

  pub more : drop i ws ≡ width_here ∷ drop (suc i) ws
  more = drop-cons ws i 0 inside

  pub next_inside : from + box_cells width_here ≤ length cells
  next_inside = omega (arith, next_placed ws width t cells₀ i from sum entering cells l width_here more, l.long)

  pub next_few : sum + width * box_cost width_here ≤ 1279 * 96
  unfolding cascade_cost
  next_few =
      le_trans (omega (arith, next_counted ws width t cells₀ i from sum entering cells l width_here more)) (cascade_small ws width short narrow)

  pub enters_small : entering < 2 ^ 64
  enters_small = lt_of_le_of_lt (keeping_small ws width t cells₀ i from sum entering cells l (left_pos i ws pos)) light

  pub next_small : entering * width_here < 2 ^ 64
  next_small =
      lt_of_le_of_lt
      (le_trans (le-mul_of_pos_right (entering * width_here) (left_pos (suc i) ws pos)) (le_of_eq (next_weighed ws width t cells₀ i from sum entering cells l width_here more)))
      light
