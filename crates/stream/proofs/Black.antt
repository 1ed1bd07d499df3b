-- A row that ends in black places, as many as the reach of the row list: what the row list makes of it, and what it leaves in its cells.
-- Assumes nothing.
use Rattle.std.proofs.Common.{◌≡◌, ℕ, suc, ◌+◌, ◌-◌, ◌*◌, ◌%◌, ◌^◌, ◌<◌, ◌≤◌, ◌⊎◌, List, [], ◌∷◌, ◌++◌, length, get_or, take, drop, replicate, sym, refl, ap, ◌∙◌, ap₂, inl, inr, ⊎_elim, arith, length-drop, length-take-le, le-ltb, lt-ltb, ne_eqb}
use native.Mathlib.Decide.{dec_lt}
use lib.ListN.{get_or-eq_default}
use Rattle.spec.specs.Words.{sum, tab, total}
use Rattle.spec.specs.Recipe.{box_order, order, weight}
use Rattle.spec.specs.Stream.{box_cells, cascade_cells}
use Rattle.laws.proofs.Sums.{sum_agree, sum_front}
use Rattle.laws.proofs.Lists.{length_tab, get_d_tab, tab_agree, tab_replicate, first_pos, rest_pos}
use Rattle.laws.proofs.Sequences.{boxed, boxed_whole}
use Rattle.laws.proofs.Kernels.{at, holds_tab}
use Rattle.laws.proofs.Cascades.{spread, cascaded, spread_one, spread_black}
use Rattle.stream.specs.Stages.{Worked, covered, row_stage, stages}
use Rattle.stream.specs.Private.{box_kept, kept}
use Rattle.stream.proofs.Wrapping.{times_modulo}
use Rattle.stream.proofs.Rings.{covered_most, covered_least}
use Rattle.stream.proofs.Boxes.{ring, row_one, row_two, row_wide}
use Rattle.stream.proofs.Following.{Follows, widths_are, row_follows, rows_follow, sum_modulo}

-- ---- the cells that are left, by the total of the row

-- by the width of a box
module _ (n : ℕ) where
  kept_one : n < 2 → (t : ℕ) → box_kept n t ≡ []
  unfolding box_kept
  kept_one h t = rw (lt-ltb n 2 h) refl

  kept_two : n ≡ 2 → (t : ℕ) → box_kept n t ≡ 0 ∷ []
  unfolding box_kept
  kept_two e t = rw e refl

  kept_wide : 2 < n → (t : ℕ) → box_kept n t ≡ replicate n (t % 2 ^ 64)
  unfolding box_kept
  kept_wide h t = rw (le-ltb n 2 (omega arith), ne_eqb n 2 (λ e. omega arith)) refl

  -- the total counts modulo 2^64, and not at all where the box is not wide
  box_agree : (t u : ℕ) → (2 < n → t % 2 ^ 64 ≡ u % 2 ^ 64) → box_kept n t ≡ box_kept n u
  box_agree t u e =
      ⊎_elim (λ h. kept_one h t ∙ sym (kept_one h u))
      (⊎_elim (λ d. kept_two d t ∙ sym (kept_two d u)) (λ h. kept_wide h t ∙ ap (replicate n) (e h) ∙ sym (kept_wide h u)))
      (widths_are n)

-- the total counts modulo 2^64, and not at all where no box is wide
pub kept_modulo : (ns : List ℕ) (t u : ℕ) → t % 2 ^ 64 ≡ u % 2 ^ 64 → kept ns t ≡ kept ns u
unfolding kept
kept_modulo [] t u e = refl
kept_modulo (n ∷ ns) t u e = ap₂ ◌++◌ (box_agree n t u (λ h. e)) (kept_modulo ns (n * t) (n * u) (times_modulo n t u e))

pub kept_narrow : (ns : List ℕ) (t u : ℕ) → ((i : ℕ) → i < length ns → get_or ns i 0 ≤ 2) → kept ns t ≡ kept ns u
unfolding kept
kept_narrow [] t u h = refl
kept_narrow (n ∷ ns) t u h =
    let two : n ≤ 2 = h 0 (omega arith) in
    ap₂ ◌++◌ (box_agree n t u (λ l. absurd (omega arith))) (kept_narrow ns (n * t) (n * u) (λ i l. h (suc i) (omega arith)))

-- ---- one stage

-- no cells
none : (xs : List ℕ) → length xs ≡ 0 → xs ≡ []
none [] e = refl
none (x ∷ xs) e = absurd (omega arith)

-- the last r of w values are 0
abbrev Black : ℕ → ℕ → (ℕ → ℕ) → Type 0
Black w r g = (k : ℕ) → k < w → w ≤ k + r → g k ≡ 0

module _ (w : ℕ) (g : ℕ → ℕ) (row : List ℕ) (f : Follows w g row) where
  -- a running total that stops in the black places, or after them
  total_black : (c r : ℕ) → c ≤ w → w ≤ c + r → Black w r g → sum c (at row) % 2 ^ 64 ≡ sum w g % 2 ^ 64
  total_black c r h l b =
      ap (λ x. x % 2 ^ 64) (sum_agree (at row) (λ k. g k % 2 ^ 64) c (λ k i. f.values k (omega arith)))
      ∙ sum_modulo g c
      ∙ ap (λ x. x % 2 ^ 64) (sym (sum_front g c w h (λ k i u. b k u (omega arith))))

  -- the last value
  last_black : (r : ℕ) → 0 < r → Black w r g → get_or row (length row - 1) 0 ≡ 0
  unfolding at
  last_black r pos b =
      elim (dec_lt 0 w) [
        | yes h ↦
            let e : length row - 1 ≡ w - 1 = omega (arith, f.wide) in
            ap (λ k. get_or row k 0) e
            ∙ f.values (w - 1) (omega arith)
            ∙ ap (λ x. x % 2 ^ 64) (b (w - 1) (omega arith) (omega arith))
        | no h ↦ get_or-eq_default row 0 (omega (arith, f.wide))
      ]

  -- what the stage of one width leaves
  stage_kept : (n : ℕ) (own : List ℕ) → length own ≡ box_cells n → Black w (box_order n) g → (row_stage n row own).cells ≡ box_kept n (sum w g)
  unfolding box_order box_cells ring
  stage_kept n own s b = go (widths_are n)
    where
      go : (n < 2) ⊎ ((n ≡ 2) ⊎ (2 < n)) → (row_stage n row own).cells ≡ box_kept n (sum w g)
      go (inl h) =
          let e = rw (lt-ltb n 2 h) at s in
          ap (λ (x : Worked). x.cells) (row_one n row own h) ∙ none own e ∙ sym (kept_one n h (sum w g))
      go (inr (inl u)) =
          ap (λ (x : Worked). x.cells) (row_two n row own u)
          ∙ ap (λ x. x ∷ []) (last_black (n - 1) (omega arith) b)
          ∙ sym (kept_two n u (sum w g))
      go (inr (inr h)) =
          ap (λ (x : Worked). x.cells) (row_wide n row own h)
          ∙ tab_agree n (λ p. sum (covered n (length row) p) (at row) % 2 ^ 64) (λ p. sum w g % 2 ^ 64)
          (λ p l.
          total_black (covered n (length row) p) (n - 1) (omega (arith, covered_most n (omega arith) (length row) p l, f.wide))
          (omega (arith, covered_least n (omega arith) (length row) p l, f.wide)) b)
          ∙ tab_replicate n (sum w g % 2 ^ 64)
          ∙ sym (kept_wide n h (sum w g))

-- ---- the row list

-- what all its stages leave, from the total of the values
rows_kept : (w : ℕ) (ns : List ℕ) (g : ℕ → ℕ) (row own : List ℕ) → 0 < weight ns → length own ≡ cascade_cells ns → Follows w g row
    → Black w (order ns) g → (stages box_cells row_stage ns row own).cells ≡ kept ns (sum w g)
unfolding stages cascade_cells total order box_order weight kept
rows_kept w [] g row own p s f b = none own s
rows_kept w (n ∷ ns) g row own p s f b =
    let mine = take (box_cells n) own in
    let size : length mine ≡ box_cells n = length-take-le (box_cells n) own (omega arith) in
    let grown : sum w (spread 1 n g) ≡ n * sum w g =
    sum_agree (spread 1 n g) (boxed n g) w (λ k h. spread_one n g k) ∙ boxed_whole g n w (λ k h l. b k h (omega arith)) in
    ap₂ ◌++◌ (stage_kept w g row f n mine size (λ k h l. b k h (omega arith)))
    (rows_kept w ns (spread 1 n g) (row_stage n row mine).row (drop (box_cells n) own) (rest_pos n ns p)
    (omega (arith, length-drop (box_cells n) own))
    (row_follows w n (first_pos n ns p) g row mine f)
    (λ k h l. spread_black n g k (λ j i m. b j (omega arith) (omega arith)))
    ∙ ap (kept ns) grown)

-- the pixels of a row, and black places after them
module _ (w : ℕ) (ns pixels own : List ℕ) (pos : 0 < weight ns) (size : length own ≡ cascade_cells ns)
    (small : (k : ℕ) → k < length pixels → get_or pixels k 0 < 2 ^ 64) where
  -- all stages of the row list on them
  abbrev made : Worked
  made = stages box_cells row_stage ns (tab w (λ k. get_or pixels k 0)) own

  entered : Follows w (at pixels) (tab w (λ k. get_or pixels k 0))
  unfolding at
  entered =
      record {
        wide = length_tab w (λ k. get_or pixels k 0);
        values =
            λ k h.
            get_d_tab w (λ k. get_or pixels k 0) k 0 h
            ∙ elim (dec_lt k (length pixels)) [
              | yes l ↦ omega (arith, small k l)
              | no l ↦
                  let e : get_or pixels k 0 ≡ 0 = get_or-eq_default pixels 0 (omega arith) in
                  omega arith
            ];
      }

  pub row_made : made.row ≡ tab w (λ k. cascaded 1 ns (at pixels) k % 2 ^ 64)
  unfolding cascade_cells
  row_made =
      let out = (rows_follow w ns (at pixels) (tab w (λ k. get_or pixels k 0)) own pos size entered).0 in
      holds_tab (λ k. cascaded 1 ns (at pixels) k % 2 ^ 64) made.row (λ k h. out.values k (omega (arith, out.wide)))
      ∙ ap (λ m. tab m (λ k. cascaded 1 ns (at pixels) k % 2 ^ 64)) out.wide

  pub row_kept : length pixels + order ns ≤ w → made.cells ≡ kept ns (sum w (at pixels))
  unfolding at
  row_kept fits =
      rows_kept w ns (at pixels) (tab w (λ k. get_or pixels k 0)) own pos size entered
      (λ k h l. get_or-eq_default pixels 0 (omega arith))
