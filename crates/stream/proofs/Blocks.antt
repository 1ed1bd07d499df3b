-- The stages down the columns on a block of columns, and on those next to it: the stages of a group on both.
-- Assumes nothing.
use Rattle.std.proofs.Common.{◌≡◌, ℕ, ◌+◌, ◌*◌, ◌%◌, ◌<◌, ◌≤◌, cond, eqb, ltb, ◌⊎◌, List, [], ◌∷◌, ◌++◌, length, get_or, take, drop, sym, refl, ap, ◌∙◌, subst, ap₂, inl, inr, ⊎_elim, append-nil, le_refl, add-zero, mul_comm, mul-one, arith, length-drop, take-append-drop, drop_of_length-le, length-take-le, take_at, drop_at, le-ltb, lt-ltb, ne_eqb}
use mathlib.Core.Path.{fun_ext}
use native.Mathlib.Decide.{dec_lt}
use Rattle.spec.specs.Words.{total}
use Rattle.spec.specs.Stream.{box_cells}
use Rattle.laws.proofs.Lists.{tab_agree}
use Rattle.stream.specs.Stages.{Worked, plus, slot_before, column_pair, column_slot, column_stage, stages}
use Rattle.stream.specs.Private.{pair_at, Kept, Acts}
use Rattle.stream.proofs.Rings.{slot_inside, before_inside_lem, slots_apart}
use Rattle.stream.proofs.Boxes.{cells_wide, column_two, column_wide}
use Rattle.stream.proofs.Groups.{Keeps}
use Rattle.stream.proofs.Acting.{acting, acting_keeps, acting_append, acting_none, pair_made, pair_kept, slot_made, slot_kept, pair_acts, slot_acts}

-- ---- a stage on the columns from a column on

acts_idle : (w size : ℕ) → Acts w size (λ i x own. record { row = x; cells = own })
acts_idle w size =
    record {
      keeps = λ i x own h e. record { row = refl; cells = e };
      none = λ own e. refl;
      next = λ x y own h e. refl;
    }

acts_acting : (made kept : ℕ → ℕ → ℕ → ℕ) (w size b o : ℕ) → o + w ≤ size → (b + w ≤ o) ⊎ (o ≤ b)
    → Acts w size (λ i. acting made kept (b + i) (o + i))
acts_acting made kept w size b o h d =
    record {
      keeps = λ i x own l e. subst (λ n. Kept (length x) n (acting made kept (b + i) (o + i) x own)) e (acting_keeps made kept (b + i) (o + i) x own (omega arith));
      none = λ own e. acting_none made kept (b + 0) (o + 0) own;
      next =
          λ x y own l e.
          rw (add-zero b, add-zero o)
          (acting_append made kept b o x y own (omega arith) (⊎_elim (λ u. inl (omega arith)) (λ u. inr u) d));
    }

-- the stage of width n, at the row after e others, on the columns from i on
unfoldable pub block : ℕ → ℕ → ℕ → ℕ → List ℕ → List ℕ → Worked
block e w i n x own =
    cond (ltb n 2) (record { row = x; cells = own })
    (cond (eqb n 2) (pair_at i x own) (column_slot (slot_before n e * w + i) (e % n * w + i) x own))

abbrev pub cells_of : ℕ → ℕ → ℕ
cells_of w n = w * box_cells n

pub block_pair : (e w i n : ℕ) (x own : List ℕ) → n ≡ 2 → block e w i n x own ≡ pair_at i x own
unfolding block
block_pair e w i n x own h = rw h refl

pub block_slot : (e w i n : ℕ) (x own : List ℕ) → 2 < n
    → block e w i n x own ≡ column_slot (slot_before n e * w + i) (e % n * w + i) x own
unfolding block
block_slot e w i n x own h = rw (le-ltb n 2 (omega arith), ne_eqb n 2 (λ d. omega arith)) refl

-- the slots of a wider one lie inside its cells
pub slot_fits : (e w n : ℕ) → 2 < n → (slot_before n e * w + w ≤ cells_of w n) × (e % n * w + w ≤ cells_of w n)
slot_fits e w n h =
    let one : 1 < n = omega arith in
    let c : cells_of w n ≡ n * w = ap (λ k. w * k) (cells_wide n h) ∙ mul_comm w n in
    (omega (arith, before_inside_lem n e w one), omega (arith, slot_inside n e w one))

module _ (e w n : ℕ) where
  abbrev Whole : (ℕ → List ℕ → List ℕ → Worked) → Type 0
  Whole f = Acts w (cells_of w n) f

  same : {f g : ℕ → List ℕ → List ℕ → Worked} → ((i : ℕ) (x own : List ℕ) → f i x own ≡ g i x own) → Whole f → Whole g
  same h = subst Whole (fun_ext (λ i. fun_ext (λ x. fun_ext (λ own. h i x own))))

  acts_one : n < 2 → Whole (λ i. block e w i n)
  unfolding block
  acts_one h = same (λ i x own. sym (rw (lt-ltb n 2 h) refl)) (acts_idle w (cells_of w n))

  acts_two : n ≡ 2 → Whole (λ i. block e w i n)
  unfolding box_cells
  acts_two h =
      let z : (i : ℕ) → 0 + i ≡ i = λ i. omega arith in
      let size : cells_of w n ≡ w = ap (cells_of w) h ∙ mul-one w in
      same
      (λ i x own. ap (λ k. acting pair_made pair_kept k k x own) (z i) ∙ sym (block_pair e w i n x own h ∙ pair_acts i x own))
      (acts_acting pair_made pair_kept w (cells_of w n) 0 0 (omega arith) (inr (le_refl 0)))

  acts_wide : 2 < n → Whole (λ i. block e w i n)
  acts_wide h =
      same
      (λ i x own. sym (block_slot e w i n x own h ∙ slot_acts (slot_before n e * w + i) (e % n * w + i) x own))
      (acts_acting slot_made slot_kept w (cells_of w n) (slot_before n e * w) (e % n * w) (slot_fits e w n h).1
      (⊎_elim (λ u. inl u) (λ u. inr (omega arith)) (slots_apart n e w (omega arith))))

  pub block_acts : Acts w (cells_of w n) (λ i. block e w i n)
  block_acts =
      elim (dec_lt n 2) [
        | yes h ↦ acts_one h
        | no h ↦
            elim (dec_lt 2 n) [
              | yes g ↦ acts_wide g
              | no g ↦ acts_two (omega arith)
            ]
      ]

  -- on all columns it is the stage of specs/Stages.antt
  module _ (row own : List ℕ) (wide : length row ≡ w) (size : length own ≡ cells_of w n) where
    whole-one : n < 2 → block e w 0 n row own ≡ column_stage e n row own
    unfolding block column_stage
    whole-one h = rw (lt-ltb n 2 h) refl

    whole-two : n ≡ 2 → block e w 0 n row own ≡ column_stage e n row own
    unfolding column_pair pair_at box_cells
    whole-two h =
        let short : length own ≤ 0 + length row = omega (arith, ap (cells_of w) h, mul-one w) in
        let z : (j : ℕ) → 0 + j ≡ j = λ j. omega arith in
        block_pair e w 0 n row own h
        ∙ ap₂ (λ (r c : List ℕ). record { row = r; cells = c })
        (tab_agree (length row) (λ j. plus (get_or row j 0) (get_or own (0 + j) 0)) (λ j. plus (get_or row j 0) (get_or own j 0)) (λ j l. ap (λ k. plus (get_or row j 0) (get_or own k 0)) (z j)))
        (ap (λ l. row ++ l) (drop_of_length-le own short) ∙ append-nil row)
        ∙ sym (column_two n row own e h)

    whole_wide : 2 < n → block e w 0 n row own ≡ column_stage e n row own
    whole_wide h =
        block_slot e w 0 n row own h
        ∙ ap₂ (λ b o. column_slot b o row own)
        (add-zero (slot_before n e * w) ∙ ap (λ k. slot_before n e * k) (sym wide))
        (add-zero (e % n * w) ∙ ap (λ k. e % n * k) (sym wide))
        ∙ sym (column_wide n row own e h)

    pub block_whole : block e w 0 n row own ≡ column_stage e n row own
    block_whole =
        elim (dec_lt n 2) [
          | yes h ↦ whole-one h
          | no h ↦
              elim (dec_lt 2 n) [
                | yes g ↦ whole_wide g
                | no g ↦ whole-two (omega arith)
              ]
        ]

-- ---- stages on the columns from a column on

module _ (w : ℕ) (size : ℕ → ℕ) (act : ℕ → ℕ → List ℕ → List ℕ → Worked) (acts : (n : ℕ) → Acts w (size n) (λ i. act i n)) where
  pub acts_keep : (i m : ℕ) → i + m ≤ w → Keeps size (act i) m
  acts_keep i m h n row own e l = subst (λ k. Kept k (size n) (act i n row own)) e ((acts n).keeps i row own (omega arith) l)

  pub stages_none : (ns cells : List ℕ) → total size ns ≤ length cells → stages size (act 0) ns [] cells ≡ record { row = []; cells = cells }
  unfolding stages total
  stages_none [] cells t = refl
  stages_none (n ∷ ns) cells t =
      let own = take (size n) cells in
      let few : length own ≡ size n = length-take-le (size n) cells (omega arith) in
      let rest = drop (size n) cells in
      ap (λ (o : Worked). record { row = (stages size (act 0) ns o.row rest).row; cells = o.cells ++ (stages size (act 0) ns o.row rest).cells }) ((acts n).none own few)
      ∙ ap (λ (o : Worked). record { row = o.row; cells = own ++ o.cells }) (stages_none ns rest (omega (arith, length-drop (size n) cells)))
      ∙ ap (λ l. record { row = []; cells = l }) (take-append-drop (size n) cells)

  pub stages_next : (ns x y cells : List ℕ) → length x + length y ≤ w → total size ns ≤ length cells
      → stages size (act 0) ns (x ++ y) cells
      ≡ record {
        row = (stages size (act 0) ns x cells).row ++ (stages size (act (length x)) ns y (stages size (act 0) ns x cells).cells).row;
        cells = (stages size (act (length x)) ns y (stages size (act 0) ns x cells).cells).cells;
      }
  unfolding stages total
  stages_next [] x y cells h t = refl
  stages_next (n ∷ ns) x y cells h t =
      let own = take (size n) cells in
      let rest = drop (size n) cells in
      let few : length own ≡ size n = length-take-le (size n) cells (omega arith) in
      let a = act 0 n x own in
      let kept = (acts n).keeps 0 x own (omega arith) few in
      let c = act (length x) n y a.cells in
      let more = (acts n).keeps (length x) y a.cells h kept.cells in
      let b = stages size (act 0) ns a.row rest in
      let d = stages size (act (length x)) ns c.row b.cells in
      let so = stages_next ns a.row c.row rest (omega (arith, kept.row, more.row)) (omega (arith, length-drop (size n) cells)) in
      let first : take (size n) (a.cells ++ b.cells) ≡ a.cells = take_at a.cells b.cells (size n) kept.cells in
      let last : drop (size n) (a.cells ++ b.cells) ≡ b.cells = drop_at a.cells b.cells (size n) kept.cells in
      let then : List ℕ → List ℕ → Worked =
      λ p q.
      record {
        row = b.row ++ (stages size (act (length x)) ns (act (length x) n y p).row q).row;
        cells = (act (length x) n y p).cells ++ (stages size (act (length x)) ns (act (length x) n y p).row q).cells;
      } in
      ap (λ (o : Worked). record { row = (stages size (act 0) ns o.row rest).row; cells = o.cells ++ (stages size (act 0) ns o.row rest).cells }) ((acts n).next x y own h few)
      ∙ ap (λ (o : Worked). record { row = o.row; cells = c.cells ++ o.cells })
      (so ∙ ap (λ i. record { row = b.row ++ (stages size (act i) ns c.row b.cells).row; cells = (stages size (act i) ns c.row b.cells).cells }) kept.row)
      ∙ ap₂ then (sym first) (sym last)
