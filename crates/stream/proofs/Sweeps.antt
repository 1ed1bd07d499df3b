-- A sweep over the columns in blocks, and the two kinds of group: what a sweep leaves is the stages of the group, one after the other.
-- Assumes nothing.
use Rattle.std.proofs.Common.{◌≡◌, ℕ, suc, ◌+◌, ◌*◌, ◌%◌, ◌<◌, ◌≤◌, List, [], ◌∷◌, ◌++◌, length, get_or, take, drop, sym, refl, ap, ◌∙◌, subst, ap₂, inl, inr, ⊎_elim, append_assoc, append-nil, le_refl, suc-mul, mul-one, arith, length-append, length-drop, take-append-drop, drop_of_length-le, length-take-le, take_all, get_or-take, drop-drop, take_at, take-add, drop_at}
use Rattle.spec.specs.Words.{tab, total}
use Rattle.spec.specs.Stream.{box_cells, box_cost, cascade_cells}
use Rattle.laws.proofs.Lists.{length_tab, get_d_tab, total_append, total_more, total_scale}
use Rattle.stream.specs.Stages.{Worked, slot_before, column_slot, column_stage, stages}
use Rattle.stream.specs.declared.columns.Slot.{Slot}
use Rattle.stream.specs.Private.{pair_at, pairs_from, rings_from, slot_at, Apart, Slots, Rings, Kept, Acts}
use Rattle.stream.proofs.Rings.{slots_apart}
use Rattle.stream.proofs.Boxes.{cost_two, cost_wide, column_one}
use Rattle.stream.proofs.Groups.{Keeps, placed, stages_keep, turns, stages_agree}
use Rattle.stream.proofs.Acting.{acting, acting_within, pair_made, pair_kept, slot_made, slot_kept, pair_acts, slot_acts}
use Rattle.stream.proofs.Blocks.{block, cells_of, block_pair, block_slot, slot_fits, block_acts, block_whole, acts_keep, stages_none, stages_next}

-- A sweep: the columns below i are worked. f says what is done to the columns from a column on.
pub record Swept (f : ℕ → List ℕ → List ℕ → Worked) (row₀ own₀ : List ℕ) (i : ℕ) (row own : List ℕ) : Type 0 where
  pub row_is : row ≡ (f 0 (take i row₀) own₀).row ++ drop i row₀
  pub own_is : own ≡ (f 0 (take i row₀) own₀).cells

module _ (w cells : ℕ) (f : ℕ → List ℕ → List ℕ → Worked) (v : Acts w cells f) (row₀ own₀ : List ℕ) (wide : length row₀ ≡ w) (long : length own₀ ≡ cells) where
  -- the lengths of what is worked
  worked_keeps : (i : ℕ) → i ≤ w → Kept i cells (f 0 (take i row₀) own₀)
  worked_keeps i h =
      let n : length (take i row₀) ≡ i = length-take-le i row₀ (omega arith) in
      subst (λ k. Kept k cells (f 0 (take i row₀) own₀)) n (v.keeps 0 (take i row₀) own₀ (omega arith) long)

  pub swept_more : (i m : ℕ) (row own row₁ own₁ : List ℕ) → i + m ≤ w → Swept f row₀ own₀ i row own
      → row₁ ≡ take i row ++ ((f i (take m (drop i row)) own).row ++ drop (i + m) row)
      → own₁ ≡ (f i (take m (drop i row)) own).cells
      → Swept f row₀ own₀ (i + m) row₁ own₁
  swept_more i m row own row₁ own₁ h s p q =
      let x = take i row₀ in
      let y = take m (drop i row₀) in
      let a = f 0 x own₀ in
      let k = worked_keeps i (omega arith) in
      let n : length x ≡ i = length-take-le i row₀ (omega arith) in
      let m-is : length y ≡ m = length-take-le m (drop i row₀) (omega (arith, length-drop i row₀)) in
      let front : take i row ≡ a.row = ap (take i) s.row_is ∙ take_at a.row (drop i row₀) i k.row in
      let back : drop i row ≡ drop i row₀ = ap (drop i) s.row_is ∙ drop_at a.row (drop i row₀) i k.row in
      let end : drop (i + m) row ≡ drop (i + m) row₀ = sym (drop-drop m i row) ∙ ap (drop m) back ∙ drop-drop m i row₀ in
      let c = f i y a.cells in
      let here : f i (take m (drop i row)) own ≡ c = ap₂ (λ u v. f i (take m u) v) back s.own_is in
      let both : f 0 (take (i + m) row₀) own₀ ≡ record { row = a.row ++ c.row; cells = c.cells } =
      ap (λ l. f 0 l own₀) (take-add i m row₀)
      ∙ v.next x y own₀ (omega arith) long
      ∙ ap (λ j. record { row = a.row ++ (f j y a.cells).row; cells = (f j y a.cells).cells }) n in
      record {
        row_is =
            p
            ∙ ap₂ (λ u v. u ++ (v ++ drop (i + m) row)) front (ap (λ (o : Worked). o.row) here)
            ∙ ap (λ l. a.row ++ (c.row ++ l)) end
            ∙ sym (append_assoc a.row c.row (drop (i + m) row₀))
            ∙ ap (λ (o : Worked). o.row ++ drop (i + m) row₀) (sym both);
        own_is = q ∙ ap (λ (o : Worked). o.cells) here ∙ ap (λ (o : Worked). o.cells) (sym both);
      }

  pub swept_all : (i : ℕ) (row own : List ℕ) → w ≤ i → Swept f row₀ own₀ i row own
      → (row ≡ (f 0 row₀ own₀).row) × (own ≡ (f 0 row₀ own₀).cells)
  swept_all i row own h s =
      let e : take i row₀ ≡ row₀ = take_all i row₀ (omega arith) in
      let short : length row₀ ≤ i = omega arith in (
        s.row_is ∙ ap₂ (λ u v. (f 0 u own₀).row ++ v) e (drop_of_length-le row₀ short) ∙ append-nil (f 0 row₀ own₀).row,
        s.own_is ∙ ap (λ u. (f 0 u own₀).cells) e,
      )

-- some stages, one after the other, from a column on
stages_act : (w cells : ℕ) (size : ℕ → ℕ) (act : ℕ → ℕ → List ℕ → List ℕ → Worked) (acts : (n : ℕ) → Acts w (size n) (λ i. act i n)) (ns : List ℕ)
    → total size ns ≤ cells → (f : ℕ → List ℕ → List ℕ → Worked)
    → ((i : ℕ) (x own : List ℕ) → i + length x ≤ w → length own ≡ cells → f i x own ≡ stages size (act i) ns x own) → Acts w cells f
stages_act w cells size act acts ns room f are =
    record {
      keeps = keep;
      none = λ own e. are 0 [] own (omega arith) e ∙ stages_none w size act acts ns own (omega arith);
      next = next;
    }
  where
    keep : (i : ℕ) (x own : List ℕ) → i + length x ≤ w → length own ≡ cells → Kept (length x) cells (f i x own)
    keep i x own h e =
        subst (λ n. Kept (length x) n (f i x own)) e
        (subst (Kept (length x) (length own)) (sym (are i x own h e))
        (stages_keep size (act i) (length x) (acts_keep w size act acts i (length x) h) ns x own refl (omega arith)))

    next : (x y own : List ℕ) → length x + length y ≤ w → length own ≡ cells
        → f 0 (x ++ y) own ≡ record { row = (f 0 x own).row ++ (f (length x) y (f 0 x own).cells).row; cells = (f (length x) y (f 0 x own).cells).cells }
    next x y own h e =
        let kept = keep 0 x own (omega arith) e in
        are 0 (x ++ y) own (omega (arith, length-append x y)) e
        ∙ stages_next w size act acts ns x y own h (omega arith)
        ∙ ap (λ (o : Worked). record { row = o.row ++ (stages size (act (length x)) ns y o.cells).row; cells = (stages size (act (length x)) ns y o.cells).cells })
        (sym (are 0 x own (omega arith) e))
        ∙ ap (λ (o : Worked). record { row = (f 0 x own).row ++ o.row; cells = o.cells }) (sym (are (length x) y (f 0 x own).cells h kept.cells))

-- ---- the groups

-- a stage on its own part of the cells, as one on all cells
placed_acting : (made kept : ℕ → ℕ → ℕ → ℕ) (size : ℕ → ℕ) (stage : ℕ → List ℕ → List ℕ → Worked) (t n b o : ℕ) (x cells : List ℕ)
    → ((own : List ℕ) → stage n x own ≡ acting made kept b o x own) → t + size n ≤ length cells → b + length x ≤ size n → o + length x ≤ size n
    → acting made kept (t + b) (t + o) x cells ≡ placed size stage t n x cells
unfolding placed
placed_acting made kept size stage t n b o x cells same h p q =
    acting_within made kept t (size n) b o x cells h p q
    ∙ ap (λ (u : Worked). record { row = u.row; cells = take t cells ++ (u.cells ++ drop (size n) (drop t cells)) }) (sym (same (take (size n) (drop t cells))))

-- the part of a width of some lies inside their cells
part_inside : (size : ℕ → ℕ) (ns : List ℕ) (s : ℕ) → s < length ns → total size (take s ns) + size (get_or ns s 0) ≤ total size ns
part_inside size ns s h =
    omega (arith, total_more size ns s h, ap (total size) (take-append-drop (s + 1) ns), total_append size (take (s + 1) ns) (drop (s + 1) ns))

-- a total of equal terms
total_same : (f : ℕ → ℕ) (v : ℕ) (ns : List ℕ) → ((s : ℕ) → s < length ns → f (get_or ns s 0) ≡ v) → total f ns ≡ length ns * v
unfolding total
total_same f v [] h = omega arith
total_same f v (n ∷ ns) h =
    omega (arith, h 0 (omega arith), total_same f v ns (λ s l. h (suc s) (omega arith)), suc-mul (length ns) v)

-- Widths of 2.
module _ (e w : ℕ) (ns : List ℕ) (two : (s : ℕ) → s < length ns → get_or ns s 0 ≡ 2) where
  total_twos : (s : ℕ) → s ≤ length ns → total (cells_of w) (take s ns) ≡ s * w
  unfolding box_cells
  total_twos s h =
      let n : length (take s ns) ≡ s = length-take-le s ns h in
      total_same (cells_of w) w (take s ns)
      (λ t l. ap (cells_of w) (get_or-take s ns t 0 (omega arith) ∙ two t (omega arith)) ∙ mul-one w)
      ∙ ap (λ k. k * w) n

  pub pairs_room : total (cells_of w) ns ≡ length ns * w
  pairs_room = ap (total (cells_of w)) (sym (take_all (length ns) ns (le_refl (length ns)))) ∙ total_twos (length ns) (le_refl (length ns))

  pub pairs_are : (k : ℕ) → length ns ≡ k → (i : ℕ) (x own : List ℕ) → i + length x ≤ w → length own ≡ k * w
      → pairs_from i w k x own ≡ stages (cells_of w) (block e w i) ns x own
  unfolding pairs_from box_cells
  pairs_are k c i x own h g =
      let room : total (cells_of w) ns ≤ length own = omega (arith, pairs_room, ap (λ j. j * w) c) in
      turns (cells_of w) (block e w i) (length x) (acts_keep w (cells_of w) (block e w) (block_acts e w) i (length x) h) (λ s. pair_at (s * w + i)) ns x own refl room
      (λ s l y cells m d.
      let n = get_or ns s 0 in
      let t = total (cells_of w) (take s ns) in
      let size : cells_of w n ≡ w = ap (cells_of w) (two s l) ∙ pair_size in
      let inside : t + cells_of w n ≤ length cells = omega (arith, part_inside (cells_of w) ns s l) in
      ap (λ a. pair_at (a + i) y cells) (sym (total_twos s (omega arith)))
      ∙ pair_acts (t + i) y cells
      ∙ placed_acting pair_made pair_kept (cells_of w) (block e w i) t n i i y cells
      (λ own. block_pair e w i n y own (two s l) ∙ pair_acts i y own) inside (omega arith) (omega arith))
      k c
    where
      pair_size : cells_of w 2 ≡ w
      pair_size = mul-one w

-- Wider ones, by their slots.
module _ (w k cells : ℕ) (slots : List Slot) (g : Rings w k cells slots) where
  pub rings_are : (i : ℕ) (x own : List ℕ) → i + length x ≤ w → length own ≡ cells
      → rings_from i slots k x own ≡ stages (cells_of w) (block g.emitted w i) g.widths x own
  unfolding rings_from
  rings_are i x own h d =
      let e = g.emitted in
      let ns = g.widths in
      let room : total (cells_of w) ns ≤ length own = omega (arith, g.room) in
      turns (cells_of w) (block e w i) (length x) (acts_keep w (cells_of w) (block e w) (block_acts e w) i (length x) h)
      (λ s. column_slot ((slot_at slots s).before + i) ((slot_at slots s).oldest + i)) ns x own refl room
      (λ s l y all m long.
      let n = get_or ns s 0 in
      let b = slot_before n e * w in
      let o = e % n * w in
      let t = total (cells_of w) (take s ns) in
      let wide = g.slots.wide s l in
      let inside : t + cells_of w n ≤ length all = omega (arith, part_inside (cells_of w) ns s l) in
      let p : (slot_at slots s).before + i ≡ t + (b + i) = omega (arith, g.slots.before s l) in
      let q : (slot_at slots s).oldest + i ≡ t + (o + i) = omega (arith, g.slots.oldest s l) in
      let fits = slot_fits e w n wide in
      ap₂ (λ u v. column_slot u v y all) p q
      ∙ slot_acts (t + (b + i)) (t + (o + i)) y all
      ∙ placed_acting slot_made slot_kept (cells_of w) (block e w i) t n (b + i) (o + i) y all
      (λ own. block_slot e w i n y own wide ∙ slot_acts (b + i) (o + i) y own) inside (omega (arith, fits.0)) (omega (arith, fits.1)))
      k g.counted

  -- the slots of each lie inside the cells, apart
  pub slots_inside : (s : ℕ) → s < k → Apart ((slot_at slots s).before) ((slot_at slots s).oldest) w cells
  slots_inside s h =
      let l : s < length g.widths = omega (arith, g.counted) in
      let e = g.emitted in
      let ns = g.widths in
      let n = get_or ns s 0 in
      let wide = g.slots.wide s l in
      let fits = slot_fits e w n wide in
      let more = part_inside (cells_of w) ns s l in
      record {
        before_inside = omega (arith, g.slots.before s l, fits.0, more, g.room);
        oldest_inside = omega (arith, g.slots.oldest s l, fits.1, more, g.room);
        apart =
            ⊎_elim
            (λ u. inl (omega (arith, g.slots.before s l, g.slots.oldest s l)))
            (λ u. inr (omega (arith, g.slots.before s l, g.slots.oldest s l)))
            (slots_apart n e w (omega arith));
      }

  -- so do those for some of the columns
  pub slots_on : (i m s : ℕ) → i + m ≤ w → s < k → Apart ((slot_at slots s).before + i) ((slot_at slots s).oldest + i) m cells
  slots_on i m s h l =
      let all = slots_inside s l in
      record {
        before_inside = omega (arith, all.before_inside);
        oldest_inside = omega (arith, all.oldest_inside);
        apart = ⊎_elim (λ u. inl (omega arith)) (λ u. inr (omega arith)) all.apart;
      }

pub pairs_act : (w k cells : ℕ) → cells ≡ k * w → Acts w cells (λ i. pairs_from i w k)
pairs_act w k cells d =
    let each : ℕ → ℕ = λ s. 2 in
    let ns = tab k each in
    let c : length ns ≡ k = length_tab k each in
    let two : (s : ℕ) → s < length ns → get_or ns s 0 ≡ 2 = λ s h. get_d_tab k each s 0 (omega arith) in
    stages_act w cells (cells_of w) (block 0 w) (block_acts 0 w) ns (omega (arith, pairs_room 0 w ns two, ap (λ j. j * w) c)) (λ i. pairs_from i w k)
    (λ i x own h e. pairs_are 0 w ns two k c i x own h (e ∙ d))

pub rings_act : (w k cells : ℕ) (slots : List Slot) → Rings w k cells slots → Acts w cells (λ i. rings_from i slots k)
rings_act w k cells slots g =
    stages_act w cells (cells_of w) (block g.emitted w) (block_acts g.emitted w) g.widths (omega (arith, g.room)) (λ i. rings_from i slots k)
    (rings_are w k cells slots g)

-- ---- the groups as stages of specs/Stages.antt

module _ (e w : ℕ) where
  -- on all columns
  pub blocks_whole : (ns row own : List ℕ) → length row ≡ w → total (cells_of w) ns ≤ length own
      → stages (cells_of w) (block e w 0) ns row own ≡ stages (cells_of w) (column_stage e) ns row own
  blocks_whole ns row own wide room =
      stages_agree (cells_of w) (block e w 0) (column_stage e) w (acts_keep w (cells_of w) (block e w) (block_acts e w) 0 w (omega arith))
      (block_whole e w) ns row own wide room

  pub columns_keep : Keeps (cells_of w) (column_stage e) w
  columns_keep n row own wide size =
      subst (Kept w (cells_of w n)) (block_whole e w n row own wide size)
      (acts_keep w (cells_of w) (block e w) (block_acts e w) 0 w (omega arith) n row own wide size)

  -- a width below 2
  pub column_idle : (n : ℕ) (row own : List ℕ) → n < 2 → stages (cells_of w) (column_stage e) (n ∷ []) row own ≡ record { row = row; cells = own }
  unfolding stages
  column_idle n row own h =
      ap (λ (o : Worked). record { row = o.row; cells = o.cells ++ drop (cells_of w n) own }) (column_one n row (take (cells_of w n) own) e h)
      ∙ ap (λ l. record { row = row; cells = l }) (take-append-drop (cells_of w n) own)

  -- widths of 2
  module _ (ns : List ℕ) (k : ℕ) (counted : length ns ≡ k) where
    pub column_pairs : ((s : ℕ) → s < length ns → get_or ns s 0 ≡ 2) → (row own : List ℕ) → length row ≡ w → length own ≡ k * w
        → (pairs_from 0 w k row own ≡ stages (cells_of w) (column_stage e) ns row own) × (total box_cost ns ≡ k)
    column_pairs two row own wide size = (
      pairs_are e w ns two k counted 0 row own (omega arith) size
          ∙ blocks_whole ns row own wide (omega (arith, pairs_room e w ns two, ap (λ j. j * w) counted)),
      total_same box_cost 1 ns (λ s l. cost_two (get_or ns s 0) (two s l)) ∙ mul-one (length ns) ∙ counted,
    )

    -- wider ones
    pub column_rings : (slots : List Slot) (row own : List ℕ) → Slots w e ns slots → length row ≡ w → total (cells_of w) ns ≡ length own
        → rings_from 0 slots k row own ≡ stages (cells_of w) (column_stage e) ns row own
    column_rings slots row own g wide room =
        rings_are w k (length own) slots (record { widths = ns; emitted = e; counted = counted; room = room; slots = g }) 0 row own (omega arith) refl
        ∙ blocks_whole ns row own wide (omega arith)

-- what wider ones cost
pub rings_cost : (ns : List ℕ) → ((s : ℕ) → s < length ns → 2 < get_or ns s 0) → total box_cost ns ≡ length ns * 2
rings_cost ns wide = total_same box_cost 2 ns (λ s l. cost_wide (get_or ns s 0) (wide s l))

-- the cells of a group
pub group_size : (w : ℕ) (ns : List ℕ) → total (cells_of w) ns ≡ w * cascade_cells ns
unfolding cascade_cells
group_size w ns = total_scale box_cells w ns

pub pairs_size : (w : ℕ) (ns : List ℕ) → ((s : ℕ) → s < length ns → get_or ns s 0 ≡ 2) → w * cascade_cells ns ≡ length ns * w
pairs_size w ns two = sym (group_size w ns) ∙ pairs_room 0 w ns two
