-- Words for the contracts of private functions; no exported contract uses them. The sizes of buffers. What a row that ends in black
-- places leaves in the cells of the row list. And stages of the column list that are worked together: their slots, and what they make
-- of some columns.
use Rattle.std.specs.Prelude.{◌≡◌, ℕ, zero, suc, ◌+◌, ◌*◌, ◌%◌, ◌^◌, ◌<◌, ◌≤◌, cond, ◌⊎◌, List, [], ◌∷◌, ◌++◌, length, take, drop, replicate, ◌==◌, nat_lt, slice_index, slice_index_or}
use Rattle.spec.specs.Words.{tab, total}
use Rattle.spec.specs.Recipe.{Recipe}
use Rattle.spec.specs.Picture.{full_width_of, full_height_of}
use Rattle.spec.specs.Stream.{State, box_cells, stream_cells}
use Rattle.spec.specs.Refusals.{first, size_checks}
use Rattle.stream.specs.declared.sizes.Sizes.{Sizes}
use Rattle.stream.specs.declared.columns.Slot.{Slot}
use Rattle.stream.specs.Stages.{Worked, plus, slot_before, column_slot}

-- the grown sides and the needed cells
abbrev pub sizes : Recipe → ℕ → ℕ → Sizes
sizes r w h = record { width = full_width_of r w; height = full_height_of r h; cells = stream_cells r w }

-- a state and lengths of output and cells that none of 9, 7 and 8 refuses, with a row still to come
pub record Ready (s : State) (out cells : ℕ) : Type 0 where
  pub sizes : first (size_checks s.recipe s.width s.height) ≡ 0
  pub due : s.emitted < full_height_of s.recipe s.height
  pub output : out ≡ full_width_of s.recipe s.width
  pub enough : stream_cells s.recipe s.width ≤ cells

-- What a box of width n leaves in its cells after a row that ends in n - 1 black places, by the row's total: width 2: the last value, which
-- is black; wider: running totals, each the whole row's.
unfoldable pub box_kept : ℕ → ℕ → List ℕ
box_kept n total = cond (nat_lt n 2) [] (cond (n == 2) (0 ∷ []) (replicate n (total % 2 ^ 64)))

-- the boxes of a list, one after the other: a box of width n makes the total n times as large
unfoldable pub kept : List ℕ → ℕ → List ℕ
kept [] total = []
kept (n ∷ ns) total = box_kept n total ++ kept ns (n * total)

-- ---- stages down the columns that are worked together, on some of the columns: x has the values of these

-- the first k of some stages in turn, each on all cells
unfoldable pub in_turn : (ℕ → List ℕ → List ℕ → Worked) → ℕ → List ℕ → List ℕ → Worked
in_turn stage zero x cells = record { row = x; cells = cells }
in_turn stage (suc k) x cells =
    let done = in_turn stage k x cells in
    stage k done.row done.cells

-- width 2, its cells for these columns from a place on
unfoldable pub pair_at : ℕ → List ℕ → List ℕ → Worked
pair_at at x cells =
    record {
      row = tab (length x) (λ j. plus (slice_index x j) (slice_index cells (at + j)));
      cells = take at cells ++ (x ++ drop (at + length x) cells);
    }

-- k stages of width 2, on the columns from a column on; a row has w columns
unfoldable pub pairs_from : ℕ → ℕ → ℕ → List ℕ → List ℕ → Worked
pairs_from column w k = in_turn (λ s. pair_at (s * w + column)) k

-- no slot
abbrev pub no_slot : Slot
no_slot = record { before = 0; oldest = 0 }

-- the slots of the s-th of some stages
abbrev pub slot_at : List Slot → ℕ → Slot
slot_at slots s = slice_index_or slots s no_slot

-- k wider stages, by the first cells of their two slots
unfoldable pub rings_from : ℕ → List Slot → ℕ → List ℕ → List ℕ → Worked
rings_from column slots k = in_turn (λ s. column_slot ((slot_at slots s).before + column) ((slot_at slots s).oldest + column)) k

-- two slots of n columns, inside so many cells and apart
pub record Apart (before oldest n cells : ℕ) : Type 0 where
  pub before_inside : before + n ≤ cells
  pub oldest_inside : oldest + n ≤ cells
  pub apart : (before + n ≤ oldest) ⊎ (oldest + n ≤ before)

-- the first cells of the two slots of wider stages, one after the other, at the row after e others
pub record Slots (w e : ℕ) (ns : List ℕ) (slots : List Slot) : Type 0 where
  pub wide : (s : ℕ) → s < length ns → 2 < slice_index ns s
  pub before : (s : ℕ) → s < length ns → (slot_at slots s).before ≡ total (λ n. w * box_cells n) (take s ns) + slot_before (slice_index ns s) e * w
  pub oldest : (s : ℕ) → s < length ns → (slot_at slots s).oldest ≡ total (λ n. w * box_cells n) (take s ns) + e % slice_index ns s * w

-- k such stages, of some widths and at some row, which have all of so many cells
pub record Rings (w k cells : ℕ) (places : List Slot) : Type 0 where
  pub widths : List ℕ
  pub emitted : ℕ
  pub counted : length widths ≡ k
  pub room : total (λ n. w * box_cells n) widths ≡ cells
  pub slots : Slots w emitted widths places

-- the widths of a group: one below 2 alone, at most eight of width 2, or at most three wider ones
pub record Group (ns : List ℕ) : Type 0 where
  pub some : 0 < length ns
  pub one : slice_index ns 0 < 2 → length ns ≡ 1
  pub twos : slice_index ns 0 ≡ 2 → (length ns ≤ 8) × ((s : ℕ) → s < length ns → slice_index ns s ≡ 2)
  pub wider : 2 < slice_index ns 0 → (length ns ≤ 3) × ((s : ℕ) → s < length ns → 2 < slice_index ns s)

-- work that keeps the lengths, of rows of m values
pub record Kept (m size : ℕ) (done : Worked) : Type 0 where
  pub row : length done.row ≡ m
  pub cells : length done.cells ≡ size

-- Of w columns and so many cells, what f does from a column on: on some columns, and then on those next to them, is on all of these.
pub record Acts (w size : ℕ) (f : ℕ → List ℕ → List ℕ → Worked) : Type 0 where
  pub keeps : (i : ℕ) (x own : List ℕ) → i + length x ≤ w → length own ≡ size → Kept (length x) size (f i x own)
  pub none : (own : List ℕ) → length own ≡ size → f 0 [] own ≡ record { row = []; cells = own }
  pub next : (x y own : List ℕ) → length x + length y ≤ w → length own ≡ size
      → f 0 (x ++ y) own
      ≡ record {
        row = (f 0 x own).row ++ (f (length x) y (f 0 x own).cells).row;
        cells = (f (length x) y (f 0 x own).cells).cells;
      }
