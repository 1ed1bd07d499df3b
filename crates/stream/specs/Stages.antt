-- The one pass of document 01 on one row: what each stage makes of the row and of its own part of the cells, whatever these hold.
-- docs/CELLS.md draws the layout.
use Rattle.std.specs.Prelude.{ℕ, suc, ◌+◌, ◌-◌, ◌*◌, ◌/◌, ◌%◌, ◌^◌, cond, List, [], ◌∷◌, ◌++◌, length, take, drop, ◌==◌, nat_le, nat_lt, slice_index}
use Rattle.spec.specs.Words.{sum, tab}
use Rattle.spec.specs.Recipe.{Recipe}
use Rattle.spec.specs.Picture.{full_width_of}
use Rattle.spec.specs.Stream.{box_cells, cascade_cells}

-- cells are added and subtracted modulo 2^64
unfoldable pub plus : ℕ → ℕ → ℕ
plus a b = (a + b) % 2 ^ 64

unfoldable pub minus : ℕ → ℕ → ℕ
minus a b = (a + (2 ^ 64 - b)) % 2 ^ 64

-- a row and cells after the work on them
pub record Worked : Type 0 where
  pub row : List ℕ
  pub cells : List ℕ

-- A ring of n running totals, after k values: how many values the total in place p adds up, 0 for a place that none has reached. Value
-- k goes into place k % n.
unfoldable pub covered : ℕ → ℕ → ℕ → ℕ
covered n k p = k / n * n + suc p - cond (nat_lt p (k % n)) 0 n

-- ---- a stage along the row, of width n; a width of 1 changes nothing; the cells start from zero in each row

-- at place k the sum of the n values up to there
unfoldable pub row_boxed : ℕ → List ℕ → List ℕ
row_boxed n row = tab (length row) (λ k. sum n (λ a. cond (nat_le a k) (slice_index row (k - a)) 0) % 2 ^ 64)

-- width 2: the last value; wider: the last n running totals
unfoldable pub row_kept : ℕ → List ℕ → List ℕ
row_kept n row =
    cond (n == 2) (slice_index row (length row - 1) ∷ []) (tab n (λ p. sum (covered n (length row) p) (λ k. slice_index row k) % 2 ^ 64))

unfoldable pub row_stage : ℕ → List ℕ → List ℕ → Worked
row_stage n row own = cond (nat_lt n 2) (record { row = row; cells = own }) (record { row = row_boxed n row; cells = row_kept n row })

-- ---- a stage down the columns, of width n, at the row after e others

-- width 2: in each column one cell, the previous value
unfoldable pub column_pair : List ℕ → List ℕ → Worked
column_pair row own = record { row = tab (length row) (λ i. plus (slice_index row i) (slice_index own i)); cells = row }

-- wider: n slots of one cell for each column, a ring of running totals. This row goes into slot e % n, where the oldest total stands; the
-- total up to the previous row stands in the slot before it.
unfoldable pub slot_before : ℕ → ℕ → ℕ
slot_before n e = cond (e % n == 0) (n - 1) (e % n - 1)

-- the total with this row, and what the stage makes, by the first cells of the two slots
unfoldable pub slot_total : ℕ → List ℕ → List ℕ → ℕ → ℕ
slot_total before row own i = plus (slice_index own (before + i)) (slice_index row i)

unfoldable pub column_slot : ℕ → ℕ → List ℕ → List ℕ → Worked
column_slot before oldest row own =
    record {
      row = tab (length row) (λ i. minus (slot_total before row own i) (slice_index own (oldest + i)));
      cells = take oldest own ++ (tab (length row) (slot_total before row own) ++ drop (oldest + length row) own);
    }

unfoldable pub column_stage : ℕ → ℕ → List ℕ → List ℕ → Worked
column_stage e n row own =
    cond (nat_lt n 2) (record { row = row; cells = own })
    (cond (n == 2) (column_pair row own) (column_slot (slot_before n e * length row) (e % n * length row) row own))

-- ---- all stages on a row

-- one stage after the other, each on the next part of the cells; size says how many cells a width has
unfoldable pub stages : (ℕ → ℕ) → (ℕ → List ℕ → List ℕ → Worked) → List ℕ → List ℕ → List ℕ → Worked
stages size stage [] row cells = record { row = row; cells = cells }
stages size stage (n ∷ ns) row cells =
    let own = stage n row (take (size n) cells) in
    let rest = stages size stage ns own.row (drop (size n) cells) in
    record { row = rest.row; cells = own.cells ++ rest.cells }

-- the row list, then the column list, at the row after e others
unfoldable pub along : Recipe → List ℕ → List ℕ → Worked
along r row cells = stages box_cells row_stage r.rows row (take (cascade_cells r.rows) cells)

unfoldable pub down : Recipe → ℕ → List ℕ → List ℕ → Worked
down r e row cells = stages (λ n. length row * box_cells n) (column_stage e) r.columns row (drop (cascade_cells r.rows) cells)

unfoldable pub worked : Recipe → ℕ → List ℕ → List ℕ → Worked
worked r e row cells =
    let rowsDone = along r row cells in
    let columnsDone = down r e rowsDone.row cells in
    record { row = columnsDone.row; cells = rowsDone.cells ++ columnsDone.cells }

-- the row that goes through the stages: the pixels given, and then rx black places
unfoldable pub entering : Recipe → ℕ → List ℕ → List ℕ
entering r w pixels = tab (full_width_of r w) (λ i. slice_index pixels i)
