-- `job::reading::read` meets its contract: head, counts and length, and then by that of `rest`.
-- Assumes nothing.
use mathlib.Core.Path.{◌≡◌, refl, sym, ap, ap₂, ◌∙◌}
use mathlib.Core.Bool.{true, false, ◌||◌}
use Prim.Native.Nat.{ℕ, ◌≤◌, ◌<◌}
use native.Mathlib.Omega.{arith}
use lib.Dec.{ltb}
use borrow.Author.Tests.{lt-ltb, le-ltb}
use Rattle.job.proofs.Answering.{by_head, seven, by_long, by_cut, by_rest}
use Rattle.job.proofs.reading.read.Goals as goal
use Rattle.job.proofs.reading.read.Goals.{then-row_count-gt48-via-then-row_count-gt48, then-row_count-gt48-via-else-row_count-gt48+then-column_count-gt48}

pub returns-then-bad_head : goal.returns-then-bad_head
returns-then-bad_head c = by_head _ (sym c.bad_head.ensures ∙ c.if-bad_head.true)

pub bounds-bytes-5 : goal.bounds-bytes-5
bounds-bytes-5 c = omega (arith, seven _ (sym c.bad_head.ensures ∙ c.if-bad_head.false))

pub bounds-bytes-6 : goal.bounds-bytes-6
bounds-bytes-6 c = omega (arith, seven _ (sym c.bad_head.ensures ∙ c.if-bad_head.false))

-- whether a list is too long, by the counts
neither_long : (m n : ℕ) → m ≤ 48 → n ≤ 48 → (ltb 48 m || ltb 48 n) ≡ false
neither_long m n h g = ap₂ ◌||◌ (le-ltb 48 m h) (le-ltb 48 n g)

rows_long : (m n : ℕ) → 48 < m → (ltb 48 m || ltb 48 n) ≡ true
rows_long m n h = ap (λ b. b || ltb 48 n) (lt-ltb 48 m h)

columns_long : (m n : ℕ) → m ≤ 48 → 48 < n → (ltb 48 m || ltb 48 n) ≡ true
columns_long m n h g = ap₂ ◌||◌ (le-ltb 48 m h) (lt-ltb 48 n g)

pub returns-then-row_count-gt48 : goal.returns-then-row_count-gt48
returns-then-row_count-gt48 c =
    let good = sym c.bad_head.ensures ∙ c.if-bad_head.false in
    elim c.then-row_count-gt48.branch [
      | then-row_count-gt48-via-then-row_count-gt48 w ↦ by_long _ good (rows_long _ _ w.if-row_count-gt48.true)
      | then-row_count-gt48-via-else-row_count-gt48+then-column_count-gt48 w ↦
          by_long _ good (columns_long _ _ w.if-row_count-gt48.false w.if-column_count-gt48.true)
    ]

pub returns-then-bytes-from : goal.returns-then-bytes-from
returns-then-bytes-from c =
    let good = sym c.bad_head.ensures ∙ c.if-bad_head.false in
    by_cut _ good (neither_long _ _ c.if-row_count-gt48.false c.if-column_count-gt48.false) (omega arith)

pub rest-requires : goal.rest-requires
rest-requires c =
    record {
      row_count = refl;
      column_count = refl;
      rows_short = c.if-row_count-gt48.false;
      columns_short = c.if-column_count-gt48.false;
      long = omega arith;
    }

pub returns : goal.returns
returns c =
    let good = sym c.bad_head.ensures ∙ c.if-bad_head.false in
    c.rest.ensures ∙ by_rest _ good (neither_long _ _ c.if-row_count-gt48.false c.if-column_count-gt48.false) (omega arith)
