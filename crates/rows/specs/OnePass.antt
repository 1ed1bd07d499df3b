-- Document 01's claim about the one pass, which is one about the whole list of calls and not one for each call.
use Rattle.std.specs.Prelude.{◌≡◌, ◌||◌, List, [], ◌∷◌, ℕ, ◌≤◌, leb, ltb, length}
use Rattle.spec.specs.Words.{tab}
use Rattle.spec.specs.declared.Filter.{Filter}
use Rattle.spec.specs.Recipe.{recipe, order}
use Rattle.spec.specs.Picture.{Picture, largest_gray, Within, full_width_of, full_height_of, full_row}
use Rattle.spec.specs.Refusals.{check, first, other_pixels, other_output}
use Rattle.stream.specs.Calls.{start}
use Rattle.rows.specs.Runs.{Call, a_row, a_drain, answer_of, Yielded, run, Carried, carried, rows, outputs, kinds, picture_row, whole}

-- the accepted calls of a list, and what the list leaves, after a start of a recipe and a picture's sides with any cells
unfoldable pub accepted_calls : Filter → Picture → List ℕ → List Call → List Yielded
accepted_calls f p cells calls =
    let s = start f p.width p.height cells in
    run calls s.state s.cells

unfoldable pub left : Filter → Picture → List ℕ → List Call → Carried
left f p cells calls =
    let s = start f p.width p.height cells in
    carried calls s.state s.cells

-- the rows of the accepted row calls are the picture's first rows, in order
abbrev pub FirstRows : Picture → List Yielded → Type 0
FirstRows p ys = rows ys ≡ tab (length (rows ys)) (picture_row p)

pub record OnePass (f : Filter) (p : Picture) (cells : List ℕ) : Type 0 where
  -- The k-th accepted call leaves in its output grown row k - 1 of the exact sums, for every list of calls, refused ones included, and
  -- every picture whose first rows, in order, are those of the accepted row calls.
  pub exact_rows : Within largest_gray p → (calls : List Call) → FirstRows p (accepted_calls f p cells calls)
      → outputs (accepted_calls f p cells calls) ≡ tab (length (accepted_calls f p cells calls)) (full_row (recipe f) p)
  -- Row calls are accepted first, as many as the picture has rows, then drains, and nothing after the last grown row.
  pub in_turn : (calls : List Call) → kinds (accepted_calls f p cells calls) ≡ tab (length (accepted_calls f p cells calls)) (λ k. ltb k p.height)
  pub at_most : (calls : List Call) → length (accepted_calls f p cells calls) ≤ full_height_of (recipe f) p.height
  -- The number of the next call, after any list of calls: 10 goes by how many were accepted, 6 and 7 by the lengths of its slices, and no
  -- other number comes.
  pub row_number : (calls : List Call) (pixels out : List ℕ)
      → (answer_of (a_row pixels out) (left f p cells calls).state (left f p cells calls).cells).number
      ≡ first (check (leb p.height (length (accepted_calls f p cells calls))) 10 ∷ check (other_pixels (length pixels) p.width) 6
      ∷ check (other_output (length out) (full_width_of (recipe f) p.width)) 7 ∷ [])
  pub drain_number : (calls : List Call) (out : List ℕ)
      → (answer_of (a_drain out) (left f p cells calls).state (left f p cells calls).cells).number
      ≡ first (check (ltb (length (accepted_calls f p cells calls)) p.height || leb (full_height_of (recipe f) p.height) (length (accepted_calls f p cells calls))) 10
      ∷ check (other_output (length out) (full_width_of (recipe f) p.width)) 7 ∷ [])
  -- All rows of the picture and then ry drains, with outputs of the grown width: every row is accepted, and all grown rows are yielded.
  pub rows_taken : (outs : ℕ → List ℕ) → ((k : ℕ) → length (outs k) ≡ full_width_of (recipe f) p.width)
      → rows (accepted_calls f p cells (whole p (order (recipe f).columns) outs)) ≡ tab p.height (picture_row p)
  pub all_rows : Within largest_gray p → (outs : ℕ → List ℕ) → ((k : ℕ) → length (outs k) ≡ full_width_of (recipe f) p.width)
      → outputs (accepted_calls f p cells (whole p (order (recipe f).columns) outs)) ≡ tab (full_height_of (recipe f) p.height) (full_row (recipe f) p)

-- The claim: so it is after every accepted start, with any lent cells.
abbrev pub OnePassClaim : Type 0
OnePassClaim = (f : Filter) (p : Picture) (cells : List ℕ) → (start f p.width p.height cells).number ≡ 0 → OnePass f p cells
