-- Each method yields every grown row of the exact sums, and no other row in its place.
-- Assumes nothing.
use mathlib.Core.Path.{◌≡◌, refl, sym, ap, ap₂, ◌∙◌}
use mathlib.Core.Bool.{false, cond, ◌||◌}
use mathlib.Core.List.{List, [], ◌++◌}
use Prim.Native.Nat.{ℕ, ◌+◌, ◌*◌, ◌<◌}
use native.Mathlib.Omega.{arith}
use lib.ListN.{length, get_or, replicate, length-replicate, take-append-drop}
use borrow.Author.Tests.{le-ltb}
use Rattle.spec.specs.declared.Filter.{Filter}
use Rattle.spec.specs.Words.{part}
use Rattle.spec.specs.Recipe.{Recipe, recipe, order, kernel}
use Rattle.spec.specs.Picture.{Picture, exact, full_width_of, full_height_of, full_row, full}
use Rattle.spec.specs.Stream.{stream_cells}
use Rattle.spec.specs.Refusals.{Check, check, first, lent, other_pixels, other_output, too_few_cells, size_checks, picture_checks, start_checks, full_size, pass_checks, direct_checks}
use Rattle.laws.proofs.Lists.{length_tab, get_d_tab, tab_agree}
use Rattle.laws.proofs.Exact.{get_d_full}
use Rattle.laws.proofs.Refusals.{none_both, first_rest, first_then, size_numbered, picture_numbered, as_stated, lent_accepted}
use Rattle.direct.specs.Formed.{checks as directAsked}
use Rattle.passes.specs.Passed.{checks as passAsked}
use Rattle.stream.specs.Calls.{Began, start, started}
use Rattle.rows.specs.Runs.{whole}
use Rattle.rows.specs.OnePass.{accepted_calls}
use Rattle.rows.proofs.Run.{one_pass, first_rows}
use Rattle.equivalence.specs.Yields.{AcceptedWith, stream, passes, direct, row_in, StreamedRow, PassedRow, FormedRow, Yields, YieldsClaim}

-- a list of zeros, lent for so many numbers
abbrev zeros : ℕ → List ℕ
zeros n = replicate n 0

size_zeros : (n : ℕ) → length (zeros n) ≡ n
size_zeros n = length-replicate n 0

stated : (n : ℕ) → other_output (length (zeros n)) n ≡ false
unfolding other_output other_pixels
stated n = as_stated (length (zeros n)) n (size_zeros n)

enough : (n : ℕ) → too_few_cells (length (zeros n)) n ≡ false
unfolding too_few_cells
enough n = le-ltb (length (zeros n)) n (omega (arith, size_zeros n))

module _ (f : Filter) (p : Picture) (shown : AcceptedWith (recipe f) p) (j : ℕ) where
  abbrev r : Recipe
  r = recipe f

  -- none of 1 to 5 applies, and none of a call's checks where those after 6 do not
  five : first (size_checks r p.width p.height) ≡ 0
  unfolding picture_checks
  five = (none_both (size_checks r p.width p.height) _ (size_numbered r p.width p.height) shown.checked).0

  six : (ds : List Check) → first ds ≡ 0 → first (picture_checks r p ++ ds) ≡ 0
  six ds e = first_rest (picture_checks r p) ds (picture_numbered r p) shown.checked ∙ e

  -- row j of all grown rows
  row_of_full : j < full_height_of r p.height → row_in r p j (full r p) ≡ full_row r p j
  unfolding row_in part full_row
  row_of_full h =
      tab_agree (full_width_of r p.width) (λ i. get_or (full r p) (j * full_width_of r p.width + i) 0) (λ i. exact r p i j) (λ i l. get_d_full r p j i h l)

  -- direct
  formed_only : (row : List ℕ) → FormedRow f p j row → row ≡ full_row r p j
  formed_only row y =
      y.place
      ∙ ap (row_in r p j) (y.contract.out_slice ∙ lent_accepted (directAsked r p y.rows y.columns y.out) (full r p) y.out (sym y.contract.answer))
      ∙ row_of_full y.inside

  -- a call with slices of the stated lengths
  direct_call : List Check
  direct_call = directAsked r p (zeros (order r.rows + 1)) (zeros (order r.columns + 1)) (zeros (full_size r p))

  formed_row : j < full_height_of r p.height → FormedRow f p j (full_row r p j)
  unfolding direct_call direct_checks first check
  formed_row h =
      let asked : first direct_call ≡ 0 =
      six _ (ap (λ b. cond b 7 0) (ap₂ ◌||◌ (ap₂ ◌||◌ (stated (order r.rows + 1)) (stated (order r.columns + 1))) (stated (full_size r p)))) in
      let new : (made held : List ℕ) → made ≡ lent direct_call made held = λ made held. sym (lent_accepted direct_call made held asked) in
      record {
        rows = zeros (order r.rows + 1);
        columns = zeros (order r.columns + 1);
        out = zeros (full_size r p);
        new_rows = kernel r.rows;
        new_columns = kernel r.columns;
        new_out = full r p;
        contract = record { answer = sym asked; row_slice = new (kernel r.rows) _; column_slice = new (kernel r.columns) _; out_slice = new (full r p) _ };
        inside = h;
        place = sym (row_of_full h);
      }

  -- pass by pass
  passed_only : (row : List ℕ) → PassedRow f p j row → row ≡ full_row r p j
  passed_only row y =
      y.place
      ∙ ap (row_in r p j) (y.contract.output ∙ lent_accepted (passAsked r p y.out y.cells) (full r p) y.out (sym y.contract.answer))
      ∙ row_of_full y.inside

  pass_call : List Check
  pass_call = passAsked r p (zeros (full_size r p)) (zeros (full_size r p))

  passed_row : j < full_height_of r p.height → PassedRow f p j (full_row r p j)
  unfolding pass_call pass_checks first check
  passed_row h =
      let asked : first pass_call ≡ 0 = six _ (ap₂ (λ b c. cond b 7 (cond c 8 0)) (stated (full_size r p)) (enough (full_size r p))) in
      record {
        out = zeros (full_size r p);
        cells = zeros (full_size r p);
        new_out = full r p;
        new_cells = zeros (full_size r p);
        contract = record {
          answer = sym asked;
          output = sym (lent_accepted pass_call (full r p) (zeros (full_size r p)) asked);
          work = sym (lent_accepted pass_call _ (zeros (full_size r p)) asked ∙ take-append-drop (full_size r p) (zeros (full_size r p)));
          count = refl;
        };
        inside = h;
        place = sym (row_of_full h);
      }

  -- one pass
  streamed_only : (row : List ℕ) → StreamedRow f p j row → row ≡ full_row r p j
  streamed_only row y =
      let ys = accepted_calls f p y.cells y.calls in
      let exact-rows = (one_pass f p y.cells y.started).exact_rows shown.bytes y.calls y.first_rows in
      let inside : j < length ys = omega (arith, y.inside, ap length exact-rows, length_tab (length ys) (full_row r p)) in
      y.place ∙ ap (λ rows. get_or rows j []) exact-rows ∙ get_d_tab (length ys) (full_row r p) j [] inside

  -- the cells of a start, and the outputs of all calls
  start_cells : List ℕ
  start_cells = zeros (stream_cells r p.width)

  outs : ℕ → List ℕ
  outs k = zeros (full_width_of r p.width)

  begins : (start f p.width p.height start_cells).number ≡ 0
  unfolding start_cells start started start_checks
  begins =
      let eight = first_then (size_checks r p.width p.height) _ 8 (size_numbered r p.width p.height) five ∙ ap (λ b. cond b 8 0) (enough (stream_cells r p.width)) in
      ap (λ (b : Began). b.number) (lent_accepted (start_checks r p.width p.height (length (zeros (stream_cells r p.width)))) (started f p.width p.height start_cells) _ eight)

  streamed_row : j < full_height_of r p.height → StreamedRow f p j (full_row r p j)
  unfolding outs
  streamed_row h =
      let holds = one_pass f p start_cells begins in
      let wide : (k : ℕ) → length (outs k) ≡ full_width_of r p.width = λ k. size_zeros (full_width_of r p.width) in
      let all = holds.all_rows shown.bytes outs wide in
      record {
        cells = start_cells;
        calls = whole p (order r.columns) outs;
        started = begins;
        first_rows = first_rows p _ p.height (holds.rows_taken outs wide);
        inside = omega (arith, h, ap length all, length_tab (full_height_of r p.height) (full_row r p));
        place = sym (ap (λ rows. get_or rows j []) all ∙ get_d_tab (full_height_of r p.height) (full_row r p) j [] h);
      }

-- the claim
pub yields_exactly : YieldsClaim
unfolding Yields
yields_exactly f p shown j stream = record { yielded = streamed_row f p shown j; only = streamed_only f p shown j }
yields_exactly f p shown j passes = record { yielded = passed_row f p shown j; only = passed_only f p shown j }
yields_exactly f p shown j direct = record { yielded = formed_row f p shown j; only = formed_only f p shown j }
