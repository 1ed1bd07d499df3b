-- One row through all stages, from honest cells: the grown row of exact sums.
-- Assumes nothing.
use mathlib.Core.Path.{◌≡◌, sym, ap, subst, ◌∙◌}
use mathlib.Core.List.{List, [], ◌++◌}
use Prim.Native.Nat.{ℕ, ◌+◌, ◌*◌, ◌%◌, ◌^◌, ◌≤◌, ◌<◌}
use native.Mathlib.Nat.{le_trans, le_of_eq, mul-le-mul}
use native.Mathlib.Decide.{dec_lt}
use native.Mathlib.Omega.{arith}
use lib.ListN.{length, get_or, take, drop, length-append, length-drop, replicate, length-replicate, get_or-replicate, get_or-append}
use lib.Seq.{length-take-le, drop-append_seam, get_or-drop}
use Rattle.spec.specs.Words.{tab, part, total}
use Rattle.spec.specs.Recipe.{Recipe, gain}
use Rattle.spec.specs.Picture.{Picture, Within, exact, full_width_of, full_row}
use Rattle.spec.specs.Stream.{box_cells, cascade_cells, stream_cells}
use Rattle.laws.proofs.Lists.{length_tab, get_d_tab, get_d_tab_past, tab_agree, total_scale}
use Rattle.laws.proofs.Kernels.{at, holds_tab}
use Rattle.laws.proofs.Cascades.{cascaded}
use Rattle.laws.proofs.Exact.{pixel_right, pixel_below, pixel_inside, line, exact_cascaded, exact_small, pixel_small, rows_pos, columns_pos}
use Rattle.stream.specs.Stages.{Worked, row_stage, column_stage, stages, along, down, worked, entering}
use Rattle.rows.specs.Runs.{picture_row}
use Rattle.stream.proofs.Following.{Follows, row_keeps, rows_follow}
use Rattle.stream.proofs.Groups.{stages_keep}
use Rattle.stream.proofs.Sweeps.{columns_keep}
use Rattle.rows.proofs.Honest.{KeptAll, columns_follow, zeros_kept}

module _ (r : Recipe) (p : Picture) where
  -- the grown width
  abbrev pub W : ℕ
  W = full_width_of r p.width

  -- row j through the row list
  unfoldable pub passed : ℕ → ℕ → ℕ
  passed j i = cascaded 1 r.rows (line p j) i

  -- honest cells after e rows: enough of them, and those of the column list hold what they should
  pub record Honest (e : ℕ) (cells : List ℕ) : Type 0 where
    pub enough : stream_cells r p.width ≤ length cells
    pub kept : KeptAll W r.columns passed e (drop (cascade_cells r.rows) cells)

  needed : (cells : List ℕ) → stream_cells r p.width ≤ length cells
      → (cascade_cells r.rows ≤ length cells) × (total (λ n. W * box_cells n) r.columns ≤ length (drop (cascade_cells r.rows) cells))
  unfolding stream_cells cascade_cells
  needed cells h =
      let w = full_width_of r p.width in
      let rc = total box_cells r.rows in
      (omega arith, le_trans (le_of_eq (total_scale box_cells w r.columns)) (omega (arith, length-drop rc cells)))

  -- any row and any cells keep their lengths
  pub cells_length : (e : ℕ) (row cells : List ℕ) → length row ≡ W → stream_cells r p.width ≤ length cells
      → length (worked r e row cells).cells ≡ length cells
  unfolding worked along down cascade_cells
  cells_length e row cells l h =
      let rc = total box_cells r.rows in
      let room = needed cells h in
      let size : length (take rc cells) ≡ rc = length-take-le rc cells room.0 in
      let one = stages_keep box_cells row_stage W (λ n row own a b. let k = row_keeps W n row own a b in record { row = k.0; cells = k.1 }) r.rows row (take rc cells) l (le_of_eq (sym size)) in
      let first = stages box_cells row_stage r.rows row (take rc cells) in
      let second = stages (λ n. length first.row * box_cells n) (column_stage e) r.columns first.row (drop rc cells) in
      let same : stages (λ n. W * box_cells n) (column_stage e) r.columns first.row (drop rc cells) ≡ second =
      ap (λ w. stages (λ n. w * box_cells n) (column_stage e) r.columns first.row (drop rc cells)) (sym one.row) in
      let two = stages_keep (λ n. W * box_cells n) (column_stage e) W (columns_keep e W) r.columns first.row (drop rc cells) one.row room.1 in
      let long : length second.cells ≡ length (drop rc cells) = ap (λ (x : Worked). length x.cells) (sym same) ∙ two.cells in
      omega (arith, length-append first.cells second.cells, one.cells, size, long, length-drop rc cells, room.0)

  module _ (pos : 0 < gain r) (light : gain r ≤ 2 ^ 44) (most : ℕ) (few : most ≤ 65535) (small : Within most p) where
    exact-fits : (i j : ℕ) → exact r p i j % 2 ^ 64 ≡ exact r p i j
    exact-fits i j =
        let h : exact r p i j ≤ 65535 * 2 ^ 44 = le_trans (exact_small r p most small i j) (mul-le-mul few light) in
        omega arith

    -- the row that enters
    entered : (e : ℕ) (row : List ℕ) → row ≡ tab W (line p e) → Follows W (line p e) row
    unfolding at line
    entered e row d =
        record {
          wide = ap length d ∙ length_tab W (line p e);
          values = λ k h. ap (λ l. get_or l k 0) d ∙ get_d_tab W (line p e) k 0 h ∙ omega (arith, pixel_small r p most small k e);
        }

    module _ (e : ℕ) (row cells : List ℕ) (is : row ≡ tab W (line p e)) (h : Honest e cells) where
      first : Worked
      first = along r row cells

      rows-through : Follows W (passed e) first.row × (length first.cells ≡ cascade_cells r.rows)
      unfolding along cascade_cells first passed
      rows-through =
          let rc = total box_cells r.rows in
          let size : length (take rc cells) ≡ rc = length-take-le rc cells (needed cells h.enough).0 in
          let both = rows_follow W r.rows (line p e) row (take rc cells) (rows_pos r pos) size (entered e row is) in
          (both.0, both.1 ∙ size)

      second : Worked
      second = down r e first.row cells

      downwards : Follows W (λ i. exact r p i e) second.row × KeptAll W r.columns passed (e + 1) second.cells
          × (length second.cells ≡ length (drop (cascade_cells r.rows) cells))
      unfolding down second passed
      downwards =
          let back = drop (cascade_cells r.rows) cells in
          let made =
          columns_follow W r.columns passed e first.row back (columns_pos r pos) (needed cells h.enough).1 rows-through.0 h.kept in
          let same : stages (λ n. W * box_cells n) (column_stage e) r.columns first.row back
          ≡ stages (λ n. length first.row * box_cells n) (column_stage e) r.columns first.row back =
          ap (λ w. stages (λ n. w * box_cells n) (column_stage e) r.columns first.row back) (sym rows-through.0.wide) in
          let ends = subst (λ (x : Worked). Follows W (λ i. cascaded 1 r.columns (λ j. passed j i) e) x.row) same made.0 in (
            record { wide = ends.wide; values = λ k l. ends.values k l ∙ ap (λ x. x % 2 ^ 64) (sym (exact_cascaded r p pos k e)) },
            subst (λ (x : Worked). KeptAll W r.columns passed (e + 1) x.cells) same made.1,
            ap (λ (x : Worked). length x.cells) (sym same) ∙ made.2,
          )

      -- the row that comes out, and the cells that are left
      pub row_yielded : (worked r e row cells).row ≡ full_row r p e
      unfolding worked full_row first second
      row_yielded =
          let out = downwards.0 in
          holds_tab (λ i. exact r p i e) second.row (λ k l. out.values k (omega (arith, out.wide)) ∙ exact-fits k e)
          ∙ ap (λ n. tab n (λ i. exact r p i e)) out.wide

      pub cells_honest : Honest (e + 1) (worked r e row cells).cells
      unfolding worked first second
      cells_honest =
          let left : drop (cascade_cells r.rows) (first.cells ++ second.cells) ≡ second.cells =
          ap (λ n. drop n (first.cells ++ second.cells)) (sym rows-through.1) ∙ drop-append_seam first.cells second.cells in
          record {
            enough = le_trans h.enough (le_of_eq (sym (cells_length e row cells (ap length is ∙ length_tab W (line p e)) h.enough)));
            kept = subst (KeptAll W r.columns passed (e + 1)) (sym left) downwards.1;
          }

-- The rows that enter: a row of the picture with black places after it, and below the picture a black row.
module _ (r : Recipe) (p : Picture) where
  pub entering_row : (e : ℕ) → e < p.height → entering r p.width (picture_row p e) ≡ tab (full_width_of r p.width) (line p e)
  unfolding entering picture_row part line at
  entering_row e h =
      let w = p.width in
      let row : ℕ → ℕ = λ k. get_or p.pixels (e * w + k) 0 in
      tab_agree (full_width_of r w) (λ i. get_or (tab w row) i 0) (line p e)
      (λ i l.
      elim (dec_lt i w) [
        | yes g ↦ get_d_tab w row i 0 g ∙ sym (pixel_inside p i e g h)
        | no g ↦
            let u : w ≤ i = omega arith in
            get_d_tab_past w row i 0 u ∙ sym (pixel_right p i e u)
      ])

  pub entering_black : (e : ℕ) → p.height ≤ e → entering r p.width [] ≡ tab (full_width_of r p.width) (line p e)
  unfolding entering line
  entering_black e h =
      tab_agree (full_width_of r p.width) (λ i. get_or {A = ℕ} [] i 0) (line p e) (λ i l. sym (pixel_below p i e h))

  -- the cells of an accepted start
  pub start_honest : 0 < gain r → (cells : List ℕ) → stream_cells r p.width ≤ length cells
      → Honest r p 0 (replicate (stream_cells r p.width) 0 ++ drop (stream_cells r p.width) cells)
  unfolding stream_cells cascade_cells at
  start_honest pos cells h =
      let n = stream_cells r p.width in
      let rc = cascade_cells r.rows in
      let new = replicate n 0 ++ drop n cells in
      let long : n ≤ length new = omega (arith, length-append (replicate n 0) (drop n cells), length-replicate {A = ℕ} n 0) in
      let room = needed r p new long in
      record {
        enough = long;
        kept =
            zeros_kept (W r p) r.columns (passed r p) (drop rc new) (columns_pos r pos) room.1
            (λ k g.
            let q : rc + k < n = omega (arith, total_scale box_cells (W r p) r.columns) in
            get_or-drop rc new k 0
            ∙ get_or-append (replicate n 0) (drop n cells) 0 (rc + k) (omega (arith, length-replicate {A = ℕ} n 0))
            ∙ get_or-replicate n (rc + k) 0 0 q);
      }
