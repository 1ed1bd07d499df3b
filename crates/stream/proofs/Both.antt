-- Cells past those of a cascade, and both lists of a recipe one after the other.
-- Assumes nothing.
use Rattle.std.proofs.Common.{◌≡◌, ℕ, ◌-◌, ◌*◌, ◌≤◌, List, [], ◌∷◌, ◌++◌, length, take, drop, sym, refl, ap, ◌∙◌, ap₂, append_assoc, append-nil, arith, length-append, length-drop, take-append-drop, drop_of_length-le, length-take-le, take_all}
use lib.Seq.{take-append_seam, drop-append_seam, take-append-le, drop-append-le}
use Rattle.spec.specs.Recipe.{Recipe}
use Rattle.spec.specs.Stream.{box_cells, cascade_cells}
use Rattle.spec.specs.Words.{total}
use Rattle.stream.specs.Stages.{Worked, row_stage, column_stage, stages, along, down, worked}

-- cells past those of the cascade are left alone
pub stages_beyond : (size : ℕ → ℕ) (stage : ℕ → List ℕ → List ℕ → Worked) (ws row xs ys : List ℕ) → total size ws ≡ length xs
    → stages size stage ws row (xs ++ ys)
    ≡ record { row = (stages size stage ws row xs).row; cells = (stages size stage ws row xs).cells ++ ys }
unfolding stages total
stages_beyond size stage [] row xs ys e = refl
stages_beyond size stage (n ∷ ns) row xs ys e =
    let h : size n ≤ length xs = omega arith in
    let a : take (size n) (xs ++ ys) ≡ take (size n) xs = take-append-le (size n) xs ys h in
    let b : drop (size n) (xs ++ ys) ≡ drop (size n) xs ++ ys = drop-append-le (size n) xs ys h in
    let own = stage n row (take (size n) xs) in
    let rest = stages size stage ns own.row (drop (size n) xs) in
    let so = stages_beyond size stage ns own.row (drop (size n) xs) ys (omega (arith, length-drop (size n) xs)) in
    ap₂ (after n ns row) a b
    ∙ ap (λ (w : Worked). record { row = w.row; cells = own.cells ++ w.cells }) so
    ∙ ap (λ cs. record { row = rest.row; cells = cs }) (sym (append_assoc own.cells rest.cells ys))
  where
    after : ℕ → List ℕ → List ℕ → List ℕ → List ℕ → Worked
    after n ns row mine rest =
        record {
          row = (stages size stage ns (stage n row mine).row rest).row;
          cells = (stage n row mine).cells ++ (stages size stage ns (stage n row mine).row rest).cells;
        }

-- The row list on all cells, then the column list on those past its own: both lists.
module _ (r : Recipe) (e own : ℕ) (row cells row₁ cells₁ : List ℕ) (p : own ≡ cascade_cells r.rows) (h : own ≤ length cells)
    (u : row₁ ≡ (stages box_cells row_stage r.rows row cells).row) (v : cells₁ ≡ (stages box_cells row_stage r.rows row cells).cells)
    (long : length cells₁ ≡ length cells) where
  front : List ℕ
  front = take (cascade_cells r.rows) cells

  back : List ℕ
  back = drop (cascade_cells r.rows) cells

  apart : stages box_cells row_stage r.rows row cells ≡ record { row = (along r row cells).row; cells = (along r row cells).cells ++ back }
  unfolding along front back cascade_cells
  apart =
      let q : total box_cells r.rows ≤ length cells = omega arith in
      ap (stages box_cells row_stage r.rows row) (sym (take-append-drop (total box_cells r.rows) cells))
      ∙ stages_beyond box_cells row_stage r.rows row front back (sym (length-take-le (total box_cells r.rows) cells q))

  row_is : row₁ ≡ (along r row cells).row
  row_is = u ∙ ap (λ (w : Worked). w.row) apart

  cells_are : cells₁ ≡ (along r row cells).cells ++ back
  cells_are = v ∙ ap (λ (w : Worked). w.cells) apart

  mine : own ≡ length (along r row cells).cells
  unfolding back
  mine =
      omega (arith, ap length cells_are, length-append (along r row cells).cells back, length-drop (cascade_cells r.rows) cells)

  taken : take own cells₁ ≡ (along r row cells).cells
  taken = ap₂ take mine cells_are ∙ take-append_seam (along r row cells).cells back

  left : drop own cells₁ ≡ back
  left = ap₂ drop mine cells_are ∙ drop-append_seam (along r row cells).cells back

  size : length back ≡ length cells₁ - own
  unfolding back
  size = omega (arith, length-drop (cascade_cells r.rows) cells)

  pub both_lists : (part row₂ made : List ℕ) → part ≡ take (length cells₁ - own) (drop own cells₁)
      → row₂ ≡ (stages (λ n. length row₁ * box_cells n) (column_stage e) r.columns row₁ part).row
      → made ≡ (stages (λ n. length row₁ * box_cells n) (column_stage e) r.columns row₁ part).cells
      → (row₂ ≡ (worked r e row cells).row)
      × (take own cells₁ ++ (made ++ drop (length cells₁ - own) (drop own cells₁)) ≡ (worked r e row cells).cells)
  unfolding worked down back
  both_lists part row₂ made w x y =
      let all : part ≡ back =
      w ∙ ap (take (length cells₁ - own)) left ∙ take_all (length cells₁ - own) back (omega (arith, size)) in
      let short : length back ≤ length cells₁ - own = omega (arith, size) in
      let none : drop (length cells₁ - own) (drop own cells₁) ≡ [] =
      ap (drop (length cells₁ - own)) left ∙ drop_of_length-le back short in
      let second : List ℕ → List ℕ → Worked = λ v cs. stages (λ n. length v * box_cells n) (column_stage e) r.columns v cs in (
        x ∙ ap₂ (λ v cs. (second v cs).row) row_is all,
        ap₂ ◌++◌ taken (ap₂ ◌++◌ (y ∙ ap₂ (λ v cs. (second v cs).cells) row_is all) none ∙ append-nil _),
      )
