-- Groups of stages: the stages of a cascade are those of a first group and then those of the rest, and stages that work in turn on all
-- cells are the stages on their own parts.
-- Assumes nothing.
use Rattle.std.proofs.Common.{◌≡◌, ℕ, zero, suc, ◌+◌, ◌-◌, ◌*◌, ◌<◌, ◌≤◌, List, [], ◌∷◌, ◌++◌, length, get_or, take, drop, sym, refl, ap, ◌∙◌, ap₂, append_assoc, append-nil, mul-le-mul_left, mul-zero, mul-add, arith, length-append, length-drop, take-append-drop, length-take-le, take_all, take-suc}
use lib.Seq.{take-append-add, drop-append-add}
use Rattle.spec.specs.Words.{total}
use Rattle.laws.proofs.Lists.{total_append}
use Rattle.stream.specs.Stages.{Worked, stages}
use Rattle.stream.specs.Private.{in_turn, Kept}
use Rattle.stream.proofs.Both.{stages_beyond}

abbrev pub Keeps : (ℕ → ℕ) → (ℕ → List ℕ → List ℕ → Worked) → ℕ → Type 0
Keeps size stage m = (n : ℕ) (row own : List ℕ) → length row ≡ m → length own ≡ size n → Kept m (size n) (stage n row own)

-- a stage on its own part of the cells, from a place on
unfoldable pub placed : (ℕ → ℕ) → (ℕ → List ℕ → List ℕ → Worked) → ℕ → ℕ → List ℕ → List ℕ → Worked
placed size stage from n row cells =
    let own = stage n row (take (size n) (drop from cells)) in
    record { row = own.row; cells = take from cells ++ (own.cells ++ drop (size n) (drop from cells)) }

module _ (size : ℕ → ℕ) (stage : ℕ → List ℕ → List ℕ → Worked) (m : ℕ) (keeps : Keeps size stage m) where
  -- the first stage of some, on its part
  first : (n : ℕ) (ns row cells : List ℕ) → length row ≡ m → total size (n ∷ ns) ≤ length cells → Kept m (size n) (stage n row (take (size n) cells))
  unfolding total
  first n ns row cells e h = keeps n row (take (size n) cells) e (length-take-le (size n) cells (omega arith))

  pub stages_keep : (ns row cells : List ℕ) → length row ≡ m → total size ns ≤ length cells → Kept m (length cells) (stages size stage ns row cells)
  unfolding stages total
  stages_keep [] row cells e h = record { row = e; cells = refl }
  stages_keep (n ∷ ns) row cells e h =
      let k = first n ns row cells e h in
      let own = stage n row (take (size n) cells) in
      let rest = stages_keep ns own.row (drop (size n) cells) k.row (omega (arith, length-drop (size n) cells)) in
      record {
        row = rest.row;
        cells =
            length-append own.cells (stages size stage ns own.row (drop (size n) cells)).cells
            ∙ omega (arith, k.cells, rest.cells, length-drop (size n) cells);
      }

  -- the rest after a first group
  pub after : (ms ns row cells : List ℕ) → Worked
  after ms ns row cells =
      let done = stages size stage ms row cells in
      let rest = stages size stage ns done.row (drop (total size ms) done.cells) in
      record { row = rest.row; cells = take (total size ms) done.cells ++ rest.cells }

  pub stages_then : (ms ns row cells : List ℕ) → length row ≡ m → total size ms ≤ length cells
      → stages size stage (ms ++ ns) row cells ≡ after ms ns row cells
  unfolding stages total after
  stages_then [] ns row cells e h = refl
  stages_then (n ∷ ms) ns row cells e h =
      let k = first n ms row cells e h in
      let own = stage n row (take (size n) cells) in
      let done = stages size stage ms own.row (drop (size n) cells) in
      let so = stages_then ms ns own.row (drop (size n) cells) k.row (omega (arith, length-drop (size n) cells)) in
      let t = total size ms in
      let all = own.cells ++ done.cells in
      let d : drop (size n + t) all ≡ drop t done.cells =
      ap (λ s. drop (s + t) all) (sym k.cells) ∙ drop-append-add own.cells done.cells t in
      let f : take (size n + t) all ≡ own.cells ++ take t done.cells =
      ap (λ s. take (s + t) all) (sym k.cells) ∙ take-append-add own.cells done.cells t in
      let rest : List ℕ → Worked = stages size stage ns done.row in
      ap (λ (w : Worked). record { row = w.row; cells = own.cells ++ w.cells }) so
      ∙ ap (λ cs. record { row = (rest (drop t done.cells)).row; cells = cs }) (sym (append_assoc own.cells (take t done.cells) (rest (drop t done.cells)).cells))
      ∙ ap₂ (λ u v. record { row = (rest v).row; cells = u ++ (rest v).cells }) (sym f) (sym d)

  -- one stage more
  pub stages_more : (ms : List ℕ) (n : ℕ) (row cells : List ℕ) → length row ≡ m → total size ms ≤ length cells
      → stages size stage (ms ++ n ∷ []) row cells
      ≡ placed size stage (total size ms) n (stages size stage ms row cells).row (stages size stage ms row cells).cells
  unfolding stages after placed
  stages_more ms n row cells e h = stages_then ms (n ∷ []) row cells e h

  -- Stages that work in turn on all cells, each as the stage of its width on its own part.
  module _ (turn : ℕ → List ℕ → List ℕ → Worked) (ns row cells : List ℕ) (e : length row ≡ m) (h : total size ns ≤ length cells)
      (so : (s : ℕ) → s < length ns → (x own : List ℕ) → length x ≡ m → length own ≡ length cells
      → turn s x own ≡ placed size stage (total size (take s ns)) (get_or ns s 0) x own) where
    front : (s : ℕ) → total size (take s ns) ≤ length cells
    front s =
        omega (arith, ap (total size) (take-append-drop s ns), total_append size (take s ns) (drop s ns))

    turns-front : (s : ℕ) → s ≤ length ns → in_turn turn s row cells ≡ stages size stage (take s ns) row cells
    unfolding in_turn stages
    turns-front zero g = refl
    turns-front (suc s) g =
        let k = stages_keep (take s ns) row cells e (front s) in
        ap (λ (w : Worked). turn s w.row w.cells) (turns-front s (omega arith))
        ∙ so s (omega arith) (stages size stage (take s ns) row cells).row (stages size stage (take s ns) row cells).cells k.row k.cells
        ∙ sym (ap (λ l. stages size stage l row cells) (take-suc ns s 0 (omega arith)) ∙ stages_more (take s ns) (get_or ns s 0) row cells e (front s))

    pub turns : (k : ℕ) → length ns ≡ k → in_turn turn k row cells ≡ stages size stage ns row cells
    turns k g =
        turns-front k (omega arith) ∙ ap (λ l. stages size stage l row cells) (take_all k ns (omega arith))

-- two stages that agree on rows of m values
pub stages_agree : (size : ℕ → ℕ) (f g : ℕ → List ℕ → List ℕ → Worked) (m : ℕ) → Keeps size f m
    → ((n : ℕ) (row own : List ℕ) → length row ≡ m → length own ≡ size n → f n row own ≡ g n row own)
    → (ns row cells : List ℕ) → length row ≡ m → total size ns ≤ length cells → stages size f ns row cells ≡ stages size g ns row cells
unfolding stages total
stages_agree size f g m keeps same [] row cells e h = refl
stages_agree size f g m keeps same (n ∷ ns) row cells e h =
    let l : length (take (size n) cells) ≡ size n = length-take-le (size n) cells (omega arith) in
    let own = f n row (take (size n) cells) in
    ap (λ (w : Worked). record { row = w.row; cells = own.cells ++ w.cells })
    (stages_agree size f g m keeps same ns own.row (drop (size n) cells) (keeps n row (take (size n) cells) e l).row (omega (arith, length-drop (size n) cells)))
    ∙ ap (λ (o : Worked). record { row = (stages size g ns o.row (drop (size n) cells)).row; cells = o.cells ++ (stages size g ns o.row (drop (size n) cells)).cells })
    (same n row (take (size n) cells) e l)

-- ---- a loop over the widths of a cascade, a group in each turn

module _ (size cost : ℕ → ℕ) (stage : ℕ → List ℕ → List ℕ → Worked) (ws row₀ cells₀ : List ℕ) where
  -- the stages of some first widths are worked, and these are left
  pub record Done (rest row cells : List ℕ) (start sum : ℕ) : Type 0 where
    pub done : List ℕ
    pub all : ws ≡ done ++ rest
    pub row_is : row ≡ (stages size stage done row₀ cells₀).row
    pub cells_are : cells ≡ (stages size stage done row₀ cells₀).cells
    pub placed : start ≡ total size done
    pub counted : sum ≡ length row₀ * total cost done

  pub done_none : Done ws row₀ cells₀ 0 0
  unfolding stages total
  done_none = record { done = []; all = refl; row_is = refl; cells_are = refl; placed = refl; counted = omega (arith, mul-zero (length row₀)) }

  pub done_all : (rest row cells : List ℕ) (start sum : ℕ) → Done rest row cells start sum → length rest ≡ 0
      → (sum ≡ length row₀ * total cost ws) × (row ≡ (stages size stage ws row₀ cells₀).row) × (cells ≡ (stages size stage ws row₀ cells₀).cells)
  done_all [] row cells start sum d h =
      let e : d.done ≡ ws = sym (d.all ∙ append-nil d.done) in (
        d.counted ∙ ap (λ l. length row₀ * total cost l) e,
        d.row_is ∙ ap (λ l. (stages size stage l row₀ cells₀).row) e,
        d.cells_are ∙ ap (λ l. (stages size stage l row₀ cells₀).cells) e,
      )
  done_all (n ∷ ns) row cells start sum d h = absurd (omega arith)

  module _ (keeps : Keeps size stage (length row₀)) (room : total size ws ≤ length cells₀)
      (rest row cells : List ℕ) (start sum : ℕ) (d : Done rest row cells start sum) where
    front-room : total size d.done ≤ length cells₀
    front-room = omega (arith, ap (total size) d.all, total_append size d.done rest)

    pub done_length : (length row ≡ length row₀) × (length cells ≡ length cells₀)
    done_length =
        let k = stages_keep size stage (length row₀) keeps d.done row₀ cells₀ refl front-room in
        (ap length d.row_is ∙ k.row, ap length d.cells_are ∙ k.cells)

    -- the next group
    module _ (ms later : List ℕ) (split : rest ≡ ms ++ later) where
      with-group : ws ≡ (d.done ++ ms) ++ later
      with-group = d.all ∙ ap (λ l. d.done ++ l) split ∙ sym (append_assoc d.done ms later)

      pub done_room : start + total size ms ≤ length cells
      done_room =
          omega (arith, d.placed, done_length.1, room, ap (total size) with-group, total_append size (d.done ++ ms) later, total_append size d.done ms)

      pub done_count : sum + length row₀ * total cost ms ≤ length row₀ * total cost ws
      done_count =
          let e : total cost d.done + total cost ms ≤ total cost ws =
          omega (arith, ap (total cost) with-group, total_append cost (d.done ++ ms) later, total_append cost d.done ms) in
          omega (arith, d.counted, mul-add (length row₀) (total cost d.done) (total cost ms), mul-le-mul_left (length row₀) e)

      pub done_more : (end v : ℕ) (part new new_row : List ℕ) → end ≡ start + total size ms → v ≡ length row₀ * total cost ms
          → part ≡ take (end - start) (drop start cells) → new_row ≡ (stages size stage ms row part).row → new ≡ (stages size stage ms row part).cells
          → Done later new_row (take start cells ++ (new ++ drop (end - start) (drop start cells))) end (sum + v)
      unfolding after
      done_more end v part new new_row p q u s t =
          let back = drop (end - start) (drop start cells) in
          let n : end - start ≡ total size ms = omega arith in
          let long : length part ≡ total size ms = ap length u ∙ length-take-le (end - start) (drop start cells) (omega (arith, length-drop start cells, done_room)) ∙ n in
          let halves : drop start cells ≡ part ++ back = sym (take-append-drop (end - start) (drop start cells)) ∙ ap (λ l. l ++ back) (sym u) in
          let here : stages size stage ms row (drop start cells) ≡ record { row = new_row; cells = new ++ back } =
          ap (stages size stage ms row) halves
          ∙ stages_beyond size stage ms row part back (sym long)
          ∙ ap₂ (λ a b. record { row = a; cells = b ++ back }) (sym s) (sym t) in
          let so : stages size stage (d.done ++ ms) row₀ cells₀ ≡ record { row = new_row; cells = take start cells ++ (new ++ back) } =
          stages_then size stage (length row₀) keeps d.done ms row₀ cells₀ refl front-room
          ∙ ap₂ (λ a b. record { row = (stages size stage ms a (drop (total size d.done) b)).row; cells = take (total size d.done) b ++ (stages size stage ms a (drop (total size d.done) b)).cells }) (sym d.row_is) (sym d.cells_are)
          ∙ ap (λ i. record { row = (stages size stage ms row (drop i cells)).row; cells = take i cells ++ (stages size stage ms row (drop i cells)).cells }) (sym d.placed)
          ∙ ap (λ (w : Worked). record { row = w.row; cells = take start cells ++ w.cells }) here in
          record {
            done = d.done ++ ms;
            all = with-group;
            row_is = sym (ap (λ (w : Worked). w.row) so);
            cells_are = sym (ap (λ (w : Worked). w.cells) so);
            placed = p ∙ omega (arith, d.placed, total_append size d.done ms);
            counted =
                omega (arith, d.counted, ap (λ i. length row₀ * i) (total_append cost d.done ms), mul-add (length row₀) (total cost d.done) (total cost ms));
          }
