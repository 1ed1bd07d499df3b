-- The claim of document 01 about the whole list of calls: from an accepted start, the k-th accepted call leaves grown row k - 1 of the
-- exact sums; which calls are accepted, and that all grown rows can be had.
-- Assumes nothing.
use mathlib.Core.Path.{◌≡◌, refl, sym, ap, ap₂, subst, ◌∙◌}
use mathlib.Core.Bool.{Bool, false, not, ◌||◌}
use mathlib.Core.List.{List, [], ◌∷◌, ◌++◌, append-nil, append_assoc}
use Prim.Native.Nat.{ℕ, zero, suc, ◌+◌, ◌*◌, ◌^◌, ◌≤◌, ◌<◌}
use native.Mathlib.Nat.{le_trans, le_of_eq, add-zero, zero-add}
use native.Mathlib.Omega.{arith}
use lib.Dec.{leb, ltb}
use lib.ListN.{length, get_or, drop, length-append, replicate}
use borrow.Author.Tests.{lt-ltb, le-ltb, lt-leb, eq-eqb, ltb-false}
use Rattle.spec.specs.Words.{tab, part}
use Rattle.spec.specs.declared.Filter.{Filter}
use Rattle.spec.specs.Recipe.{Recipe, recipe, gain, order}
use Rattle.spec.specs.Picture.{Picture, largest_gray, Within, full_width_of, full_height_of, full_row}
use Rattle.spec.specs.Stream.{stream_cells}
use Rattle.spec.specs.Refusals.{Check, check, first, either, bad_state, row_not_due, drain_not_due, other_pixels, other_output, too_few_cells, size_checks, start_checks, row_checks, drain_checks}
use Rattle.laws.proofs.Lists.{length_tab, tab_agree, length_part}
use Rattle.laws.proofs.Refusals.{Accepted, lent_refused, lent_accepted, none_both, first_none, size_numbered, is_sized}
use Rattle.laws.proofs.Exact.{line}
use Rattle.stream.specs.declared.calls.State.{State}
use Rattle.stream.specs.Stages.{entering}
use Rattle.stream.specs.Calls.{Called, state_at, state_of, next, steps, answers, push, drain, Began, start, started}
use Rattle.rows.specs.Runs.{Call, a_row, a_drain, answer_of, Yielded, run, Carried, carried, row_of, rows, outputs, is_row, kinds, picture_row, whole}
use Rattle.rows.specs.OnePass.{accepted_calls, left, FirstRows, OnePass, OnePassClaim}
use Rattle.stream.proofs.States.{bad_late, row_ready, drain_ready}
use Rattle.rows.proofs.Yield.{Honest, row_yielded, cells_length, cells_honest, entering_row, entering_black, start_honest}

-- ---- one call

-- the checks of a call, its pixels and what its output held
checks : Call → State → List ℕ → List Check
checks (a_row pixels out) s cells = row_checks (state_of s) (length pixels) (length out) (length cells)
checks (a_drain out) s cells = drain_checks (state_of s) (length out) (length cells)

pixels_of : Call → List ℕ
pixels_of (a_row pixels out) = pixels
pixels_of (a_drain out) = []

out_of : Call → List ℕ
out_of (a_row pixels out) = out
out_of (a_drain out) = out

answer_is : (c : Call) (s : State) (cells : List ℕ) → answer_of c s cells ≡ answers (checks c s cells) s (pixels_of c) (out_of c) cells
unfolding answer_of push drain checks pixels_of out_of
answer_is (a_row pixels out) s cells = refl
answer_is (a_drain out) s cells = refl

-- what an accepted call makes
yields : Call → State → List ℕ → Called
yields c s cells = steps s (entering (recipe s.filter) s.width (pixels_of c)) cells

module _ (c : Call) (s : State) (cells : List ℕ) where
  is_yielded : first (checks c s cells) ≡ 0 → answer_of c s cells ≡ yields c s cells
  unfolding answers yields
  is_yielded e = answer_is c s cells ∙ lent_accepted (checks c s cells) _ _ e

  refused : (n : ℕ) → first (checks c s cells) ≡ n → (n ≡ 0 → ⊥)
      → answer_of c s cells ≡ record { number = first (checks c s cells); state = s; count = 0; out = out_of c; cells = cells }
  unfolding answers
  refused n e h = answer_is c s cells ∙ lent_refused (checks c s cells) _ _ n e h

  number_is : (answer_of c s cells).number ≡ first (checks c s cells)
  unfolding yields steps
  number_is = go (first (checks c s cells)) refl
    where
      go : (k : ℕ) → first (checks c s cells) ≡ k → (answer_of c s cells).number ≡ first (checks c s cells)
      go zero z = ap (λ (a : Called). a.number) (is_yielded z) ∙ sym z
      go (suc k) z = ap (λ (a : Called). a.number) (refused (suc k) z (λ q. omega arith))

  -- an accepted call counts one row more
  pub next_state : (answer_of c s cells).number ≡ 0 → (answer_of c s cells).state ≡ next s
  unfolding yields steps
  next_state e = ap (λ (a : Called). a.state) (is_yielded (sym number_is ∙ e))

  module _ (cs : List Call) where
    run-accepted : first (checks c s cells) ≡ 0
        → run (c ∷ cs) s cells ≡ record { call = c; out = (yields c s cells).out } ∷ run cs (yields c s cells).state (yields c s cells).cells
    unfolding run yields steps either
    run-accepted e = ap after (is_yielded e)
      where
        after : Called → List Yielded
        after a = either a.number (record { call = c; out = a.out } ∷ run cs a.state a.cells) (run cs a.state a.cells)

    run-refused : (n : ℕ) → first (checks c s cells) ≡ n → (n ≡ 0 → ⊥) → run (c ∷ cs) s cells ≡ run cs s cells
    unfolding run either
    run-refused zero e h = absurd (h refl)
    run-refused (suc n) e h = ap after (refused (suc n) e h) ∙ ap (λ k. either k (record { call = c; out = out_of c } ∷ run cs s cells) (run cs s cells)) e
      where
        after : Called → List Yielded
        after a = either a.number (record { call = c; out = a.out } ∷ run cs a.state a.cells) (run cs a.state a.cells)

    carried-accepted : first (checks c s cells) ≡ 0 → carried (c ∷ cs) s cells ≡ carried cs (yields c s cells).state (yields c s cells).cells
    unfolding carried
    carried-accepted e = ap (λ (a : Called). carried cs a.state a.cells) (is_yielded e)

    carried-refused : (n : ℕ) → first (checks c s cells) ≡ n → (n ≡ 0 → ⊥) → carried (c ∷ cs) s cells ≡ carried cs s cells
    unfolding carried
    carried-refused n e h = ap (λ (a : Called). carried cs a.state a.cells) (refused n e h)

-- ---- all calls, for one recipe and one picture

module _ (f : Filter) (p : Picture) where
  r : Recipe
  r = recipe f

  -- the state after e accepted calls
  abbrev at : ℕ → State
  at e = state_at f p.width p.height e

  -- an accepted row call is due, and its row has the picture's width; an accepted drain comes after all rows
  row_due : (e : ℕ) (pixels out cells : List ℕ) → first (checks (a_row pixels out) (at e) cells) ≡ 0 → e < p.height
  unfolding checks state_of
  row_due e pixels out cells z = (row_ready (state_of (at e)) (length pixels) (length out) (length cells) z).2

  drain_due : (e : ℕ) (out cells : List ℕ) → first (checks (a_drain out) (at e) cells) ≡ 0 → (p.height ≤ e) × (e < full_height_of r p.height)
  unfolding checks state_of r
  drain_due e out cells z =
      let k = drain_ready (state_of (at e)) (length out) (length cells) z in
      (k.1, k.0.due)

  row_height : p.height ≤ full_height_of r p.height
  unfolding full_height_of
  row_height = omega arith

  step : (e k : ℕ) → e + 1 + k ≡ e + suc k
  step e k = omega arith

  run_next : (c : Call) (cs : List Call) (e : ℕ) (cells : List ℕ) → first (checks c (at e) cells) ≡ 0
      → run (c ∷ cs) (at e) cells ≡ record { call = c; out = (yields c (at e) cells).out } ∷ run cs (at (e + 1)) (yields c (at e) cells).cells
  unfolding yields steps next
  run_next c cs e cells z = run-accepted c (at e) cells cs z

  carried_next : (c : Call) (cs : List Call) (e : ℕ) (cells : List ℕ) → first (checks c (at e) cells) ≡ 0
      → carried (c ∷ cs) (at e) cells ≡ carried cs (at (e + 1)) (yields c (at e) cells).cells
  unfolding yields steps next
  carried_next c cs e cells z = carried-accepted c (at e) cells cs z

  -- what holds of the accepted calls after an accepted call and after a refused one
  by_answer : (c : Call) (cs : List Call) (e : ℕ) (cells : List ℕ) (P : List Yielded → Type 0)
      → (first (checks c (at e) cells) ≡ 0
      → P (record { call = c; out = (yields c (at e) cells).out } ∷ run cs (at (e + 1)) (yields c (at e) cells).cells))
      → P (run cs (at e) cells) → P (run (c ∷ cs) (at e) cells)
  by_answer c cs e cells P took kept = go (first (checks c (at e) cells)) refl
    where
      go : (k : ℕ) → first (checks c (at e) cells) ≡ k → P (run (c ∷ cs) (at e) cells)
      go zero z = subst P (sym (run_next c cs e cells z)) (took z)
      go (suc k) z = subst P (sym (run-refused c (at e) cells cs (suc k) z (λ q. omega arith))) kept

  -- no row call is accepted once all rows are in
  no_rows : (cs : List Call) (e : ℕ) (cells : List ℕ) → p.height ≤ e → rows (run cs (at e) cells) ≡ []
  unfolding run rows row_of
  no_rows [] e cells h = refl
  no_rows (a_row pixels out ∷ cs) e cells h =
      by_answer (a_row pixels out) cs e cells (λ ys. rows ys ≡ []) (λ z. absurd (omega (arith, row_due e pixels out cells z))) (no_rows cs e cells h)
  no_rows (a_drain out ∷ cs) e cells h =
      by_answer (a_drain out) cs e cells (λ ys. rows ys ≡ []) (λ z. no_rows cs (e + 1) _ (omega arith)) (no_rows cs e cells h)

  module _ (pos : 0 < gain r) (light : gain r ≤ 2 ^ 44) (most : ℕ) (few : most ≤ 65535) (small : Within most p) where
    -- the exact row of an accepted call, and honest cells after it
    yields-row : (c : Call) (e : ℕ) (cells : List ℕ) → entering r p.width (pixels_of c) ≡ tab (full_width_of r p.width) (line p e) → Honest r p e cells
        → ((yields c (at e) cells).out ≡ full_row r p e) × Honest r p (e + 1) (yields c (at e) cells).cells
    unfolding yields steps r
    yields-row c e cells d h =
        (row_yielded r p pos light most few small e _ cells d h, cells_honest r p pos light most few small e _ cells d h)

    -- the claim, from e accepted calls on
    Claim : ℕ → List Yielded → Type 0
    Claim e ys = rows ys ≡ tab (length (rows ys)) (λ k. picture_row p (e + k)) → outputs ys ≡ tab (length ys) (λ k. full_row r p (e + k))

    -- one accepted call more
    claim-more : (e : ℕ) (c : Call) (out : List ℕ) (ys : List Yielded) → out ≡ full_row r p e → Claim (e + 1) ys
        → rows ys ≡ tab (length (rows ys)) (λ k. picture_row p (e + 1 + k))
        → outputs (record { call = c; out = out } ∷ ys) ≡ tab (length (record { call = c; out = out } ∷ ys)) (λ k. full_row r p (e + k))
    unfolding outputs tab Claim
    claim-more e c out ys d next given =
        ap₂ ◌∷◌ (d ∙ ap (full_row r p) (sym (add-zero e)))
        (next given ∙ tab_agree (length ys) (λ k. full_row r p (e + 1 + k)) (λ k. full_row r p (e + suc k)) (λ k h. ap (full_row r p) (step e k)))

    claim-accepted : (c : Call) (e : ℕ) (cells : List ℕ) (ys : List Yielded) → first (checks c (at e) cells) ≡ 0 → Honest r p e cells
        → (p.height ≤ e → rows ys ≡ []) → (Honest r p (e + 1) (yields c (at e) cells).cells → Claim (e + 1) ys)
        → Claim e (record { call = c; out = (yields c (at e) cells).out } ∷ ys)
    unfolding Claim rows row_of tab pixels_of
    claim-accepted (a_row pixels out) e cells ys z h late next given =
        let is : pixels ≡ picture_row p e = ap (λ l. get_or l 0 []) given ∙ ap (picture_row p) (add-zero e) in
        let rest : rows ys ≡ tab (length (rows ys)) (λ k. picture_row p (e + 1 + k)) =
        ap (drop 1) given
        ∙ tab_agree (length (rows ys)) (λ k. picture_row p (e + suc k)) (λ k. picture_row p (e + 1 + k)) (λ k l. ap (picture_row p) (sym (step e k))) in
        let enters = ap (entering r p.width) is ∙ entering_row r p e (row_due e pixels out cells z) in
        let made = yields-row (a_row pixels out) e cells enters h in
        claim-more e (a_row pixels out) _ ys made.0 (next made.1) rest
    claim-accepted (a_drain out) e cells ys z h late next given =
        let made = yields-row (a_drain out) e cells (entering_black r p e (drain_due e out cells z).0) h in
        let none = late (drain_due e out cells z).0 in
        let rest : rows ys ≡ tab (length (rows ys)) (λ k. picture_row p (e + 1 + k)) =
        none ∙ ap (λ l. tab (length l) (λ k. picture_row p (e + 1 + k))) (sym none) in
        claim-more e (a_drain out) _ ys made.0 (next made.1) rest

    claim : (cs : List Call) (e : ℕ) (cells : List ℕ) → Honest r p e cells → Claim e (run cs (at e) cells)
    unfolding Claim run outputs tab
    claim [] e cells h = λ given. refl
    claim (c ∷ cs) e cells h =
        by_answer c cs e cells (Claim e)
        (λ z. claim-accepted c e cells _ z h (λ k. no_rows cs (e + 1) _ (omega arith)) (claim cs (e + 1) _))
        (claim cs e cells h)

  -- ---- which calls are accepted

  -- as many as there are grown rows at most: first row calls, as many as the picture has rows, then drains
  module _ (e : ℕ) (ys : List Yielded) where
    InTurn : Type 0
    InTurn = (kinds ys ≡ tab (length ys) (λ k. ltb (e + k) p.height)) × (e + length ys ≤ full_height_of r p.height)

  in_turn : (cs : List Call) (e : ℕ) (cells : List ℕ) → e ≤ full_height_of r p.height → InTurn e (run cs (at e) cells)
  unfolding InTurn run kinds is_row tab
  in_turn [] e cells h = (refl, omega arith)
  in_turn (c ∷ cs) e cells h =
      by_answer c cs e cells (InTurn e) (λ z.
      let rest = (yields c (at e) cells).cells in
      more c z (yields c (at e) cells).out (run cs (at (e + 1)) rest) (in_turn cs (e + 1) rest (due c z))) (in_turn cs e cells h)
    where
      due : (c : Call) → first (checks c (at e) cells) ≡ 0 → e + 1 ≤ full_height_of r p.height
      due (a_row pixels out) z = omega (arith, row_due e pixels out cells z, row_height)
      due (a_drain out) z = omega (arith, (drain_due e out cells z).1)

      kind : (c : Call) → first (checks c (at e) cells) ≡ 0 → is_row c ≡ ltb e p.height
      kind (a_row pixels out) z = sym (lt-ltb e p.height (row_due e pixels out cells z))
      kind (a_drain out) z = sym (le-ltb e p.height (drain_due e out cells z).0)

      more : (c : Call) → first (checks c (at e) cells) ≡ 0 → (out : List ℕ) (ys : List Yielded) → InTurn (e + 1) ys
          → InTurn e (record { call = c; out = out } ∷ ys)
      more c z out ys i = (
        ap₂ ◌∷◌ (kind c z ∙ ap (λ k. ltb k p.height) (sym (add-zero e)))
            (i.0 ∙ tab_agree (length ys) (λ k. ltb (e + 1 + k) p.height) (λ k. ltb (e + suc k) p.height) (λ k h. ap (λ j. ltb j p.height) (step e k))),
        omega (arith, i.1),
      )

  entered : (c : Call) → length (entering r p.width (pixels_of c)) ≡ full_width_of r p.width
  unfolding entering
  entered c = length_tab (full_width_of r p.width) (λ i. get_or (pixels_of c) i 0)

  still : (c : Call) (e : ℕ) (cells : List ℕ) → stream_cells r p.width ≤ length cells → length (yields c (at e) cells).cells ≡ length cells
  unfolding yields steps r
  still c e cells h = cells_length r p e _ cells (entered c) h

  -- the state that is carried on has counted them, and the cells are as many as they were
  record Counted (e : ℕ) (cells : List ℕ) (ys : List Yielded) (k : Carried) : Type 0 where
    state : k.state ≡ at (e + length ys)
    size : length k.cells ≡ length cells

  counted : (cs : List Call) (e : ℕ) (cells : List ℕ) → stream_cells r p.width ≤ length cells
      → Counted e cells (run cs (at e) cells) (carried cs (at e) cells)
  unfolding run carried
  counted [] e cells h = record { state = ap at (sym (add-zero e)); size = refl }
  counted (c ∷ cs) e cells h = go (first (checks c (at e) cells)) refl (counted cs e cells h) (λ d l. counted cs (e + 1) d l)
    where
      go : (k : ℕ) → first (checks c (at e) cells) ≡ k → Counted e cells (run cs (at e) cells) (carried cs (at e) cells)
          → ((d : List ℕ) → stream_cells r p.width ≤ length d → Counted (e + 1) d (run cs (at (e + 1)) d) (carried cs (at (e + 1)) d))
          → Counted e cells (run (c ∷ cs) (at e) cells) (carried (c ∷ cs) (at e) cells)
      go zero z kept took =
          let new = (yields c (at e) cells).cells in
          let same = still c e cells h in
          let rest = took new (le_trans h (le_of_eq (sym same))) in
          subst (λ ys. Counted e cells ys (carried (c ∷ cs) (at e) cells)) (sym (run_next c cs e cells z))
          (subst (Counted e cells _) (sym (carried_next c cs e cells z))
          (record { state = rest.state ∙ ap at (step e (length (run cs (at (e + 1)) new))); size = rest.size ∙ same }))
      go (suc k) z kept took =
          subst (λ ys. Counted e cells ys (carried (c ∷ cs) (at e) cells)) (sym (run-refused c (at e) cells cs (suc k) z (λ q. omega arith)))
          (subst (Counted e cells (run cs (at e) cells)) (sym (carried-refused c (at e) cells cs (suc k) z (λ q. omega arith))) kept)

  module _ (good : first (size_checks r p.width p.height) ≡ 0) where
    -- the number of a call after e accepted ones: neither 9 nor 8 can hold
    module _ (e : ℕ) (in-time : e ≤ full_height_of r p.height) (cells : List ℕ) (enough : stream_cells r p.width ≤ length cells) where
      sound : bad_state (state_of (at e)) ≡ false
      unfolding state_of r
      sound = bad_late (state_of (at e)) good ∙ le-ltb (full_height_of r p.height) e in-time

      many : too_few_cells (length cells) (stream_cells r p.width) ≡ false
      unfolding too_few_cells
      many = le-ltb (length cells) (stream_cells r p.width) enough

      row_number : (pixels out : List ℕ) → first (checks (a_row pixels out) (at e) cells)
          ≡ first (check (leb p.height e) 10 ∷ check (other_pixels (length pixels) p.width) 6 ∷ check (other_output (length out) (full_width_of r p.width)) 7 ∷ [])
      unfolding checks row_checks row_not_due first check state_of r
      row_number pixels out = rw (sound, many) refl

      drain-number : (out : List ℕ) → first (checks (a_drain out) (at e) cells)
          ≡ first (check (ltb e p.height || leb (full_height_of r p.height) e) 10 ∷ check (other_output (length out) (full_width_of r p.width)) 7 ∷ [])
      unfolding checks drain_checks drain_not_due first check state_of r
      drain-number out = rw (sound, many) refl

  -- ---- all grown rows can be had

  -- calls that are accepted one after the other, whatever the cells hold, as long as there are enough
  abbrev Due : ℕ → List Call → Type 0
  Due e [] = Unit {0}
  Due e (c ∷ cs) = ((cells : List ℕ) → stream_cells r p.width ≤ length cells → first (checks c (at e) cells) ≡ 0) × Due (e + 1) cs

  given : List Call → List (List ℕ)
  given [] = []
  given (c ∷ cs) = row_of c ++ given cs

  record All (cs : List Call) (ys : List Yielded) : Type 0 where
    many : length ys ≡ length cs
    rowsIn : rows ys ≡ given cs

  due_all : (cs : List Call) (e : ℕ) (cells : List ℕ) → Due e cs → stream_cells r p.width ≤ length cells → All cs (run cs (at e) cells)
  unfolding run given rows
  due_all [] e cells d h = record { many = refl; rowsIn = refl }
  due_all (c ∷ cs) e cells d h =
      let z = d.0 cells h in
      let rest = due_all cs (e + 1) (yields c (at e) cells).cells d.1 (le_trans h (le_of_eq (sym (still c e cells h)))) in
      subst (All (c ∷ cs)) (sym (run_next c cs e cells z))
      (record { many = ap suc rest.many; rowsIn = ap (λ l. row_of c ++ l) rest.rowsIn })

  due_append : (cs ds : List Call) (e : ℕ) → Due e cs → Due (e + length cs) ds → Due e (cs ++ ds)
  due_append [] ds e d g = subst (λ k. Due k ds) (add-zero e) g
  due_append (c ∷ cs) ds e d g = (d.0, due_append cs ds (e + 1) d.1 (subst (λ k. Due k ds) (sym (step e (length cs))) g))

  given_append : (cs ds : List Call) → given (cs ++ ds) ≡ given cs ++ given ds
  unfolding given
  given_append [] ds = refl
  given_append (c ∷ cs) ds = ap (λ l. row_of c ++ l) (given_append cs ds) ∙ sym (append_assoc (row_of c) (given cs) (given ds))

  given_rows : (m : ℕ) (g o : ℕ → List ℕ) → given (tab m (λ k. a_row (g k) (o k))) ≡ tab m g
  unfolding given tab row_of
  given_rows zero g o = refl
  given_rows (suc m) g o = ap (λ l. g 0 ∷ l) (given_rows m (λ k. g (suc k)) (λ k. o (suc k)))

  given_drains : (m : ℕ) (o : ℕ → List ℕ) → given (tab m (λ k. a_drain (o k))) ≡ []
  unfolding given tab row_of
  given_drains zero o = refl
  given_drains (suc m) o = given_drains m (λ k. o (suc k))

  module _ (good : first (size_checks r p.width p.height) ≡ 0) (outs : ℕ → List ℕ) (wide : (k : ℕ) → length (outs k) ≡ full_width_of r p.width) where
    same : (k : ℕ) → other_output (length (outs k)) (full_width_of r p.width) ≡ false
    unfolding other_output
    same k = ap not (eq-eqb (length (outs k)) (full_width_of r p.width) (wide k))

    row_ok : (e : ℕ) → e < p.height → (cells : List ℕ) → stream_cells r p.width ≤ length cells
        → first (checks (a_row (picture_row p e) (outs e)) (at e) cells) ≡ 0
    unfolding first check other_pixels picture_row
    row_ok e h cells l =
        row_number good e (omega (arith, row_height)) cells l (picture_row p e) (outs e)
        ∙ simp (lt-leb p.height e h, eq-eqb (length (part (e * p.width) p.width p.pixels)) p.width (length_part (e * p.width) p.width p.pixels), same e)

    drain-ok : (e : ℕ) → p.height ≤ e → e < full_height_of r p.height → (cells : List ℕ) → stream_cells r p.width ≤ length cells
        → first (checks (a_drain (outs e)) (at e) cells) ≡ 0
    unfolding first check
    drain-ok e h g cells l =
        drain-number good e (omega arith) cells l (outs e) ∙ simp (le-ltb e p.height h, lt-leb (full_height_of r p.height) e g, same e)

    -- a list of calls made by a rule
    due-tab : (m e : ℕ) (g : ℕ → Call)
        → ((k : ℕ) → k < m → (cells : List ℕ) → stream_cells r p.width ≤ length cells → first (checks (g k) (at (e + k)) cells) ≡ 0)
        → Due e (tab m g)
    unfolding tab
    due-tab zero e g h = tt
    due-tab (suc m) e g h = (
      λ cells l. ap (λ k. first (checks (g 0) (at k) cells)) (sym (add-zero e)) ∙ h 0 (omega arith) cells l,
      due-tab m (e + 1) (λ k. g (suc k)) (λ k u cells l. ap (λ j. first (checks (g (suc k)) (at j) cells)) (step e k) ∙ h (suc k) (omega arith) cells l),
    )

    whole-due : Due 0 (whole p (order r.columns) outs)
    unfolding whole full_height_of
    whole-due =
        due_append (tab p.height (λ j. a_row (picture_row p j) (outs j))) _ 0
        (due-tab p.height 0 (λ j. a_row (picture_row p j) (outs j))
        (λ k h cells l. ap (λ j. first (checks (a_row (picture_row p k) (outs k)) (at j) cells)) (zero-add k) ∙ row_ok k h cells l))
        (subst (λ e. Due e (tab (order r.columns) (λ k. a_drain (outs (p.height + k)))))
        (sym (ap (λ n. 0 + n) (length_tab p.height (λ j. a_row (picture_row p j) (outs j))) ∙ zero-add p.height))
        (due-tab (order r.columns) p.height (λ k. a_drain (outs (p.height + k))) (λ k h cells l. drain-ok (p.height + k) (omega arith) (omega arith) cells l)))

    whole-given : given (whole p (order r.columns) outs) ≡ tab p.height (picture_row p)
    unfolding whole
    whole-given =
        given_append (tab p.height (λ j. a_row (picture_row p j) (outs j))) (tab (order r.columns) (λ k. a_drain (outs (p.height + k))))
        ∙ ap₂ ◌++◌ (given_rows p.height (picture_row p) outs) (given_drains (order r.columns) (λ k. outs (p.height + k)))
        ∙ append-nil (tab p.height (picture_row p))

    whole_length : length (whole p (order r.columns) outs) ≡ full_height_of r p.height
    unfolding whole full_height_of
    whole_length =
        length-append (tab p.height (λ j. a_row (picture_row p j) (outs j))) (tab (order r.columns) (λ k. a_drain (outs (p.height + k))))
        ∙ ap₂ ◌+◌ (length_tab p.height (λ j. a_row (picture_row p j) (outs j))) (length_tab (order r.columns) (λ k. a_drain (outs (p.height + k))))

-- ---- a list of calls, and others after it

pub carried_append : (cs ds : List Call) (s : State) (cells : List ℕ)
    → carried (cs ++ ds) s cells ≡ carried ds (carried cs s cells).state (carried cs s cells).cells
unfolding carried
carried_append [] ds s cells = refl
carried_append (c ∷ cs) ds s cells = carried_append cs ds (answer_of c s cells).state (answer_of c s cells).cells

pub run_append : (cs ds : List Call) (s : State) (cells : List ℕ)
    → run (cs ++ ds) s cells ≡ run cs s cells ++ run ds (carried cs s cells).state (carried cs s cells).cells
unfolding run carried either
run_append [] ds s cells = refl
run_append (c ∷ cs) ds s cells =
    go a.number (run cs a.state a.cells) (run ds (carried cs a.state a.cells).state (carried cs a.state a.cells).cells) (run_append cs ds a.state a.cells)
  where
    a : Called
    a = answer_of c s cells

    go : (n : ℕ) {xs : List Yielded} (ys zs : List Yielded) → xs ≡ ys ++ zs
        → either n (record { call = c; out = a.out } ∷ xs) xs ≡ either n (record { call = c; out = a.out } ∷ ys) ys ++ zs
    go zero ys zs e = ap (λ l. record { call = c; out = a.out } ∷ l) e
    go (suc n) ys zs e = e

pub rows_append : (ys zs : List Yielded) → rows (ys ++ zs) ≡ rows ys ++ rows zs
unfolding rows
rows_append [] zs = refl
rows_append (y ∷ ys) zs = ap (λ l. row_of y.call ++ l) (rows_append ys zs) ∙ sym (append_assoc (row_of y.call) (rows ys) (rows zs))

pub outputs_append : (ys zs : List Yielded) → outputs (ys ++ zs) ≡ outputs ys ++ outputs zs
unfolding outputs
outputs_append [] zs = refl
outputs_append (y ∷ ys) zs = ap (λ l. y.out ∷ l) (outputs_append ys zs)

pub length_outputs : (ys : List Yielded) → length (outputs ys) ≡ length ys
unfolding outputs
length_outputs [] = refl
length_outputs (y ∷ ys) = ap suc (length_outputs ys)

-- ---- the claim

-- so many rows of the picture, as the calls' own number of rows
pub first_rows : (p : Picture) (ys : List Yielded) (n : ℕ) → rows ys ≡ tab n (picture_row p) → FirstRows p ys
first_rows p ys n e = e ∙ ap (λ m. tab m (picture_row p)) (sym (ap length e ∙ length_tab n (picture_row p)))

-- From an accepted start of a picture's sides, with any cells.
module _ (f : Filter) (p : Picture) (cells : List ℕ) (begins : first (start_checks (recipe f) p.width p.height (length cells)) ≡ 0) where
  needed : ℕ
  needed = stream_cells (recipe f) p.width

  asked : (first (size_checks (recipe f) p.width p.height) ≡ 0) × (needed ≤ length cells)
  unfolding start_checks too_few_cells needed
  asked =
      let both = none_both (size_checks (recipe f) p.width p.height) _ (size_numbered (recipe f) p.width p.height) begins in
      let eight = first_none (ltb (length cells) (stream_cells (recipe f) p.width)) 7 _ both.1 in
      (both.0, ltb-false (length cells) (stream_cells (recipe f) p.width) eight.0)

  good : Accepted (recipe f)
  good = (is_sized (recipe f) p.width p.height asked.0).0

  -- the cells that the start leaves
  ready : List ℕ
  ready = replicate needed 0 ++ drop needed cells

  pub accepted_start : start f p.width p.height cells ≡ started f p.width p.height cells
  unfolding start
  accepted_start = lent_accepted _ _ _ begins

  runs : (calls : List Call) → accepted_calls f p cells calls ≡ run calls (at f p 0) ready
  unfolding accepted_calls started ready needed
  runs calls = ap (λ (b : Began). run calls b.state b.cells) accepted_start

  leaves : (calls : List Call) → left f p cells calls ≡ carried calls (at f p 0) ready
  unfolding left started ready needed
  leaves calls = ap (λ (b : Began). carried calls b.state b.cells) accepted_start

  honest : Honest (recipe f) p 0 ready
  unfolding ready needed
  honest = start_honest (recipe f) p good.not_zero cells asked.1

  from_zero : (A : Type 0) (n : ℕ) (g : ℕ → A) → tab n (λ k. g (0 + k)) ≡ tab n g
  from_zero A n g = tab_agree n (λ k. g (0 + k)) g (λ k h. ap g (zero-add k))

  exact_so : Within largest_gray p → (calls : List Call) → let ys = run calls (at f p 0) ready in
      FirstRows p ys → outputs ys ≡ tab (length ys) (full_row (recipe f) p)
  unfolding Claim r
  exact_so small calls given =
      let ys = run calls (at f p 0) ready in
      claim f p good.not_zero good.light largest_gray (omega arith) small calls 0 ready honest (given ∙ sym (from_zero (List ℕ) (length (rows ys)) (picture_row p)))
      ∙ from_zero (List ℕ) (length ys) (full_row (recipe f) p)

  turn_so : (calls : List Call) → let ys = run calls (at f p 0) ready in
      (kinds ys ≡ tab (length ys) (λ k. ltb k p.height)) × (length ys ≤ full_height_of (recipe f) p.height)
  unfolding InTurn r
  turn_so calls =
      let ys = run calls (at f p 0) ready in
      let i = in_turn f p calls 0 ready (omega arith) in
      (i.0 ∙ from_zero Bool (length ys) (λ k. ltb k p.height), omega (arith, i.1))

  -- the state and the cells after a list of calls
  after : (calls : List Call) → let ys = run calls (at f p 0) ready in let k = carried calls (at f p 0) ready in
      (k.state ≡ at f p (length ys)) × (needed ≤ length k.cells)
  unfolding r needed
  after calls =
      let ys = run calls (at f p 0) ready in
      let k = counted f p calls 0 ready honest.enough in
      (k.state ∙ ap (at f p) (zero-add (length ys)), le_trans honest.enough (le_of_eq (sym k.size)))

  number_so : (calls : List Call) (c : Call) → let k = left f p cells calls in
      (answer_of c k.state k.cells).number ≡ first (checks c (at f p (length (accepted_calls f p cells calls))) (carried calls (at f p 0) ready).cells)
  number_so calls c =
      number_is c (left f p cells calls).state (left f p cells calls).cells
      ∙ ap (λ (k : Carried). first (checks c k.state k.cells)) (leaves calls)
      ∙ ap (λ t. first (checks c t (carried calls (at f p 0) ready).cells)) ((after calls).0 ∙ ap (λ ys. at f p (length ys)) (sym (runs calls)))

  -- all rows and then ry drains are accepted
  taken : (outs : ℕ → List ℕ) → ((k : ℕ) → length (outs k) ≡ full_width_of (recipe f) p.width)
      → let ys = run (whole p (order (recipe f).columns) outs) (at f p 0) ready in
      (rows ys ≡ tab p.height (picture_row p)) × (length ys ≡ full_height_of (recipe f) p.height)
  unfolding r needed
  taken outs wide =
      let calls = whole p (order (recipe f).columns) outs in
      let all = due_all f p calls 0 ready (whole-due f p asked.0 outs wide) honest.enough in
      (all.rowsIn ∙ whole-given f p asked.0 outs wide, all.many ∙ whole_length f p asked.0 outs wide)

  holds : OnePass f p cells
  unfolding r needed
  holds =
      record {
        exact_rows = λ small calls. subst (λ ys. FirstRows p ys → outputs ys ≡ tab (length ys) (full_row (recipe f) p)) (sym (runs calls)) (exact_so small calls);
        in_turn = λ calls. subst (λ ys. kinds ys ≡ tab (length ys) (λ k. ltb k p.height)) (sym (runs calls)) (turn_so calls).0;
        at_most = most;
        row_number =
            λ calls pixels out.
            number_so calls (a_row pixels out)
            ∙ row_number f p asked.0 (length (accepted_calls f p cells calls)) (most calls) (carried calls (at f p 0) ready).cells (after calls).1 pixels out;
        drain_number =
            λ calls out.
            number_so calls (a_drain out)
            ∙ drain-number f p asked.0 (length (accepted_calls f p cells calls)) (most calls) (carried calls (at f p 0) ready).cells (after calls).1 out;
        rows_taken = λ outs wide. ap rows (runs (whole p (order (recipe f).columns) outs)) ∙ (taken outs wide).0;
        all_rows =
            λ small outs wide.
            let calls = whole p (order (recipe f).columns) outs in
            ap outputs (runs calls)
            ∙ exact_so small calls (first_rows p (run calls (at f p 0) ready) p.height (taken outs wide).0)
            ∙ ap (λ n. tab n (full_row (recipe f) p)) (taken outs wide).1;
      }
    where
      most : (calls : List Call) → length (accepted_calls f p cells calls) ≤ full_height_of (recipe f) p.height
      most calls = subst (λ ys. length ys ≤ full_height_of (recipe f) p.height) (sym (runs calls)) (turn_so calls).1

-- document 01's claim about the whole list of calls
pub one_pass : OnePassClaim
unfolding start
one_pass f p cells z = holds f p cells (go (first (start_checks (recipe f) p.width p.height (length cells))) refl)
  where
    go : (k : ℕ) → first (start_checks (recipe f) p.width p.height (length cells)) ≡ k
        → first (start_checks (recipe f) p.width p.height (length cells)) ≡ 0
    go zero e = e
    go (suc k) e = sym (ap (λ (b : Began). b.number) (lent_refused _ _ _ (suc k) e (λ q. omega arith))) ∙ z
