-- The one pass driven over a picture: by the theorem about the whole list of calls, each call yields the next grown row of exact sums.
-- Assumes nothing.
use mathlib.Core.Path.{◌≡◌, refl, sym, ap, ap₂, subst, ◌∙◌}
use mathlib.Core.Bool.{false}
use mathlib.Core.List.{List, [], ◌∷◌, ◌++◌, append-nil}
use Prim.Native.Nat.{ℕ, suc, ◌+◌, ◌*◌, ◌≤◌, ◌<◌, min}
use native.Mathlib.Omega.{arith}
use lib.ListN.{length, get_or, length-append}
use lib.Seq.{get_or-append-add}
use borrow.Author.Tests.{le-ltb, lt-leb}
use Rattle.spec.specs.declared.Filter.{Filter}
use Rattle.spec.specs.Words.{tab}
use Rattle.spec.specs.Recipe.{recipe}
use Rattle.spec.specs.Picture.{Picture, picture, largest_gray, Within, full_width_of, full_height_of, full_row}
use Rattle.spec.specs.Refusals.{check, first, either, other_pixels, other_output, size_checks, start_checks}
use Rattle.laws.proofs.Lists.{get_d_tab, length_part, tab_more}
use Rattle.laws.proofs.Results.{number_not_zero}
use Rattle.laws.proofs.Refusals.{as_stated, none_both, size_numbered, is_sized}
use Rattle.stream.specs.declared.calls.State.{State}
use Rattle.std.specs.Prelude.{Result, Ok, Err, IsOk}
use Rattle.spec.specs.declared.refusal.Refusal.{Refusal}
use Rattle.stream.specs.declared.calls.Stepped.{Stepped}
use Rattle.stream.specs.declared.calls.Refused.{Refused}
use Rattle.stream.specs.Calls.{state_at, Began, began, start, started, Called, called, next}
use Rattle.rows.specs.Runs.{Call, a_row, a_drain, answer_of, Yielded, run, Carried, carried, row_of, rows, outputs, picture_row}
use Rattle.rows.specs.OnePass.{accepted_calls, left}
use Rattle.rows.proofs.Run.{one_pass, first_rows, accepted_start, length_outputs, next_state, carried_append, run_append, rows_append, outputs_append}
use Rattle.rows.specs.Streaming.{Streamed, Due, Came}

-- an answer without a number is accepted
pub called_ok : (r : Result Stepped Refused) (out cells : List ℕ) → (called r out cells).number ≡ 0 → IsOk r
unfolding called
called_ok (Ok a) out cells z = refl
called_ok (Err e) out cells z = absurd (number_not_zero e.refusal z)

began_ok : (r : Result State Refusal) (cells : List ℕ) → (began r cells).number ≡ 0 → IsOk r
unfolding began
began_ok (Ok s) cells z = refl
began_ok (Err e) cells z = absurd (number_not_zero e z)

module _ (f : Filter) (p : Picture) where
  abbrev at : ℕ → State
  at k = state_at f p.width p.height k

  -- one accepted call more, which gives the picture's next row where one is due
  module _ (k : ℕ) (s : State) (cells : List ℕ) (st : Streamed f p k s cells) (c : Call) where
    module _ (accepted : (answer_of c s cells).number ≡ 0) (next_row : tab (min k p.height) (picture_row p) ++ row_of c ≡ tab (min (k + 1) p.height) (picture_row p)) where
      more : List Call
      more = st.calls ++ c ∷ []

      before : List Yielded
      before = accepted_calls f p st.given st.calls

      yielded : List Yielded
      yielded = record { call = c; out = (answer_of c s cells).out } ∷ []

      ran : accepted_calls f p st.given more ≡ before ++ yielded
      unfolding accepted_calls run either more before yielded left
      ran =
          let b = start f p.width p.height st.given in
          run_append st.calls (c ∷ []) b.state b.cells
          ∙ ap (λ l. accepted_calls f p st.given st.calls ++ l)
          (ap₂ (λ t d. run (c ∷ []) t d) (sym st.state) (sym st.held)
          ∙ ap (λ n. either n (record { call = c; out = (answer_of c s cells).out } ∷ []) []) accepted)

      leaves : left f p st.given more ≡ record { state = (answer_of c s cells).state; cells = (answer_of c s cells).cells }
      unfolding left carried more
      leaves =
          let b = start f p.width p.height st.given in
          carried_append st.calls (c ∷ []) b.state b.cells
          ∙ ap₂ (λ t d. carried (c ∷ []) t d) (sym st.state) (sym st.held)

      counted : length (accepted_calls f p st.given more) ≡ k + 1
      unfolding yielded before
      counted = ap length ran ∙ length-append before yielded ∙ ap (λ n. n + 1) st.many

      given_rows : rows (accepted_calls f p st.given more) ≡ tab (min (k + 1) p.height) (picture_row p)
      unfolding yielded rows before
      given_rows =
          ap rows ran ∙ rows_append before yielded ∙ ap₂ ◌++◌ st.taken (append-nil (row_of c)) ∙ next_row

      one_more : Streamed f p (k + 1) (answer_of c s cells).state (answer_of c s cells).cells
      unfolding next
      one_more =
          record {
            given = st.given;
            calls = more;
            started = st.started;
            state = sym (ap (λ (x : Carried). x.state) leaves);
            held = sym (ap (λ (x : Carried). x.cells) leaves);
            many = counted;
            taken = given_rows;
            sides = st.sides;
            is = next_state c s cells accepted ∙ ap next st.is;
          }

      yields-row : Within largest_gray p → (answer_of c s cells).out ≡ full_row (recipe f) p k
      unfolding yielded outputs before
      yields-row small =
          let ys = accepted_calls f p st.given more in
          let exact = (one_pass f p st.given st.started).exact_rows small more (first_rows p ys (min (k + 1) p.height) given_rows) in
          let inside : k < length ys = omega (arith, counted) in
          let at-end : length (outputs before) + 0 ≡ k = omega (arith, length_outputs before, st.many) in
          sym (get_or-append-add (outputs before) ((answer_of c s cells).out ∷ []) 0 [])
          ∙ ap₂ (λ l n. get_or l n []) (sym (ap outputs ran ∙ outputs_append before yielded)) at-end
          ∙ ap (λ l. get_or l k []) exact
          ∙ get_d_tab (length ys) (full_row (recipe f) p) k [] inside

  -- the next grown row: by a row call while rows of the picture are due, then by a drain
  module _ (k : ℕ) (s : State) (cells : List ℕ) (st : Streamed f p k s cells) (out : List ℕ) (wide : length out ≡ full_width_of (recipe f) p.width) where
    same : other_output (length out) (full_width_of (recipe f) p.width) ≡ false
    unfolding other_output other_pixels
    same = as_stated (length out) (full_width_of (recipe f) p.width) wide

    row-accepted : k < p.height → (answer_of (a_row (picture_row p k) out) s cells).number ≡ 0
    unfolding first check picture_row
    row-accepted h =
        let rows_in = length (accepted_calls f p st.given st.calls) in
        let stated = as_stated (length (picture_row p k)) p.width (length_part (k * p.width) p.width p.pixels) in
        ap₂ (λ t d. (answer_of (a_row (picture_row p k) out) t d).number) st.state st.held
        ∙ (one_pass f p st.given st.started).row_number st.calls (picture_row p k) out
        ∙ simp (st.many, lt-leb p.height k h, stated, same)

    drain-accepted : p.height ≤ k → k < full_height_of (recipe f) p.height → (answer_of (a_drain out) s cells).number ≡ 0
    unfolding first check
    drain-accepted h g =
        ap₂ (λ t d. (answer_of (a_drain out) t d).number) st.state st.held
        ∙ (one_pass f p st.given st.started).drain_number st.calls out
        ∙ simp (st.many, le-ltb k p.height h, lt-leb (full_height_of (recipe f) p.height) k g, same)

    row_follows : k < p.height → tab (min k p.height) (picture_row p) ++ picture_row p k ∷ [] ≡ tab (min (k + 1) p.height) (picture_row p)
    row_follows h =
        let e : min k p.height ≡ k = omega arith in
        let g : suc k ≡ min (k + 1) p.height = omega arith in
        ap (λ n. tab n (picture_row p) ++ picture_row p k ∷ []) e ∙ sym (tab_more k (picture_row p)) ∙ ap (λ n. tab n (picture_row p)) g

    none-follows : p.height ≤ k → tab (min k p.height) (picture_row p) ++ [] ≡ tab (min (k + 1) p.height) (picture_row p)
    none-follows h =
        let e : min k p.height ≡ min (k + 1) p.height = omega arith in
        append-nil (tab (min k p.height) (picture_row p)) ∙ ap (λ n. tab n (picture_row p)) e

    module _ (small : Within largest_gray p) (a : Called) where
      pub row_came : k < p.height → a ≡ answer_of (a_row (picture_row p k) out) s cells
          → (a.number ≡ 0) × Streamed f p (k + 1) a.state a.cells × (a.out ≡ full_row (recipe f) p k)
      unfolding row_of
      row_came h e =
          let c = a_row (picture_row p k) out in
          let ok = row-accepted h in
          let follows = row_follows h in (
            ap (λ (x : Called). x.number) e ∙ ok,
            subst (λ (x : Called). Streamed f p (k + 1) x.state x.cells) (sym e) (one_more k s cells st c ok follows),
            ap (λ (x : Called). x.out) e ∙ yields-row k s cells st c ok follows small,
          )

      pub drain_came : p.height ≤ k → k < full_height_of (recipe f) p.height → a ≡ answer_of (a_drain out) s cells
          → (a.number ≡ 0) × Streamed f p (k + 1) a.state a.cells × (a.out ≡ full_row (recipe f) p k)
      unfolding row_of
      drain_came h g e =
          let c = a_drain out in
          let ok = drain-accepted h g in
          let follows = none-follows h in (
            ap (λ (x : Called). x.number) e ∙ ok,
            subst (λ (x : Called). Streamed f p (k + 1) x.state x.cells) (sym e) (one_more k s cells st c ok follows),
            ap (λ (x : Called). x.out) e ∙ yields-row k s cells st c ok follows small,
          )

  -- an accepted start
  pub has_started : (cells : List ℕ) (r : Result State Refusal) (held : List ℕ) → first (start_checks (recipe f) p.width p.height (length cells)) ≡ 0
      → began r held ≡ start f p.width p.height cells → IsOk r
  unfolding started
  has_started cells r held z e = began_ok r held (ap (λ (b : Began). b.number) (e ∙ accepted_start f p cells z))

  -- its state and its cells
  pub begun : (cells : List ℕ) (s : State) (held : List ℕ) → first (start_checks (recipe f) p.width p.height (length cells)) ≡ 0
      → began (Ok s) held ≡ start f p.width p.height cells → Streamed f p 0 s held
  unfolding began started start_checks accepted_calls run left carried rows tab
  begun cells s held z e =
      let none : min 0 p.height ≡ 0 = omega arith in
      let is = accepted_start f p cells z in
      record {
        given = cells;
        calls = [];
        started = ap (λ (b : Began). b.number) is;
        state = ap (λ (b : Began). b.state) e;
        held = ap (λ (b : Began). b.cells) e;
        many = refl;
        taken = sym (ap (λ n. tab n (picture_row p)) none);
        sides = (is_sized (recipe f) p.width p.height (none_both (size_checks (recipe f) p.width p.height) _ (size_numbered (recipe f) p.width p.height) z).0).1;
        is = ap (λ (b : Began). b.state) (e ∙ is);
      }

-- A row is due for a state, and has come, in the words of the calls that drive the one pass.
module _ (f : Filter) (w h : ℕ) (pixels : List ℕ) (k : ℕ) (s : State) (cells : List ℕ) (st : Streamed f (picture w h pixels) k s cells) where
  pub is_due : (row : List ℕ) → length pixels ≡ w * h → k < full_height_of (recipe f) h → length row ≡ full_width_of (recipe f) w → Due s pixels row cells
  is_due row size due wide =
      subst (λ (t : State). Due t pixels row cells) (sym st.is)
      (record { streamed = subst (λ (t : State). Streamed f (picture w h pixels) k t cells) st.is st; size = size; due = due; wide = wide })

  pub has_come : (t : State) (row held : List ℕ) → Came s t pixels row held
      → Streamed f (picture w h pixels) (k + 1) t held × (row ≡ full_row (recipe f) (picture w h pixels) k)
  has_come t row held c =
      let moved = subst (λ (x : State). Came x t pixels row held) st.is c in
      (moved.streamed, moved.exact)
