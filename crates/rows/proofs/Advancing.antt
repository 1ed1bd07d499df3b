-- The call `advance` by cases, the next grown row by it, and the grown rows that the call `skip` passes over.
-- Assumes nothing.
use mathlib.Core.Path.{◌≡◌, refl, sym, ap, subst, ◌∙◌}
use mathlib.Core.Bool.{Bool, true, false, cond, ◌||◌, true≢false}
use mathlib.Core.List.{List, [], ◌∷◌}
use Prim.Native.Nat.{ℕ, zero, suc, ◌+◌, ◌*◌, ◌≤◌, ◌<◌}
use native.Mathlib.Decide.{dec_lt}
use native.Mathlib.Omega.{arith}
use lib.Dec.{leb, ltb}
use lib.ListN.{length}
use borrow.Author.Tests.{lt-ltb, le-ltb, lt-leb}
use Rattle.spec.specs.declared.Filter.{Filter}
use Rattle.spec.specs.Recipe.{recipe, order}
use Rattle.spec.specs.Picture.{picture, largest_gray, Within, exact, full_width_of, full_height_of, full_row}
use Rattle.spec.specs.Refusals.{Check, check, first, either, lent, bad_state, row_not_due, drain_not_due, other_pixels, start_checks, row_checks, drain_checks}
use Rattle.laws.proofs.Lists.{length_tab}
use Rattle.laws.proofs.Refusals.{lent_refused, lent_accepted, as_stated}
use Rattle.stream.specs.declared.calls.State.{State}
use Rattle.std.specs.Prelude.{Result, Ok, Err, IsOk}
use Rattle.stream.specs.declared.calls.Stepped.{Stepped}
use Rattle.stream.specs.declared.calls.Refused.{Refused}
use Rattle.stream.specs.Stages.{entering}
use Rattle.stream.specs.Calls.{state_of, began, start, Called, called, answers, steps, push, drain}
use Rattle.rows.specs.Runs.{answer_of, picture_row}
use Rattle.rows.specs.Streaming.{Streamed, Due, Came, picture_of}
use Rattle.rows.specs.Advance.{picture_due, next_call, advance, Skipped, skipped, skip}
use Rattle.laws.proofs.Results.{number_not_zero}
use Rattle.rows.proofs.Driving.{called_ok, row_came, drain_came, begun, is_due, has_come}

-- ---- one call by cases

-- a refused call: its number, the given state, and what was lent as it was
abbrev pub refused_call : ℕ → State → List ℕ → List ℕ → Called
refused_call n s out cells = record { number = n; state = s; count = 0; out = out; cells = cells }

answers_refused : (cs : List Check) (s : State) (pixels out cells : List ℕ) (n : ℕ) → first cs ≡ n → (n ≡ 0 → ⊥)
    → answers cs s pixels out cells ≡ refused_call n s out cells
unfolding answers
answers_refused cs s pixels out cells n e h =
    lent_refused cs (steps s (entering (recipe s.filter) s.width pixels) cells) _ n e h ∙ ap (λ k. refused_call k s out cells) e

-- 9 and 10 are asked again by the call that is due, and 6 does not hold
asked_again : (b c d i : Bool) (cs : List Check) (n : ℕ) → d ≡ false → c ≡ i → first (check b 9 ∷ check c 10 ∷ check d 6 ∷ []) ≡ suc n
    → first (check b 9 ∷ check i 10 ∷ cs) ≡ suc n
unfolding first check
asked_again true c d i cs n p q e = e
asked_again false true d true cs n p q e = e
asked_again false true d false cs n p q e = absurd (true≢false q)
asked_again false false d i cs n p q e = absurd (none (ap (λ x. cond x 6 0) p ∙ refl) e)
  where
    none : {k : ℕ} → k ≡ 0 → k ≡ suc n → ⊥
    none z f = omega arith

module _ (s : State) (pixels out cells : List ℕ) where
  pub advance_refused : (n : ℕ) → first (picture_due (state_of s) (length pixels)) ≡ n → (n ≡ 0 → ⊥) → refused_call n s out cells ≡ advance s pixels out cells
  unfolding advance
  advance_refused n e h =
      ap (λ k. refused_call k s out cells) (sym e)
      ∙ sym (lent_refused (picture_due (state_of s) (length pixels)) (next_call s pixels out cells) _ n e h)

  -- a picture slice of another length: 9, 10, or else 6
  pub advance_other : other_pixels (length pixels) (s.width * s.height) ≡ true → (n : ℕ)
      → n ≡ first (check (bad_state (state_of s)) 9 ∷ check (leb (full_height_of (recipe s.filter) s.height) s.emitted) 10 ∷ check true 6 ∷ [])
      → refused_call n s out cells ≡ advance s pixels out cells
  unfolding picture_due state_of first check
  advance_other other n e =
      let full = leb (full_height_of (recipe s.filter) s.height) s.emitted in
      let is = ap (λ b. first (check (bad_state (state_of s)) 9 ∷ check full 10 ∷ check b 6 ∷ [])) other in
      advance_refused n (is ∙ sym e) (λ z. some (bad_state (state_of s)) full (sym e ∙ z))
    where
      some : (b c : Bool) → first (check b 9 ∷ check c 10 ∷ check true 6 ∷ []) ≡ 0 → ⊥
      some true c z = omega arith
      some false true z = omega arith
      some false false z = omega arith

  -- a call that is due, and that is refused where the first checks refuse
  settled : (a : Called) → a ≡ next_call s pixels out cells
      → ((n : ℕ) → first (picture_due (state_of s) (length pixels)) ≡ suc n → a ≡ refused_call (suc n) s out cells) → a ≡ advance s pixels out cells
  unfolding advance
  settled a e h = go (first (picture_due (state_of s) (length pixels))) refl
    where
      go : (n : ℕ) → first (picture_due (state_of s) (length pixels)) ≡ n → a ≡ advance s pixels out cells
      go zero z = e ∙ sym (lent_accepted (picture_due (state_of s) (length pixels)) (next_call s pixels out cells) _ z)
      go (suc n) z = h n z ∙ advance_refused (suc n) z (λ q. omega arith)

  -- by whether rows of the picture are due, with a slice that is the whole picture
  module _ (size : length pixels ≡ s.width * s.height) where
    pub advance_row : s.emitted < s.height → push s (picture_row (picture_of s pixels) s.emitted) out cells ≡ advance s pixels out cells
    unfolding next_call push row_checks row_not_due picture_due state_of full_height_of
    advance_row h =
        let row = picture_row (picture_of s pixels) s.emitted in
        settled _
        (sym (ap (λ c. cond c (push s row out cells) (drain s out cells)) (lt-ltb s.emitted s.height h)))
        (λ n z. answers_refused _ s row out cells (suc n)
        (asked_again (bad_state (state_of s)) _ _ _ _ n (as_stated (length pixels) (s.width * s.height) size)
        (lt-leb (s.height + order (recipe s.filter).columns) s.emitted (omega arith) ∙ sym (lt-leb s.height s.emitted h)) z)
        (λ q. omega arith))

    pub advance_drain : s.height ≤ s.emitted → drain s out cells ≡ advance s pixels out cells
    unfolding next_call drain drain_checks drain_not_due picture_due state_of
    advance_drain h =
        let row = picture_row (picture_of s pixels) s.emitted in
        settled _
        (sym (ap (λ c. cond c (push s row out cells) (drain s out cells)) (le-ltb s.emitted s.height h)))
        (λ n z. answers_refused _ s [] out cells (suc n)
        (asked_again (bad_state (state_of s)) _ _ _ _ n (as_stated (length pixels) (s.width * s.height) size)
        (sym (ap (λ c. c || leb (full_height_of (recipe s.filter) s.height) s.emitted) (le-ltb s.emitted s.height h))) z)
        (λ q. omega arith))

  -- where a grown row is due, it comes
  come : Due s pixels out cells → Within largest_gray (picture_of s pixels) → (a : Called) → a ≡ advance s pixels out cells
      → (a.number ≡ 0) × Came s a.state pixels a.out a.cells
  unfolding answer_of
  come d small a e =
      elim (dec_lt s.emitted s.height) [
        | yes h ↦
            let came =
            row_came s.filter (picture_of s pixels) s.emitted s cells d.streamed out d.wide small a h (e ∙ sym (advance_row d.size h)) in
            (came.0, record { streamed = came.1; exact = came.2 })
        | no h ↦
            let late : s.height ≤ s.emitted = omega arith in
            let came =
            drain_came s.filter (picture_of s pixels) s.emitted s cells d.streamed out d.wide small a late d.due (e ∙ sym (advance_drain d.size late)) in
            (came.0, record { streamed = came.1; exact = came.2 })
      ]

  pub is_advanced : Due s pixels out cells → Within largest_gray (picture_of s pixels) → (r : Result Stepped Refused) (row held : List ℕ)
      → called r row held ≡ advance s pixels out cells → IsOk r
  is_advanced d small r row held e = called_ok r row held (come d small (called r row held) e).0

  pub has_advanced : Due s pixels out cells → Within largest_gray (picture_of s pixels) → (t : Stepped) (row held : List ℕ)
      → called (Ok t) row held ≡ advance s pixels out cells → Came s t.state pixels row held
  unfolding called
  has_advanced d small t row held e = (come d small (called (Ok t) row held) e).1

  -- one call more, which `skip` counts
  pub skip_more : (n m : ℕ) → n ≡ suc m → (t : Stepped) (row held : List ℕ) → called (Ok t) row held ≡ advance s pixels out cells
      → skip n s pixels out cells ≡ skip m t.state pixels row held
  unfolding skip called
  skip_more n m e t row held a =
      ap (λ k. skip k s pixels out cells) e ∙ ap (λ (x : Called). skip m x.state pixels x.out x.cells) (sym a)

-- what a call leaves, but for its number and count
unfoldable pub left : Called → Skipped
left a = record { state = a.state; row = a.out; cells = a.cells }

either_stopped : (n : ℕ) (a b : Called) (x : Skipped) → a.number ≡ 0 → left b ≡ x → ((either n a b).number ≡ 0 → ⊥) → left (either n a b) ≡ x
unfolding either
either_stopped zero a b x p q h = absurd (h p)
either_stopped (suc n) a b x p q h = q

-- a call that is refused leaves all as it was
answer_stopped : (cs : List Check) (s : State) (pixels out cells : List ℕ) → ((answers cs s pixels out cells).number ≡ 0 → ⊥)
    → left (answers cs s pixels out cells) ≡ skipped s out cells
unfolding answers lent steps left skipped
answer_stopped cs s pixels out cells h = either_stopped (first cs) _ _ (skipped s out cells) refl refl h

next_stopped : (s : State) (pixels out cells : List ℕ) → ((next_call s pixels out cells).number ≡ 0 → ⊥)
    → left (next_call s pixels out cells) ≡ skipped s out cells
unfolding next_call push drain
next_stopped s pixels out cells h = by (ltb s.emitted s.height) h
  where
    row : List ℕ
    row = picture_row (picture_of s pixels) s.emitted

    by : (b : Bool) → ((cond b (push s row out cells) (drain s out cells)).number ≡ 0 → ⊥)
        → left (cond b (push s row out cells) (drain s out cells)) ≡ skipped s out cells
    by true g = answer_stopped _ s _ out cells g
    by false g = answer_stopped _ s _ out cells g

pub advance_stopped : (s : State) (pixels out cells : List ℕ) → ((advance s pixels out cells).number ≡ 0 → ⊥)
    → left (advance s pixels out cells) ≡ skipped s out cells
unfolding advance lent either left skipped
advance_stopped s pixels out cells h = go (first (picture_due (state_of s) (length pixels))) h
  where
    go : (n : ℕ) → ((either n (next_call s pixels out cells) (refused_call n s out cells)).number ≡ 0 → ⊥)
        → left (either n (next_call s pixels out cells) (refused_call n s out cells)) ≡ skipped s out cells
    go zero g = next_stopped s pixels out cells g
    go (suc n) g = refl

-- and so does every further one
skip_stopped : (n : ℕ) (s : State) (pixels out cells : List ℕ) → ((advance s pixels out cells).number ≡ 0 → ⊥)
    → skip n s pixels out cells ≡ skipped s out cells
unfolding skip left skipped
skip_stopped zero s pixels out cells h = refl
skip_stopped (suc n) s pixels out cells h =
    ap (λ (x : Skipped). skip n x.state pixels x.row x.cells) (advance_stopped s pixels out cells h)
    ∙ skip_stopped n s pixels out cells h

pub skip_refused : (n : ℕ) (s : State) (pixels out cells : List ℕ) (r : Refused) (row held : List ℕ)
    → called (Err r) row held ≡ advance s pixels out cells → skipped r.state row held ≡ skip n s pixels out cells
unfolding called left skipped
skip_refused n s pixels out cells r row held e =
    let refused : ((advance s pixels out cells).number ≡ 0 → ⊥) = λ z. number_not_zero r.refusal (ap (λ (x : Called). x.number) e ∙ z) in
    ap left e ∙ advance_stopped s pixels out cells refused ∙ sym (skip_stopped n s pixels out cells refused)

-- the next grown row, in the words of those that drive the one pass
module _ (f : Filter) (w h : ℕ) (pixels : List ℕ) (size : length pixels ≡ w * h) (small : Within largest_gray (picture w h pixels)) where
  pub next : (k : ℕ) (s : State) (cells : List ℕ) → Streamed f (picture w h pixels) k s cells → (out : List ℕ) → k < full_height_of (recipe f) h
      → length out ≡ full_width_of (recipe f) w → (a : Called) → a ≡ advance s pixels out cells
      → (a.number ≡ 0) × Streamed f (picture w h pixels) (k + 1) a.state a.cells × (a.out ≡ full_row (recipe f) (picture w h pixels) k)
  next k s cells st out due wide a e =
      let bytes : Within largest_gray (picture_of s pixels) = subst (λ (t : State). Within largest_gray (picture_of t pixels)) (sym st.is) small in
      let all = come s pixels out cells (is_due f w h pixels k s cells st out size due wide) bytes a e in
      let came = has_come f w h pixels k s cells st a.state a.out a.cells all.1 in
      (all.0, came.0, came.1)

  module _ (k : ℕ) (s : State) (cells : List ℕ) (st : Streamed f (picture w h pixels) k s cells) (out : List ℕ) (due : k < full_height_of (recipe f) h)
      (wide : length out ≡ full_width_of (recipe f) w) where
    pub next_ok : (r : Result Stepped Refused) (row held : List ℕ) → called r row held ≡ advance s pixels out cells → IsOk r
    next_ok r row held e = called_ok r row held (next k s cells st out due wide (called r row held) e).0

    pub next_row : (t : Stepped) (row held : List ℕ) → called (Ok t) row held ≡ advance s pixels out cells
        → Streamed f (picture w h pixels) (k + 1) t.state held × (row ≡ full_row (recipe f) (picture w h pixels) k)
    unfolding called
    next_row t row held e = let all = next k s cells st out due wide (called (Ok t) row held) e in (all.1, all.2)

  -- so many rows are passed over, as long as there are so many
  pub has_skipped : (n k : ℕ) (s : State) (row cells : List ℕ) → Streamed f (picture w h pixels) k s cells → k + n ≤ full_height_of (recipe f) h
      → length row ≡ full_width_of (recipe f) w → (t : State) (left held : List ℕ) → skipped t left held ≡ skip n s pixels row cells
      → Streamed f (picture w h pixels) (k + n) t held
  unfolding skip skipped full_row
  has_skipped zero k s row cells st fits wide t left held e =
      let none : k ≡ k + 0 = omega arith in
      subst (λ (x : Skipped). Streamed f (picture w h pixels) (k + 0) x.state x.cells) (sym e)
      (subst (λ m. Streamed f (picture w h pixels) m s cells) none st)
  has_skipped (suc n) k s row cells st fits wide t left held e =
      let a = advance s pixels row cells in
      let came = next k s cells st row (omega arith) wide a refl in
      let long = ap length came.2 ∙ length_tab (full_width_of (recipe f) w) (λ i. exact (recipe f) (picture w h pixels) i k) in
      let more : k + 1 + n ≡ k + suc n = omega arith in
      subst (λ m. Streamed f (picture w h pixels) m t held) more
      (has_skipped n (k + 1) a.state a.out a.cells came.1 (omega arith) long t left held e)

  -- and so many from an accepted start on
  pub has_begun : (n : ℕ) → n ≤ full_height_of (recipe f) h → (given : List ℕ) → first (start_checks (recipe f) w h (length given)) ≡ 0
      → (s : State) (cells : List ℕ) → began (Ok s) cells ≡ start f w h given → (row : List ℕ) → length row ≡ full_width_of (recipe f) w
      → (t : State) (left held : List ℕ) → skipped t left held ≡ skip n s pixels row cells → Streamed f (picture w h pixels) n t held
  has_begun n fits given none s cells is row wide t left held e =
      let whole : 0 + n ≤ full_height_of (recipe f) h = omega arith in
      let same : 0 + n ≡ n = omega arith in
      subst (λ m. Streamed f (picture w h pixels) m t held) same
      (has_skipped n 0 s row cells (begun f (picture w h pixels) given s cells none is) whole wide t left held e)
