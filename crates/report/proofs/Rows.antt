-- The lines of grown rows, put one after the other at the front of a text.
-- Assumes nothing.
use mathlib.Core.Path.{◌≡◌, refl, sym, ap, ap₂, subst, ◌∙◌}
use mathlib.Core.List.{List, [], ◌++◌, append-nil, append_assoc}
use Prim.Native.Nat.{ℕ, zero, suc, ◌+◌, ◌-◌}
use native.Mathlib.Omega.{arith}
use lib.ListN.{length, take, drop, replicate, length-append}
use Rattle.std.specs.Prelude.{Option, Some, None, Ok, Err}
use Rattle.spec.specs.declared.refusal.Refusal.{Refusal}
use Rattle.spec.specs.declared.refusal.Refusal.TheVariants.{BadState}
use Rattle.spec.specs.Recipe.{recipe}
use Rattle.spec.specs.Refusals.{first, either, number, bad_state, size_checks}
use Rattle.spec.specs.Program.{line}
use Rattle.stream.specs.declared.calls.State.{State}
use Rattle.stream.specs.declared.calls.Stepped.{Stepped}
use Rattle.stream.specs.declared.calls.Refused.{Refused}
use Rattle.stream.specs.Calls.{state_of, Called, called}
use Rattle.laws.proofs.Results.{number_not_zero}
use Rattle.stream.proofs.States.{bad_refused, first_holds}
use Rattle.rows.specs.Advance.{picture_due, advance, Skipped, skipped}
use Rattle.rows.proofs.Advancing.{advance_refused, left, advance_stopped}
use Rattle.report.specs.Opening.{front}
use Rattle.report.specs.declared.filling.Reached.{Reached}
use Rattle.report.specs.Filling.{Lines, row_lines, grown_width, rows_at_once, next_lines, ended}
use Rattle.report.specs.Private.{Put}
use Rattle.report.proofs.Fronts.{either_second, front_more}

-- lines, and others after them
abbrev pub joined : List ℕ → Lines → Lines
joined t a = record { number = a.number; made = t ++ a.made; state = a.state; cells = a.cells }

-- no lines: 0, or the number of the refusal
abbrev pub no_lines : ℕ → State → List ℕ → Lines
no_lines n s cells = record { number = n; made = []; state = s; cells = cells }

abbrev numbered : ℕ → Lines → Lines
numbered n a = record { number = n; made = a.made; state = a.state; cells = a.cells }

module _ (s : State) (pixels row cells : List ℕ) where
  -- an accepted call
  pub lines_more : (n : ℕ) → (advance s pixels row cells).number ≡ 0
      → row_lines (suc n) s pixels row cells
      ≡ joined (line (advance s pixels row cells).out) (row_lines n (advance s pixels row cells).state pixels (advance s pixels row cells).out (advance s pixels row cells).cells)
  unfolding row_lines either
  lines_more n z =
      let a = advance s pixels row cells in
      let rest = row_lines n a.state pixels a.out a.cells in
      ap (λ k. numbered (either k rest.number k) (joined (either k (line a.out) []) rest)) z

  -- a refused one changes nothing, and neither does any further one
  module _ (h : (advance s pixels row cells).number ≡ 0 → ⊥) where
    abbrev refusal : ℕ
    refusal = (advance s pixels row cells).number

    none_made : (n : ℕ) → numbered refusal (row_lines n s pixels row cells) ≡ no_lines refusal s cells
    unfolding row_lines left skipped either
    none_made zero = refl
    none_made (suc n) = ap (step refusal) (advance_stopped s pixels row cells h) ∙ go refusal h ∙ none_made n
      where
        step : ℕ → Skipped → Lines
        step k x = numbered refusal (joined (either k (line x.row) []) (row_lines n x.state pixels x.row x.cells))

        go : (k : ℕ) → (k ≡ 0 → ⊥) → step k (skipped s row cells) ≡ numbered refusal (row_lines n s pixels row cells)
        go zero g = absurd (g refl)
        go (suc k) g = refl

    first-number : (n : ℕ) → (row_lines (suc n) s pixels row cells).number ≡ refusal
    unfolding row_lines
    first-number n = either_second refusal _ refusal h

    pub lines_stopped : (n : ℕ) → row_lines (suc n) s pixels row cells ≡ no_lines refusal s cells
    lines_stopped n = ap (λ k. numbered k (row_lines (suc n) s pixels row cells)) (first-number n) ∙ none_made (suc n)

-- ---- what is put

pub put_same : {a b : Lines} {r : Reached} {held old new : List ℕ} → a ≡ b → Put a r held old new → Put b r held old new
put_same {r = r} {held} {old} {new} e p = subst (λ (x : Lines). Put x r held old new) e p

-- in the rest of a text, behind what stands at its front
pub put_behind : (t old text : List ℕ) (at : ℕ) → at ≡ length t → text ≡ front t old → (a : Lines) (r : Reached) (held part : List ℕ)
    → Put a r held (take (length text - at) (drop at text)) part
    → Put (joined t a) (record { end = r.end; count = at + r.count; state = r.state }) held old (take at text ++ (part ++ drop (length text - at) (drop at text)))
put_behind t old text at size is a r held part p =
    record {
      number = p.number;
      end = ap₂ ◌+◌ size p.end ∙ sym (length-append t a.made);
      state = p.state;
      cells = p.cells;
      text =
          ap (λ l. take at text ++ (l ++ drop (length text - at) (drop at text))) p.text
          ∙ front_more t a.made old text at is size;
    }

-- a state whose recipe or sides are refused: no lines, and 9
bad_lines : (s : State) (pixels row cells : List ℕ) (n : ℕ) → first (size_checks (recipe s.filter) s.width s.height) ≡ n → (n ≡ 0 → ⊥) → (m : ℕ)
    → row_lines (suc m) s pixels row cells ≡ no_lines 9 s cells
unfolding picture_due state_of
bad_lines s pixels row cells n e h m =
    let call = advance_refused s pixels row cells 9 (first_holds (bad_state (state_of s)) 9 _ (bad_refused (state_of s) n e h)) (λ z. omega arith) in
    let nine : 9 ≡ (advance s pixels row cells).number = ap (λ (x : Called). x.number) call in
    lines_stopped s pixels row cells (λ z. absurd (omega (arith, nine))) m ∙ ap (λ k. no_lines k s cells) (sym nine)

-- and so are the next ones, of which at least one is asked for
pub bad_next : (s : State) (pixels cells : List ℕ) (n : ℕ) → first (size_checks (recipe s.filter) s.width s.height) ≡ n → (n ≡ 0 → ⊥)
    → next_lines s pixels cells ≡ no_lines 9 s cells
unfolding next_lines rows_at_once
bad_next s pixels cells n e h =
    let one : rows_at_once s ≡ suc (rows_at_once s - 1) = omega arith in
    let row = replicate {A = ℕ} (grown_width s) 0 in
    ap (λ m. row_lines m s pixels row cells) one ∙ bad_lines s pixels row cells n e h (rows_at_once s - 1)

pub bad_put : (s : State) (pixels cells text : List ℕ) (e : Refusal) → first (size_checks (recipe s.filter) s.width s.height) ≡ number e
    → Put (next_lines s pixels cells) (record { end = Some BadState; count = 0; state = s }) cells text text
unfolding front number
bad_put s pixels cells text e q =
    let none = sym (bad_next s pixels cells (number e) q (number_not_zero e)) in
    record {
      number = ap (λ (x : Lines). x.number) none;
      end = ap (λ (x : Lines). length x.made) none;
      state = ap (λ (x : Lines). x.state) none;
      cells = ap (λ (x : Lines). x.cells) none;
      text = ap (λ (x : Lines). front x.made text) none;
    }

-- ---- line after line

module _ (count : ℕ) (s₀ : State) (pixels row₀ cells₀ old : List ℕ) where
  -- so many calls are left: the lines so far stand at the front, and with those to come they are all
  pub record Putting (rest : ℕ) (s : State) (row cells text : List ℕ) (at : ℕ) : Type 0 where
    pub done : List ℕ
    pub end : at ≡ length done
    pub is : text ≡ front done old
    pub all : joined done (row_lines rest s pixels row cells) ≡ row_lines count s₀ pixels row₀ cells₀

  pub putting_none : Putting count s₀ row₀ cells₀ old 0
  unfolding front
  putting_none = record { done = []; end = refl; is = refl; all = refl }

  module _ (s : State) (row cells text : List ℕ) (at : ℕ) where
    finished : (rest : ℕ) (why : Option Refusal) → Putting rest s row cells text at → row_lines rest s pixels row cells ≡ no_lines (ended why) s cells
        → Put (row_lines count s₀ pixels row₀ cells₀) (record { end = why; count = at; state = s }) cells old text
    finished rest why p e =
        let all : record { number = ended why; made = p.done; state = s; cells = cells } ≡ row_lines count s₀ pixels row₀ cells₀ =
        ap (λ t. record { number = ended why; made = t; state = s; cells = cells }) (sym (append-nil p.done)) ∙ ap (joined p.done) (sym e) ∙ p.all in
        record {
          number = ap (λ (x : Lines). x.number) all;
          end = p.end ∙ ap (λ (x : Lines). length x.made) all;
          state = ap (λ (x : Lines). x.state) all;
          cells = ap (λ (x : Lines). x.cells) all;
          text = p.is ∙ ap (λ (x : Lines). front x.made old) all;
        }

    pub putting_ended : (rest : ℕ) → rest ≡ 0 → Putting rest s row cells text at
        → Put (row_lines count s₀ pixels row₀ cells₀) (record { end = None; count = at; state = s }) cells old text
    unfolding row_lines
    putting_ended rest z p = finished rest None p (ap (λ n. row_lines n s pixels row cells) z)

    -- after a call that is refused
    pub putting_stopped : (r : Refused) (new held : List ℕ) → called (Err r) new held ≡ advance s pixels row cells
        → (rest m : ℕ) → rest ≡ suc m → Putting rest s row cells text at
        → Put (row_lines count s₀ pixels row₀ cells₀) (record { end = Some r.refusal; count = at; state = s }) held old text
    unfolding called left skipped
    putting_stopped r new held e rest m one p =
        let why : number r.refusal ≡ (advance s pixels row cells).number = ap (λ (x : Called). x.number) e in
        let refused : ((advance s pixels row cells).number ≡ 0 → ⊥) = λ z. number_not_zero r.refusal (why ∙ z) in
        let kept : held ≡ cells = ap (λ (x : Called). x.cells) e ∙ ap (λ (x : Skipped). x.cells) (advance_stopped s pixels row cells refused) in
        let stopped = ap (λ k. row_lines k s pixels row cells) one ∙ lines_stopped s pixels row cells refused m in
        let done = finished rest (Some r.refusal) p (stopped ∙ ap (λ k. no_lines k s cells) (sym why)) in
        record { number = done.number; end = done.end; state = done.state; cells = kept ∙ done.cells; text = done.text }

    -- and after one that is accepted
    pub putting_more : (r : Stepped) (new held : List ℕ) → called (Ok r) new held ≡ advance s pixels row cells
        → (rest m : ℕ) → rest ≡ suc m → Putting rest s row cells text at
        → (n : ℕ) → n ≡ length (line new) → (part : List ℕ) → part ≡ front (line new) (take (length text - at) (drop at text))
        → Putting m r.state new held (take at text ++ (part ++ drop (length text - at) (drop at text))) (at + n)
    unfolding called
    putting_more r new held e rest m one p n size part put =
        let done = p.done ++ line new in
        let accepted : (advance s pixels row cells).number ≡ 0 = sym (ap (λ (x : Called). x.number) e) in
        let next : row_lines rest s pixels row cells ≡ joined (line new) (row_lines m r.state pixels new held) =
        ap (λ k. row_lines k s pixels row cells) one
        ∙ lines_more s pixels row cells m accepted
        ∙ ap (λ (x : Called). joined (line x.out) (row_lines m x.state pixels x.out x.cells)) (sym e) in
        record {
          done = done;
          end = ap₂ ◌+◌ p.end size ∙ sym (length-append p.done (line new));
          is =
              ap (λ l. take at text ++ (l ++ drop (length text - at) (drop at text))) put
              ∙ front_more p.done (line new) old text at p.is p.end;
          all =
              ap (λ t. let rest = row_lines m r.state pixels new held in record { number = rest.number; made = t; state = rest.state; cells = rest.cells })
              (append_assoc p.done (line new) (row_lines m r.state pixels new held).made)
              ∙ ap (joined p.done) (sym next)
              ∙ p.all;
        }
