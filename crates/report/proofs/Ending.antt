-- Fillings one after the other.
-- Assumes nothing.
use mathlib.Core.Path.{◌≡◌, refl, sym, ap, ap₂, ◌∙◌}
use mathlib.Core.Bool.{true, cond}
use mathlib.Core.List.{List, [], ◌++◌}
use Prim.Native.Nat.{ℕ, zero, suc, ◌≤◌}
use native.Mathlib.Omega.{arith}
use lib.ListN.{length, take, drop, length-append, length-drop}
use Rattle.spec.specs.Refusals.{either}
use Rattle.report.specs.declared.opening.Opened.{Opened}
use Rattle.report.specs.Opening.{first_line, front}
use Rattle.report.specs.Filling.{Lines, next_lines, heading, job_lines, Filling, begun, fill}
use Rattle.report.specs.Session.{fillings, until_refused}
use Rattle.report.proofs.Rows.{joined, no_lines}

module _ (o : Opened) (job cells text : List ℕ) where
  -- what a filling is, from the lines that it puts
  abbrev pub from_lines : Lines → Filling
  from_lines a = record { number = a.number; count = length a.made; opened = begun o a.state; cells = a.cells; text = front a.made text }

  pub fill_quiet : (n : ℕ) → o.is_begun ≡ true → next_lines o.state (drop o.offset job) cells ≡ no_lines n o.state cells
      → fill o job cells text ≡ record { number = n; count = 0; opened = o; cells = cells; text = text }
  unfolding fill job_lines heading begun front
  fill_quiet n b e =
      ap₂ (λ c (a : Lines). from_lines (joined (cond c [] (first_line o)) a)) b e
      ∙ ap (λ c. record {
        number = n;
        count = 0;
        opened =
            record {
              refusal = o.refusal;
              state = o.state;
              offset = o.offset;
              width = o.width;
              height = o.height;
              gain = o.gain;
              is_begun = c;
            };
        cells = cells;
        text = text;
      }) (sym b)

  -- what was filled had room: the text is as long as before
  pub fill_kept : (fill o job cells text).count ≤ length text → length (fill o job cells text).text ≡ length text
  unfolding fill front
  fill_kept h =
      let t = (job_lines o job cells).made in
      omega (arith, length-append t (drop (length t) text), length-drop (length t) text)

  pub nothing_more : (n m : ℕ) → fill o job cells text ≡ record { number = m; count = 0; opened = o; cells = cells; text = text } → fillings n o job cells text ≡ []
  unfolding fillings
  nothing_more zero m e = refl
  nothing_more (suc n) m e =
      ap (λ (a : Filling). take a.count a.text ++ fillings n a.opened job a.cells a.text) e ∙ nothing_more n m e

  -- up to the first with a number, where those after it fill nothing
  pub until_more : (n : ℕ) → let a = fill o job cells text in
      (a.number ≡ 0 → until_refused n a.opened job a.cells a.text ≡ fillings n a.opened job a.cells a.text)
      → ((a.number ≡ 0 → ⊥) → fillings n a.opened job a.cells a.text ≡ [])
      → until_refused (suc n) o job cells text ≡ fillings (suc n) o job cells text
  unfolding until_refused fillings either
  until_more n same none =
      let a = fill o job cells text in
      ap (λ l. take a.count a.text ++ l) (go _ _ a.number same none)
    where
      go : (u f : List ℕ) (k : ℕ) → (k ≡ 0 → u ≡ f) → ((k ≡ 0 → ⊥) → f ≡ []) → either k u [] ≡ f
      go u f zero p q = p refl
      go u f (suc k) p q = sym (q (λ z. omega arith))
