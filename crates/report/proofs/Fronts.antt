-- A line at the front of a text.
-- Assumes nothing.
use mathlib.Core.Path.{◌≡◌, refl, sym, ap, ap₂, ◌∙◌}
use mathlib.Core.List.{List, [], ◌∷◌, ◌++◌, append-nil, append_assoc}
use Prim.Native.Nat.{ℕ, zero, suc, ◌+◌, ◌-◌, ◌*◌, ◌≤◌}
use native.Mathlib.Omega.{arith}
use lib.ListN.{length, take, drop, take-append-drop, length-append}
use lib.Seq.{take-length, drop-length, take-append_seam, drop-append_seam, drop-append-le, length-take-le, drop-drop}
use Rattle.std.specs.Prelude.{Result, Ok, Err, IsOk}
use Rattle.spec.specs.Program.{line, refusal_printed}
use Rattle.spec.specs.declared.refusal.Refusal.{Refusal}
use Rattle.spec.specs.Refusals.{first, either}
use Rattle.laws.proofs.Refusals.{lent_accepted, after_output}
use Rattle.laws.proofs.Results.{number_not_zero, err_told, ok_told}
use Rattle.text.proofs.Lines.{length_line, length_refusal}
use Rattle.text.specs.Printed.{Printed, line_checks, line_told}
use Rattle.report.specs.declared.opening.Opened.{Opened}
use Rattle.report.specs.Opening.{first_line, front}

-- the line is what stands at the front
pub take_front : (t text : List ℕ) → take (length t) (front t text) ≡ t
unfolding front
take_front t text = take-append_seam t (drop (length t) text)

-- it lies within the text
pub front_within : (t old text : List ℕ) (n : ℕ) → n ≡ length t → text ≡ front t old → n ≤ length text
unfolding front
front_within t old text n size is = omega (arith, size, ap length is, length-append t (drop (length t) old))

-- a front of a text was lent, and a line written at its front
pub front_part : (t text : List ℕ) (room : ℕ) → length t ≤ room → room ≤ length text → front t (take room text) ++ drop room text ≡ front t text
unfolding front
front_part t text room h g =
    append_assoc t (drop (length t) (take room text)) (drop room text)
    ∙ ap (λ l. t ++ l)
    (sym (drop-append-le (length t) (take room text) (drop room text) (omega (arith, length-take-le room text g)))
    ∙ ap (λ l. drop (length t) l) (take-append-drop room text))

-- the rest of a text was lent, and a line written there behind what stood at the front
pub front_more : (done t old text : List ℕ) (at : ℕ) → text ≡ front done old → at ≡ length done
    → take at text ++ (front t (take (length text - at) (drop at text)) ++ drop (length text - at) (drop at text)) ≡ front (done ++ t) old
unfolding front
front_more done t old text at is p =
    let rest = drop (length done) old in
    let begins : take at text ≡ done = ap₂ take p is ∙ take-append_seam done rest in
    let ends : drop at text ≡ rest = ap₂ drop p is ∙ drop-append_seam done rest in
    let all : length text - at ≡ length rest = omega (arith, p, ap length is, length-append done rest) in
    ap₂ ◌++◌ begins
    (ap₂ (λ l n. front t (take n l) ++ drop n l) ends all
    ∙ ap₂ (λ a b. front t a ++ b) (take-length rest) (drop-length rest)
    ∙ append-nil (t ++ drop (length t) rest)
    ∙ ap (λ l. t ++ l) (drop-drop (length t) (length done) old ∙ ap (λ n. drop n old) (sym (length-append done t))))
    ∙ sym (append_assoc done t (drop (length (done ++ t)) old))

-- a line at the front of one text is copied to the front of another
pub copied_front : (t old text : List ℕ) (n : ℕ) → n ≡ length t → (from : List ℕ) → from ≡ front t old → (part : List ℕ)
    → part ≡ take n from → part ++ drop n text ≡ front t text
unfolding front
copied_front t old text n size from is part copied =
    let given : take n from ≡ t = ap₂ take size is ∙ take-append_seam t (drop (length t) old) in
    ap₂ ◌++◌ (copied ∙ given) (ap (λ k. drop k text) size)

-- a line that is printed into a slice of just its room
module _ (ns old new : List ℕ) (r : Result ℕ Refusal) (p : Printed ns old (line_told r) new) (room : length old ≡ 21 * length ns + 1) where
  none : first (line_checks ns (length old)) ≡ 0
  unfolding line_checks first
  none = after_output [] (length old) (21 * length ns + 1) room

  pub line_printed : IsOk r
  line_printed = go r refl
    where
      go : (s : Result ℕ Refusal) → r ≡ s → IsOk s
      go (Ok n) e = refl
      go (Err e) q =
          absurd (number_not_zero e (sym (err_told (λ (n : ℕ). n) (line_checks ns (length old)) (length (line ns)) e (sym (ap line_told q) ∙ p.answer)) ∙ none))

  pub line_is : (n : ℕ) → r ≡ Ok n → (n ≡ length (line ns)) × (new ≡ front (line ns) old)
  unfolding front
  line_is n e = (
    (ok_told (λ (m : ℕ). m) (line_checks ns (length old)) (length (line ns)) n (sym (ap line_told e) ∙ p.answer)).1,
    p.slice ∙ lent_accepted (line_checks ns (length old)) _ old none,
  )

-- the second of two, by a number that is not 0
pub either_second : {A : Type 0} (n : ℕ) (a b : A) → (n ≡ 0 → ⊥) → either n a b ≡ b
unfolding either
either_second zero a b h = absurd (h refl)
either_second (suc n) a b h = refl

-- the first line, of a job that is refused and of one that is not
pub first_refused : (o : Opened) → (o.refusal ≡ 0 → ⊥) → refusal_printed o.refusal ≡ first_line o
unfolding first_line
first_refused o h = sym (either_second o.refusal _ _ h)

pub first_told : (o : Opened) → o.refusal ≡ 0 → line (o.width ∷ o.height ∷ o.gain ∷ []) ≡ first_line o
unfolding first_line either
first_told o e = sym (ap (λ n. either n (line (o.width ∷ o.height ∷ o.gain ∷ [])) (refusal_printed o.refusal)) e)

-- it has at most 64 bytes
pub first_short : (o : Opened) → length (first_line o) ≤ 64
unfolding first_line either
first_short o = go o.refusal
  where
    go : (n : ℕ) → length (either n (line (o.width ∷ o.height ∷ o.gain ∷ [])) (refusal_printed o.refusal)) ≤ 64
    go zero = length_line (o.width ∷ o.height ∷ o.gain ∷ [])
    go (suc n) = omega (arith, length_refusal o.refusal)
