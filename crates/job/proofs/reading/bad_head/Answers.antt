-- `job::reading::bad_head` meets its contract: the tests of the definition, one after the other.
-- Assumes nothing.
use mathlib.Core.Path.{◌≡◌, sym, ap, ap₂, ◌∙◌}
use mathlib.Core.Bool.{Bool, true, false, not, ◌&&◌, ◌||◌}
use mathlib.Core.List.{List, [], ◌∷◌}
use Prim.Native.Nat.{ℕ, ◌≤◌}
use native.Mathlib.Omega.{arith}
use lib.Dec.{eqb}
use lib.ListN.{length, get_or}
use borrow.Author.Tests.{lt-ltb, le-ltb}
use Rattle.std.specs.List.{starts_with}
use Rattle.std.proofs.lemmas.Bool.Decides.{nat_tests}
use Rattle.spec.specs.Job.{mark, version, read16}
use Rattle.spec.specs.Refusals.{bad_head}
use Rattle.job.proofs.reading.bad_head.Goals as goal
use Rattle.job.proofs.reading.bad_head.Goals.{then-bytes-lt7, else-bytes-lt7}

swap : (a b : ℕ) → eqb a b ≡ eqb b a
swap a b = grind (arith, nat_tests)

three : (p q r : Bool) → (p && (q && (r && true))) ≡ (p && q && r)
three false q r = grind arith
three true false r = grind arith
three true true true = grind arith
three true true false = grind arith

-- the mark, byte by byte
marked : (bytes : List ℕ) → 3 ≤ length bytes → starts_with eqb bytes (0x42 ∷ 0x4F ∷ 0x52 ∷ [])
    ≡ (eqb (get_or bytes 0 0) 0x42 && eqb (get_or bytes 1 0) 0x4F && eqb (get_or bytes 2 0) 0x52)
marked [] h = absurd (omega arith)
marked (a ∷ []) h = absurd (omega arith)
marked (a ∷ b ∷ []) h = absurd (omega arith)
marked (a ∷ b ∷ c ∷ rest) h =
    three (eqb 0x42 a) (eqb 0x4F b) (eqb 0x52 c) ∙ (λ i. swap 0x42 a i && swap 0x4F b i && swap 0x52 c i)

-- a head that is long enough is bad by its mark or by its version
by_mark : (bytes : List ℕ) (r : Bool) → 7 ≤ length bytes → r ≡ starts_with eqb bytes (0x42 ∷ 0x4F ∷ 0x52 ∷ [])
    → bad_head bytes ≡ (not r || not (eqb (read16 bytes 3) 1))
unfolding bad_head mark version
by_mark bytes r h e =
    ap₂ (λ short marked. short || not marked || not (eqb (read16 bytes 3) 1)) (le-ltb (length bytes) 7 h) (sym (e ∙ marked bytes (omega arith)))

pub returns-then-not-starts_with : goal.returns-then-not-starts_with
unfolding bad_head
returns-then-not-starts_with c =
    c.if-not-starts_with.true
    ∙ elim c.if-bytes-lt7.branch [
      | then-bytes-lt7 w ↦ sym (simp (lt-ltb _ _ w.if-bytes-lt7.true))
      | else-bytes-lt7 w ↦
          sym (by_mark _ _ w.if-bytes-lt7.false w.starts_with.ensures.value
          ∙ ap (λ b. b || not (eqb (read16 c.args.bytes.now 3) 1)) (sym w.value-is ∙ c.if-not-starts_with.true))
    ]

pub returns-else-not-starts_with : goal.returns-else-not-starts_with
returns-else-not-starts_with c =
    elim c.if-bytes-lt7.branch [
      | then-bytes-lt7 w ↦ absurd (grind (arith, nat_tests))
      | else-bytes-lt7 w ↦
          ap (λ n. not (eqb n 1)) c.read16.ensures.0
          ∙ sym (by_mark _ _ w.if-bytes-lt7.false w.starts_with.ensures.value
          ∙ ap (λ b. b || not (eqb (read16 c.args.bytes.now 3) 1)) (sym w.value-is ∙ c.if-not-starts_with.false))
    ]
