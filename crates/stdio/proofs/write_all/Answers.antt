-- What a round wrote stands behind what was written before.
use Rattle.std.proofs.Common.{◌≡◌, ℕ, ◌+◌, ◌-◌, ◌≤◌, List, ◌++◌, arith, length, take, drop, sym, ap, ◌∙◌, subst, length-drop, take_all}
use Rattle.std.proofs.lemmas.List.{drop-drop}
use Rattle.std.specs.Io.KnownBytes.{Appends}
use Rattle.std.proofs.KnownBytes.{Appends-trans}
use lib.Seq.{take-add}
use Rattle.stdio.proofs.write_all.Goals as goal

-- a rest of which n bytes went, and what is written by then
record Turn (whole rest : List ℕ) (n : ℕ) (left : List ℕ) : Type 0 where
  fits : length left ≤ length whole
  is : left ≡ drop (length whole - length left) whole
  sent : take (length whole - length rest) whole ++ take n rest ≡ take (length whole - length left) whole

turn : (whole rest : List ℕ) (n : ℕ) → length rest ≤ length whole → rest ≡ drop (length whole - length rest) whole → n ≤ length rest
    → Turn whole rest n (take (length rest - n) (drop n rest))
turn whole rest n fits is bound =
    let size = length-drop n rest in
    let left : take (length rest - n) (drop n rest) ≡ drop n rest = take_all _ _ (omega (arith, size)) in
    let here : length whole - length (drop n rest) ≡ length whole - length rest + n = omega (arith, size) in
    rw left (record {
      fits = omega (arith, size);
      is = ap (drop n) is ∙ drop-drop n (length whole - length rest) whole ∙ ap (λ k. drop k whole) (sym here);
      sent = ap (λ l. take (length whole - length rest) whole ++ take n l) is ∙ sym (take-add (length whole - length rest) n whole) ∙ ap (λ k. take k whole) (sym here);
    })

pub loop-writer-preserved : goal.loop-writer-preserved
loop-writer-preserved g c =
    let loop = c.loop-writer in
    let t = turn c.args.bytes.now loop.rest.now c.in-Ok.count loop.invariant.fits loop.invariant.is c.in-Ok.ensures.bound in
    record {
      fits = t.fits;
      is = t.is;
      sent = subst (Appends _ _) t.sent (Appends-trans _ _ _ _ _ loop.invariant.sent c.in-Ok.ensures.sent);
    }
