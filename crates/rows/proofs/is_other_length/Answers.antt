-- `rows::is_other_length` meets its contract: a length is a product exactly where it divides without a rest, into the other factor.
-- Assumes nothing.
use mathlib.Core.Path.{◌≡◌, refl, sym, ap, ◌∙◌}
use mathlib.Core.Bool.{Bool, true, false, not}
use Prim.Native.Nat.{ℕ, ◌*◌, ◌/◌, ◌%◌, ◌<◌}
use native.Mathlib.Nat.{zero-mul, mul-mod_right, mul-div_right, div-add-mod, pos_of_ne-zero}
use native.Mathlib.Omega.{arith}
use lib.Dec.{eqb}
use borrow.Author.Tests.{eq-eqb, ne_eqb, eqb-true, eqb-false}
use Rattle.spec.specs.Refusals.{other_pixels}
use Rattle.laws.proofs.Refusals.{not_stated}
use Rattle.rows.proofs.is_other_length.Goals as goal

divides : (n w h : ℕ) → 0 < w → n % w ≡ 0 → eqb (n / w) h ≡ eqb n (w * h)
divides n w h pos z = go (eqb (n / w) h) refl
  where
    go : (b : Bool) → eqb (n / w) h ≡ b → eqb (n / w) h ≡ eqb n (w * h)
    go true e =
        let is : n ≡ w * h = omega (arith, div-add-mod n w, ap (λ k. w * k) (eqb-true (n / w) h e)) in
        e ∙ sym (eq-eqb n (w * h) is)
    go false e = e ∙ sym (ne_eqb n (w * h) (λ p. eqb-false (n / w) h e (ap (λ k. k / w) p ∙ mul-div_right h pos)))

pub returns-then-width-eq0 : goal.returns-then-width-eq0
unfolding other_pixels
returns-then-width-eq0 c =
    let args = c.args in
    sym (ap (other_pixels args.len) (ap (λ w. w * args.height) c.if-width-eq0.true ∙ zero-mul args.height))

pub returns-then-len-width-ne0 : goal.returns-then-len-width-ne0
returns-then-len-width-ne0 c =
    let args = c.args in
    ap not (ne_eqb _ _ c.if-len-width-ne0.true)
    ∙ sym (not_stated args.len (args.width * args.height) (λ e. c.if-len-width-ne0.true (ap (λ n. n % args.width) e ∙ mul-mod_right args.width args.height)))

pub returns-else-len-width-ne0 : goal.returns-else-len-width-ne0
unfolding other_pixels
returns-else-len-width-ne0 c =
    let args = c.args in
    ap not (divides args.len args.width args.height (pos_of_ne-zero c.if-width-eq0.false) c.if-len-width-ne0.false)
