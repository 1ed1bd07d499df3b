-- `filter::coefficients::impulse` meets its contract: 1 at the start, and 0 behind it.
-- Assumes nothing.
use mathlib.Core.Path.{◌≡◌, refl, sym, ap, ◌∙◌}
use mathlib.Core.List.{List, [], ◌∷◌}
use Prim.Native.Nat.{ℕ, zero, suc}
use native.Mathlib.Omega.{arith}
use borrow.Author.Rules.{rules}
use lib.ListN.{length, replicate, set}
use Rattle.std.proofs.lemmas.Grind.{common_steps}
use Rattle.spec.specs.Words.{tab}
use Rattle.spec.specs.Recipe.{kernel}
use Rattle.laws.proofs.Lists.{tab_replicate}
use Rattle.laws.proofs.Kernels.{at}
use Rattle.filter.proofs.coefficients.impulse.Goals as goal

one_first : (n : ℕ) (l : List ℕ) → l ≡ replicate n 0 → set l 0 1 ≡ tab n (at (kernel []))
unfolding tab at kernel
one_first zero l e = ap (λ m. set m 0 1) e
one_first (suc n) l e = ap (λ m. set m 0 1) e ∙ ap (λ m. 1 ∷ m) (sym (tab_replicate n 0))

none_there : (n : ℕ) (l : List ℕ) → l ≡ replicate n 0 → n ≡ 0 → l ≡ tab n (at (kernel []))
unfolding tab
none_there n l e z = rw z at e ∙ rw z refl

pub returns-in-Some : goal.returns-in-Some
returns-in-Some c =
    let filled : c.fill.new.self ≡ replicate (length c.args.out.now) 0 = search rules in
    one_first (length c.args.out.now) _ filled

pub returns-in_default : goal.returns-in_default
returns-in_default c =
    let filled : c.fill.new.self ≡ replicate (length c.args.out.now) 0 = grind (arith, common_steps) in
    let none : length c.args.out.now ≡ 0 = grind (arith, common_steps) in
    none_there (length c.args.out.now) _ filled none
