-- `difference::signed` meets its contract: how far the numbers are apart is rounded as a sum is, and negated where `y` is the larger.
-- Assumes nothing.
use mathlib.Core.Path.{◌≡◌, ap, ◌∙◌}
use Prim.Native.Nat.{ℕ, ◌+◌, ◌-◌, ◌*◌, ◌≤◌}
use native.Mathlib.Omega.{arith}
use borrow.Author.Rules.{rules}
use lib.IntN.{pos, neg_ℤ}
use mir.Syntax.{w16}
use mir.ValLaws.{to_z-of_z}
use Rattle.spec.specs.Picture.{largest_gray}
use Rattle.spec.specs.Gray.{gray}
use Rattle.laws.proofs.Signed.{apart_fits}
use Rattle.gray.specs.declared.rounding.Divisor.{Divisor}
use Rattle.gray.specs.Division.{Divides, quotient}
use Rattle.gray.proofs.Dividing.{rounded_gray}
use Rattle.difference.proofs.Nearest.{not_negative, negative, byte_is, byte_negated}
use Rattle.difference.proofs.signed.Goals as goal

-- the larger number less the smaller, of which one difference is 0, is rounded as a sum is, to at most 255
size_is : (x y : ℕ) (by : Divisor) → Divides by.weight by → x ≤ largest_gray * by.weight → y ≤ largest_gray * by.weight → (gap size : ℕ)
    → gap ≡ (x - y) + (y - x) → size ≡ quotient by gap → (size ≡ gray by.weight gap) × (size ≤ largest_gray)
size_is x y by d a b gap size is e = rounded_gray largest_gray by.weight by d (record { fits = omega arith; near = omega arith }) gap size (omega arith) e

pub overflow_cast-size : goal.overflow_cast-size
overflow_cast-size c =
    let q = c.requires in
    let small = (size_is _ _ _ q.0 q.1 q.2 _ _ c.abs_diff.ensures c.quotient-size.ensures).1 in
    search rules

pub overflow_sub-result : goal.overflow_sub-result
overflow_sub-result c =
    let q = c.requires in
    let small = (size_is _ _ _ q.0 q.1 q.2 _ _ c.abs_diff.ensures c.quotient-size.ensures).1 in
    apart_fits w16 0 c.quotient-size.result (omega arith) (omega (arith, small))

pub returns-then-y-x : goal.returns-then-y-x
returns-then-y-x c =
    let a = c.args in
    let q = c.requires in
    let is = size_is _ _ _ q.0 q.1 q.2 _ _ c.abs_diff.ensures c.quotient-size.ensures in
    let apart : c.abs_diff.result ≡ a.x - a.y = omega (arith, c.if-y-x.true, c.abs_diff.ensures) in
    byte_is _ is.1 ∙ ap pos (is.0 ∙ ap (gray a.by.weight) apart) ∙ not_negative a.x a.y a.by.weight c.if-y-x.true

pub returns-else-y-x : goal.returns-else-y-x
returns-else-y-x c =
    let a = c.args in
    let q = c.requires in
    let is = size_is _ _ _ q.0 q.1 q.2 _ _ c.abs_diff.ensures c.quotient-size.ensures in
    let apart : c.abs_diff.result ≡ a.y - a.x = omega (arith, c.if-y-x.false, c.abs_diff.ensures) in
    to_z-of_z w16 _ (apart_fits w16 0 c.quotient-size.result (omega arith) (omega (arith, is.1)))
    ∙ byte_negated _ is.1
    ∙ ap (λ n. neg_ℤ (pos n)) (is.0 ∙ ap (gray a.by.weight) apart)
    ∙ negative a.x a.y a.by.weight c.if-y-x.false
