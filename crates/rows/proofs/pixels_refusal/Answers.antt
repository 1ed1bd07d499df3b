-- `rows::pixels_refusal` meets its contract: the answer of `filter::full_size`, and then the rows yielded.
-- Assumes nothing.
use mathlib.Core.Path.{◌≡◌, sym, ap, ap₂, ◌∙◌}
use mathlib.Core.Bool.{cond}
use Prim.Native.Nat.{ℕ}
use native.Mathlib.Omega.{arith}
use lib.Dec.{leb}
use borrow.Author.Tests.{lt-ltb, le-ltb, le-leb, lt-leb}
use Rattle.std.specs.Prelude.{Ok}
use Rattle.spec.specs.Recipe.{Recipe, recipe}
use Rattle.spec.specs.Picture.{Sides, full_height_of, full_sides}
use Rattle.spec.specs.Refusals.{first, check, answer, told, size_checks, number}
use Rattle.laws.proofs.Results.{number_not_zero, err_told, ok_told}
use Rattle.filter.specs.declared.sizes.Sides.{Sides as Grown}
use Rattle.filter.specs.Answers.{sides}
use Rattle.stream.specs.Calls.{state_of}
use Rattle.stream.proofs.States.{bad_refused, bad_late}
use Rattle.rows.proofs.pixels_refusal.Goals as goal

-- the sides are accepted, and the grown height is as told
height_is : (r : Recipe) (w h : ℕ) (s : Grown) → told sides (Ok s) ≡ answer (size_checks r w h) (full_sides r w h)
    → (first (size_checks r w h) ≡ 0) × (s.height ≡ full_height_of r h)
unfolding full_sides
height_is r w h s e =
    let q = ok_told sides (size_checks r w h) (full_sides r w h) s e in
    (q.0, ap (λ (x : Sides). x.height) q.1)

pub returns-in_default : goal.returns-in_default
unfolding first check state_of number
returns-in_default c =
    let s = c.args.state in
    let r = recipe s.filter in
    let e = err_told sides (size_checks r s.width s.height) (full_sides r s.width s.height) _ c.in_default.ensures in
    sym (ap (λ b. cond b 9 (cond (leb (full_height_of r s.height) s.emitted) 10 6)) (bad_refused (state_of s) _ e (number_not_zero c.in_default.field-0)))

pub returns-then-grown-at : goal.returns-then-grown-at
unfolding first check state_of number
returns-then-grown-at c =
    let s = c.args.state in
    let t = height_is _ _ _ _ c.in-Ok.ensures in
    let height = full_height_of (recipe s.filter) s.height in
    let late = bad_late (state_of s) t.0 ∙ lt-ltb height s.emitted (omega (arith, t.1, c.if-grown-at.true)) in
    sym (ap (λ b. cond b 9 (cond (leb height s.emitted) 10 6)) late)

pub returns-then-grown-at-2 : goal.returns-then-grown-at-2
unfolding first check state_of number
returns-then-grown-at-2 c =
    let s = c.args.state in
    let t = height_is _ _ _ _ c.in-Ok.ensures in
    let height = full_height_of (recipe s.filter) s.height in
    let good = bad_late (state_of s) t.0 ∙ le-ltb height s.emitted (omega (arith, t.1, c.if-grown-at.false)) in
    sym (ap₂ (λ a b. cond a 9 (cond b 10 6)) good (le-leb height s.emitted (omega (arith, t.1, c.if-grown-at-2.true))))

pub returns-else-grown-at-2 : goal.returns-else-grown-at-2
unfolding first check state_of number
returns-else-grown-at-2 c =
    let s = c.args.state in
    let t = height_is _ _ _ _ c.in-Ok.ensures in
    let height = full_height_of (recipe s.filter) s.height in
    let good = bad_late (state_of s) t.0 ∙ le-ltb height s.emitted (omega (arith, t.1, c.if-grown-at.false)) in
    sym (ap₂ (λ a b. cond a 9 (cond b 10 6)) good (lt-leb height s.emitted (omega (arith, t.1, c.if-grown-at-2.false))))
