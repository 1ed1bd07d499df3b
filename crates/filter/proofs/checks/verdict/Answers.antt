-- `filter::checks::verdict` meets its contract: at each return the tests that led there say which check holds first.
-- Assumes nothing.
use mathlib.Core.Path.{◌≡◌, refl}
use mathlib.Core.Bool.{true, false, ◌||◌}
use mathlib.Core.Logic.{◌⊎◌, inl, inr}
use Prim.Native.Nat.{ℕ, ◌<◌, ◌≤◌}
use lib.Dec.{ltb}
use Rattle.spec.specs.Refusals.{check, first, number}
use borrow.Author.Tests.{eq-eqb, ne_eqb, lt-ltb, le-ltb}
use Rattle.filter.proofs.checks.verdict.Goals as goal

-- 3 asks both reaches
far : (a b : ℕ) → (255 < a) ⊎ ((a ≤ 255) × (255 < b)) → (ltb 255 a || ltb 255 b) ≡ true
far a b (inl h) = rw (lt-ltb 255 a h) refl
far a b (inr h) = rw (le-ltb 255 a h.0, lt-ltb 255 b h.1) refl

near : (a b : ℕ) → (a ≤ 255) × (b ≤ 255) → (ltb 255 a || ltb 255 b) ≡ false
near a b h = rw (le-ltb 255 a h.0, le-ltb 255 b h.1) refl

pub returns-then-gain-eq0 : goal.returns-then-gain-eq0
unfolding first check number
returns-then-gain-eq0 c = simp (eq-eqb _ _ c.if-gain-eq0.true) refl

pub returns-then-column_order-gt255 : goal.returns-then-column_order-gt255
unfolding first check number
returns-then-column_order-gt255 c = simp (ne_eqb _ _ c.if-gain-eq0.false, far _ _ c.if-column_order-gt255.either) refl

pub returns-then-gain-gt-HEAVIEST : goal.returns-then-gain-gt-HEAVIEST
unfolding first check number
returns-then-gain-gt-HEAVIEST c = simp (ne_eqb _ _ c.if-gain-eq0.false, near _ _ c.if-column_order-gt255.false, lt-ltb _ _ c.if-gain-gt-HEAVIEST.true) refl

pub returns-else-gain-gt-HEAVIEST : goal.returns-else-gain-gt-HEAVIEST
unfolding first check number
returns-else-gain-gt-HEAVIEST c = simp (ne_eqb _ _ c.if-gain-eq0.false, near _ _ c.if-column_order-gt255.false, le-ltb _ _ c.if-gain-gt-HEAVIEST.false) refl
