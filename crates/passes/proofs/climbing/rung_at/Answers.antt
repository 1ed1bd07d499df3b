-- `passes::climbing::rung_at` meets its contract: the one width, on these axes.
-- Assumes nothing.
use mathlib.Core.Path.{◌≡◌, refl, ap, ◌∙◌}
use mathlib.Core.List.{List, [], ◌∷◌}
use Prim.Native.Nat.{ℕ, ◌+◌, ◌-◌, ◌<◌}
use native.Mathlib.Omega.{arith}
use lib.ListN.{length, get_or, take, drop}
use lib.Seq.{drop-cons}
use Rattle.spec.specs.Ladder.{rungs, on_axes}
use Rattle.passes.specs.Climbed.{axes_of}
use Rattle.passes.proofs.climbing.rung_at.Goals as goal

-- a part of one entry
one : (xs : List ℕ) (i : ℕ) → i < length xs → take (i + 1 - i) (drop i xs) ≡ get_or xs i 0 ∷ []
one xs i h =
    let e : i + 1 - i ≡ 1 = omega arith in
    rw (e, drop-cons xs i 0) refl

pub returns : goal.returns
unfolding rungs
returns c = c.on_axes.ensures ∙ ap (on_axes (axes_of c.args.axes)) (c.rungs.ensures ∙ one rungs c.args.i c.requires)
