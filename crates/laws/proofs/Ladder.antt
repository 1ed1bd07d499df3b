-- The fading ladder width by width: one more width is a recipe joined to the widths before it, and so is one more level.
-- Assumes nothing.
use mathlib.Core.Path.{◌≡◌, sym, ap, subst, ◌∙◌}
use mathlib.Core.List.{[], ◌∷◌, ◌++◌}
use Prim.Native.Nat.{ℕ, zero, suc, ◌+◌, ◌≤◌, ◌<◌}
use native.Mathlib.Nat.{le_trans, le_of_eq, mul-pos, mul_comm, zero-add, suc-add}
use native.Mathlib.Omega.{arith}
use lib.ListN.{take, drop, get_or, take-append-drop}
use lib.Seq.{take-suc}
use Rattle.spec.specs.Words.{product}
use Rattle.spec.specs.Recipe.{Recipe, weight, gain, joined}
use Rattle.spec.specs.Ladder.{rungs, Axes, rows_only, both_axes, on_axes, ladder, rung}
use Rattle.laws.proofs.Lists.{product_append, factor_pos}
use Rattle.laws.proofs.Refusals.{Accepted}
use Rattle.laws.proofs.Joining.{joined_accepted}

-- the width at a place, from 0 on, and the widths before it
abbrev pub rung_at : Axes → ℕ → Recipe
rung_at a i = on_axes a (get_or rungs i 0 ∷ [])

abbrev pub rungs_before : Axes → ℕ → Recipe
rungs_before a i = on_axes a (take i rungs)

-- one width more
pub next_rung : (a : Axes) (i : ℕ) → i < 10 → rungs_before a (suc i) ≡ joined (rungs_before a i) (rung_at a i)
unfolding rungs on_axes joined
next_rung a i h = go a
  where
    e : take (suc i) rungs ≡ take i rungs ++ (get_or rungs i 0 ∷ [])
    e = take-suc rungs i 0 h

    go : (a : Axes) → rungs_before a (suc i) ≡ joined (rungs_before a i) (rung_at a i)
    go rows_only = ap (on_axes rows_only) e
    go both_axes = ap (on_axes both_axes) e

-- no width is 0
before_pos : (a : Axes) (i : ℕ) → 0 < gain (rungs_before a i)
unfolding rungs product weight gain on_axes
before_pos a i = go a
  where
    front : 0 < product (take i rungs)
    front =
        let whole : 0 < product rungs = omega arith in
        factor_pos (product (drop i rungs)) (product (take i rungs))
        (le_trans whole
        (le_of_eq
        (ap product (sym (take-append-drop i rungs)) ∙ product_append (take i rungs) (drop i rungs)
        ∙ mul_comm (product (take i rungs)) (product (drop i rungs)))))

    go : (a : Axes) → 0 < gain (rungs_before a i)
    go rows_only = mul-pos front (omega arith)
    go both_axes = mul-pos front front

-- where the widths before a place are accepted, so are fewer of them, and the last one alone
pub step_accepted : (a : Axes) (i : ℕ) → i < 10 → Accepted (rungs_before a (suc i)) → Accepted (rungs_before a i) × Accepted (rung_at a i)
step_accepted a i h k = joined_accepted (rungs_before a i) (rung_at a i) (subst Accepted (next_rung a i h) k)

pub fewer_accepted : (a : Axes) (d i : ℕ) → d + i ≤ 10 → Accepted (rungs_before a (d + i)) → Accepted (rungs_before a i)
fewer_accepted a zero i h k = subst (λ n. Accepted (rungs_before a n)) (zero-add i) k
fewer_accepted a (suc d) i h k =
    let e = suc-add d i in
    fewer_accepted a d i (omega arith) (step_accepted a (d + i) (omega arith) (subst (λ n. Accepted (rungs_before a n)) e k)).0

-- one level more
pub next_level : (a : Axes) (level : ℕ) → level < 8 → ladder a (suc level) ≡ joined (ladder a level) (rung a (suc level))
unfolding ladder rung
next_level a level h =
    let e : suc level + 2 ≡ suc (level + 2) = omega arith in
    let d : level + 2 ≡ suc level + 1 = omega arith in
    ap (rungs_before a) e ∙ next_rung a (level + 2) (omega arith) ∙ ap (λ i. joined (ladder a level) (rung_at a i)) d

pub level_pos : (a : Axes) (level : ℕ) → 0 < gain (ladder a level)
unfolding ladder
level_pos a level = before_pos a (level + 2)
