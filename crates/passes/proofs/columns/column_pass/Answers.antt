-- What `search` does not find of `columns::column_pass`.
use mathlib.Core.Path.{◌≡◌, sym, ap, ◌∙◌}
use mathlib.Core.List.{List, ◌++◌}
use Prim.Native.Nat.{ℕ, ◌≤◌, ◌<◌}
use native.Mathlib.Omega.{arith}
use lib.ListN.{length, take, get_or-append}
use lib.Seq.{length-take-le, get_or-take}
use Rattle.laws.proofs.Kernels.{at}
use Rattle.laws.proofs.Cascades.{spread}
use Rattle.passes.specs.Steps.{Below}
use Rattle.passes.proofs.Running.{spread_first}
use Rattle.passes.proofs.columns.column_pass.Goals as goal

-- the first row comes in, and there is none above it
first_row : (s n first : ℕ) (src new rest : List ℕ) → 0 < n → first ≤ s → first ≤ length src → new ≡ take first src → Below first (spread s n (at src)) (new ++ rest)
unfolding at
first_row s n first src new rest w h l e k g =
    let long = ap length e ∙ length-take-le first src l in
    get_or-append new rest 0 k (omega (arith, long))
    ∙ ap (λ xs. at xs k) e
    ∙ get_or-take first src k 0 g
    ∙ sym (spread_first s n (at src) k w (omega arith))

pub added_places-requires-clause-first : goal.added_places-requires-clause-first
added_places-requires-clause-first c =
    let args = c.args in
    λ k h. first_row args.step args.n c.min-first.result args.src.now c.copy_from_slice.new.self _ c.requires.wide (omega arith) (omega arith)
    c.copy_from_slice.ensures.after k (omega arith)

pub by_rows-requires-clause-first : goal.by_rows-requires-clause-first
by_rows-requires-clause-first c =
    let args = c.args in
    λ k h. first_row args.step args.n c.min-first.result args.src.now c.copy_from_slice.new.self _ c.requires.wide (omega arith) (omega arith)
    c.copy_from_slice.ensures.after k (omega arith)
