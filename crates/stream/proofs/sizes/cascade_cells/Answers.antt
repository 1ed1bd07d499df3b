-- What `search` does not find of `sizes::cascade_cells`.
use Rattle.std.proofs.Common.{◌≡◌, ℕ, ◌+◌, List, [], ◌∷◌, refl, ap, ◌∙◌, arith, rules}
use Rattle.std.specs.List.{sum_by}
use Rattle.std.proofs.iter.runs.Made.{chains}
use Rattle.std.proofs.lemmas.List.Sums.{sum_by-cons}
use Rattle.spec.specs.Words.{total}
use Rattle.spec.specs.Stream.{box_cells, cascade_cells}
use Rattle.stream.proofs.Boxes.{cells_few}
use Rattle.stream.proofs.sizes.cascade_cells.Goals as goal

-- a sum over a list is a total
summed : (f : ℕ → ℕ) (ns : List ℕ) → sum_by f ns ≡ total f ns
unfolding total
summed f [] = refl
summed f (n ∷ ns) = sum_by-cons f n ns ∙ ap (λ k. f n + k) (summed f ns)

pub returns : goal.returns
unfolding cascade_cells
returns c =
    let e : c.sum.result ≡ sum_by box_cells c.args.widths.now = search (rules, chains) in
    let is = e ∙ summed box_cells c.args.widths.now in
    let few = cells_few c.args.widths.now (λ k. omega (arith, c.type_inv.widths k)) in
    (is, omega arith)
