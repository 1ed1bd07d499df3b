-- What `search` does not find of `grown::copy_row`.
use mathlib.Core.Path.{sym, ap, ◌∙◌}
use native.Mathlib.Omega.{arith}
use lib.ListN.{length, get_or-eq_default, get_or-replicate}
use Rattle.laws.proofs.Kernels.{at}
use Rattle.laws.proofs.Slices.{length_between}
use Rattle.passes.proofs.Writing.{below_more, below_last}
use Rattle.passes.proofs.grown.copy_row.Goals as goal

pub loop-i-preserved : goal.loop-i-preserved
unfolding at
loop-i-preserved c =
    let turn = c.loop-i in
    below_more (at c.args.pixels.now) turn.i turn.row _ turn.invariant (omega arith) c.from.ensures

pub returns : goal.returns
unfolding at
returns c =
    let turn = c.loop-i in
    let xs = c.args.pixels.now in
    let here = length xs in
    let e = c.fill.ensures.after (λ y h. h) in
    let size = length_between 0 turn.row here (length turn.row) (omega arith) (omega arith) in
    below_last (at xs) here turn.row c.fill.new.self (λ k h. turn.invariant k (omega arith)) (omega arith) (c.fill.ensures.len ∙ size)
    (λ k h.
    ap (λ l. at l k) e
    ∙ get_or-replicate _ k 0 0 (omega (arith, c.fill.ensures.len))
    ∙ sym (get_or-eq_default xs 0 (omega arith)))
