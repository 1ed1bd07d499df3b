-- What `search` does not find of `buffers::Buffers::turn`.
use mathlib.Core.Path.{sym, ap, ◌∙◌}
use borrow.Author.Tests.{eq-eqb, ne_eqb}
use Rattle.laws.proofs.Kernels.{at}
use Rattle.laws.proofs.Cascades.{spread, spread_unit}
use Rattle.passes.specs.Turned.{turned, held}
use Rattle.passes.proofs.buffers.Buffers.turn.Goals as goal

pub returns-then-n-eq1-clause-holder : goal.returns-then-n-eq1-clause-holder
unfolding turned
returns-then-n-eq1-clause-holder c = simp (eq-eqb _ _ c.if-n-eq1.true)

pub returns-then-n-eq1-clause-sums : goal.returns-then-n-eq1-clause-sums
returns-then-n-eq1-clause-sums c =
    let args = c.args in
    let f = at (held args.self.now) in
    λ k h. sym (ap (λ n. spread args.step n f k) c.if-n-eq1.true ∙ spread_unit args.step f k)

pub returns-clause-holder : goal.returns-clause-holder
unfolding turned
returns-clause-holder c = simp (ne_eqb _ _ c.if-n-eq1.false) c.other-self.ensures
