-- What `search` does not find of `skip`.
use mathlib.Core.Path.{◌≡◌, refl, sym, ap, ◌∙◌}
use Prim.Native.Nat.{suc, ◌+◌, ◌-◌}
use native.Mathlib.Nat.{sub-zero}
use native.Mathlib.Omega.{arith}
use borrow.Author.Rules.{rules}
use Rattle.rows.specs.Advance.{skip}
use Rattle.rows.proofs.Advancing.{skip_more, skip_refused}
use Rattle.rows.proofs.skip.Goals as goal

pub loop-init : goal.loop-init
loop-init c =
    let a = c.args in
    record { wide = refl; long = refl; leads = ap (λ n. skip n a.state a.pixels.now a.row.now a.cells.now) (sub-zero a.count) }

pub returns-in-Err : goal.returns-in-Err
returns-in-Err c =
    let turn = c.loop in
    let a = c.args in
    skip_refused (a.count - turn.counter) turn.at a.pixels.now turn.row turn.cells _ _ _ c.in-Err.ensures ∙ turn.invariant.leads

pub loop-preserved : goal.loop-preserved
loop-preserved c =
    let turn = c.loop in
    let a = c.args in
    let one : a.count - turn.counter ≡ suc (a.count - (turn.counter + 1)) = omega (arith, c.loop-test.true) in
    record {
      wide = search rules;
      long = search rules;
      leads = sym (skip_more turn.at a.pixels.now turn.row turn.cells _ _ one _ _ _ c.in-Ok.ensures) ∙ turn.invariant.leads;
    }

pub returns : goal.returns
unfolding skip
returns c =
    let turn = c.loop in
    let a = c.args in
    let none : a.count - turn.counter ≡ 0 = omega (arith, c.loop-test.false) in
    sym (ap (λ n. skip n turn.at a.pixels.now turn.row turn.cells) none) ∙ turn.invariant.leads
