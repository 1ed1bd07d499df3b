-- `stream::calls::check_drain` meets its contract: the checks in their order.
-- Assumes nothing.
use Rattle.std.proofs.Common.{◌≡◌, ◌<◌, ◌≤◌, true, ◌||◌, leb, ◌⊎◌, inl, inr, [], ◌∷◌, ap, sym, ◌∙◌, ap₂, arith, le-ltb, lt-ltb, le-leb}
use borrow.Author.Tests.{lt-leb}
use Rattle.std.proofs.lemmas.Result.{err_from_is_err_and}
use Rattle.spec.specs.Stream.{State}
use Rattle.spec.specs.Picture.{full_height_of}
use Rattle.spec.specs.Refusals.{check, first, number, drain_checks, drain_not_due, other_output, too_few_cells}
use Rattle.stream.specs.Calls.{state_of}
use Rattle.stream.specs.Private.{sizes}
use Rattle.stream.specs.declared.sizes.Sizes.{Sizes}
use Rattle.stream.proofs.States.{gauged_front, gauged_then, gauged_sizes, first_holds, first_passed}
use Rattle.stream.proofs.calls.check_drain.Goals as goal

pub returns-in_err-sizes : goal.returns-in_err-sizes
unfolding drain_checks
returns-in_err-sizes c =
    let p = err_from_is_err_and c.from_residual.result c.from_residual.ensures.1 in
    rw (p.1, p.2) (gauged_front (state_of c.args.state) _ c.in_err-sizes.ensures _)

-- before its turn, or after all rows
not_due : (s : State) (a : Sizes) → a ≡ sizes s.recipe s.width s.height → (s.emitted < s.height) ⊎ ((s.height ≤ s.emitted) × (a.height ≤ s.emitted)) → drain_not_due s ≡ true
unfolding drain_not_due
not_due s a e (inl h) = ap (λ b. b || leb (full_height_of s.recipe s.height) s.emitted) (lt-ltb _ _ h)
not_due s a e (inr h) = ap₂ ◌||◌ (le-ltb _ _ h.0) (le-leb _ _ (omega (arith, ap (λ (x : Sizes). x.height) e)))

pub returns-then-state : goal.returns-then-state
unfolding drain_checks state_of number
returns-then-state c =
    let s = state_of c.args.state in
    sym (gauged_then s _ c.in_ok-sizes.ensures _ ∙ first_holds _ 10 _ (not_due s _ (gauged_sizes s _ c.in_ok-sizes.ensures) c.then-state.either))

pub returns : goal.returns
unfolding drain_checks drain_not_due state_of
returns c =
    let a = c.args in
    let s = state_of a.state in
    let t = gauged_sizes s _ c.in_ok-sizes.ensures in
    let h : s.emitted < full_height_of s.recipe s.height = omega (arith, ap (λ (x : Sizes). x.height) t, c.if-sizes-state.false) in
    c.check_buffers.ensures
    ∙ ap₂ (λ w n. first (check (other_output a.out w) 7 ∷ check (too_few_cells a.cells n) 8 ∷ [])) (ap (λ (x : Sizes). x.width) t) (ap (λ (x : Sizes). x.cells) t)
    ∙ sym (gauged_then s _ c.in_ok-sizes.ensures _ ∙ first_passed _ 10 _ (ap₂ ◌||◌ (le-ltb _ _ c.if-state.false) (lt-leb _ _ h)))
