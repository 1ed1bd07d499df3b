-- A row call and a drain keep the recipe of their state, so that what they leave is told by the words alone; and no two pairs of blocks
-- stand for the same state.
-- Assumes nothing.
use mathlib.Core.Path.{◌≡◌, refl, sym, ap, ◌∙◌}
use mathlib.Core.List.{List, [], ◌∷◌}
use Prim.Native.Nat.{ℕ, zero, suc}
use Rattle.spec.specs.declared.Filter.{Filter}
use Rattle.std.specs.Prelude.{Ok, Err}
use Rattle.spec.specs.Refusals.{Check, first, either, lent, number}
use Rattle.laws.proofs.Results.{number_not_zero}
use Rattle.stream.specs.declared.calls.State.{State}
use Rattle.stream.specs.declared.calls.Stepped.{Stepped}
use Rattle.stream.specs.declared.calls.Refused.{Refused}
use Rattle.stream.specs.Calls.{state_at, Called, called as calledBy, answers, steps, next, push, drain}
use lib.ListN.{length}
use Rattle.blocks.specs.Given.{given}
use Rattle.blocks.proofs.Standing.{given_one, words_one}
use Rattle.sums_c.specs.States.{given_state, called}

either_keeps : (n : ℕ) (a b : Called) (f : Filter) → a.state.filter ≡ f → b.state.filter ≡ f → (either n a b).state.filter ≡ f
unfolding either
either_keeps zero a b f p q = p
either_keeps (suc n) a b f p q = q

answer_keeps : (cs : List Check) (s : State) (pixels out cells : List ℕ) → (answers cs s pixels out cells).state.filter ≡ s.filter
unfolding answers lent steps next
answer_keeps cs s pixels out cells = either_keeps (first cs) _ _ s.filter refl refl

pub push_keeps : (s : State) (pixels out cells : List ℕ) → (push s pixels out cells).state.filter ≡ s.filter
unfolding push
push_keeps s pixels out cells = answer_keeps _ s pixels out cells

pub drain_keeps : (s : State) (out cells : List ℕ) → (drain s out cells).state.filter ≡ s.filter
unfolding drain
drain_keeps s out cells = answer_keeps _ s [] out cells

-- what an accepted call left, with the recipe that was given and the words of the state that it answered
pub told : (block : List ℕ) (a : Stepped) (out cells : List ℕ) (want : Called) → calledBy (Ok a) out cells ≡ want → want.state.filter ≡ given block
    → called 0 (given_state block (a.state.width ∷ a.state.height ∷ a.state.emitted ∷ [])) a.count out cells ≡ want
unfolding calledBy called given_state
told block a out cells want e k =
    let same : given block ≡ a.state.filter = sym k ∙ sym (ap (λ (c : Called). c.state.filter) e) in
    (λ i. record {
      number = 0;
      state = state_at (same i) a.state.width a.state.height a.state.emitted;
      count = a.count;
      out = out;
      cells = cells;
    })
    ∙ e

-- a call that is refused keeps its whole state
either_state : (n : ℕ) (a b : Called) (s : State) → a.number ≡ 0 → b.state ≡ s → ((either n a b).number ≡ 0 → ⊥) → (either n a b).state ≡ s
unfolding either
either_state zero a b s p q h = absurd (h p)
either_state (suc n) a b s p q h = q

module _ (e : Refused) (s : State) (new_out new_cells : List ℕ) where
  same_state : (want : Called) → want.state ≡ s → calledBy (Err e) new_out new_cells ≡ want → called (number e.refusal) s 0 new_out new_cells ≡ want
  unfolding calledBy called
  same_state want k q =
      let same : s ≡ e.state = sym k ∙ sym (ap (λ (c : Called). c.state) q) in
      (λ i. record { number = number e.refusal; state = same i; count = 0; out = new_out; cells = new_cells }) ∙ q

  refused : (cs : List Check) (pixels out cells : List ℕ) → calledBy (Err e) new_out new_cells ≡ answers cs s pixels out cells
      → called (number e.refusal) s 0 new_out new_cells ≡ answers cs s pixels out cells
  unfolding calledBy answers lent steps
  refused cs pixels out cells q =
      same_state _
      (either_state (first cs) _ _ s refl refl (λ z. number_not_zero e.refusal (ap (λ (c : Called). c.number) q ∙ z)))
      q

  pub push_refused : (pixels out cells : List ℕ) → calledBy (Err e) new_out new_cells ≡ push s pixels out cells
      → called (number e.refusal) s 0 new_out new_cells ≡ push s pixels out cells
  unfolding push
  push_refused pixels out cells q = refused _ pixels out cells q

  pub drain_refused : (out cells : List ℕ) → calledBy (Err e) new_out new_cells ≡ drain s out cells
      → called (number e.refusal) s 0 new_out new_cells ≡ drain s out cells
  unfolding drain
  drain_refused out cells q = refused _ [] out cells q

-- blocks that stand for the same state are the same
pub state_one : (a b v w : List ℕ) → length a ≡ 98 → length b ≡ 98 → length v ≡ 3 → length w ≡ 3 → given_state a v ≡ given_state b w
    → (a ≡ b) × (v ≡ w)
unfolding given_state
state_one a b v w la lb lv lw e = (
  given_one a b la lb (ap (λ (s : State). s.filter) e),
  words_one v w lv lw (ap (λ (s : State). s.width) e) (ap (λ (s : State). s.height) e) (ap (λ (s : State). s.emitted) e),
)
