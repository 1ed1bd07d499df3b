-- The widths that are worked together, and the slots of the wider ones among them.
-- Assumes nothing.
use Rattle.std.proofs.Common.{◌≡◌, ℕ, ◌+◌, ◌*◌, ◌%◌, ◌<◌, List, [], ◌∷◌, length, get_or, take, set, sym, refl, ap, ◌∙◌, ap₂, mul_comm, arith, get_or-set_other, get_or-set_same}
use native.Mathlib.Decide.{dec_lt}
use Rattle.spec.specs.Words.{total}
use Rattle.spec.specs.Stream.{box_cells}
use Rattle.laws.proofs.Lists.{total_more}
use Rattle.stream.specs.Stages.{slot_before}
use Rattle.stream.specs.declared.columns.Slot.{Slot}
use Rattle.stream.specs.Private.{no_slot, slot_at, Group}
use Rattle.stream.proofs.Boxes.{cells_wide}

-- ---- the widths that are worked together

-- a width below 2 is alone
pub group_idle : (ns : List ℕ) → Group ns → get_or ns 0 0 < 2 → ns ≡ get_or ns 0 0 ∷ []
group_idle [] g h = absurd (omega (arith, g.some))
group_idle (n ∷ []) g h = refl
group_idle (n ∷ (m ∷ ns)) g h = absurd (omega (arith, g.one h))

-- ---- the slots of a group of wider ones, placed one after the other

-- one entry more, where each is to follow a rule
set_more : (f : ℕ → ℕ) (of : Slot → ℕ) (xs : List Slot) (s : ℕ) (v : Slot) → s < length xs → ((t : ℕ) → t < s → of (slot_at xs t) ≡ f t) → of v ≡ f s
    → (t : ℕ) → t < s + 1 → of (slot_at (set xs s v) t) ≡ f t
set_more f of xs s v h so e t l =
    elim (dec_lt t s) [
      | yes g ↦ ap of (get_or-set_other xs s t v no_slot (λ d. absurd (omega arith))) ∙ so t g
      | no g ↦
          let d : s ≡ t = omega arith in
          ap (λ i. of (slot_at (set xs s v) i)) (sym d) ∙ ap of (get_or-set_same xs s v no_slot h) ∙ e ∙ ap f d
    ]

module _ (w e : ℕ) (ns : List ℕ) where
  -- the first cells of the two slots
  abbrev before_at : ℕ → ℕ
  before_at s = total (λ n. w * box_cells n) (take s ns) + slot_before (get_or ns s 0) e * w

  abbrev oldest_at : ℕ → ℕ
  oldest_at s = total (λ n. w * box_cells n) (take s ns) + e % get_or ns s 0 * w

  module _ (slots : List Slot) where
    pub record Placing (s start : ℕ) : Type 0 where
      pub start_is : start ≡ total (λ n. w * box_cells n) (take s ns)
      pub before : (t : ℕ) → t < s → (slot_at slots t).before ≡ before_at t
      pub oldest : (t : ℕ) → t < s → (slot_at slots t).oldest ≡ oldest_at t

    pub placing_none : Placing 0 0
    unfolding total
    placing_none = record { start_is = refl; before = λ t h. absurd (omega arith); oldest = λ t h. absurd (omega arith) }

  pub placing_more : (slots : List Slot) (s start : ℕ) → Placing slots s start → (n : ℕ) → n ≡ get_or ns s 0 → 2 < n → s < length ns
      → s < length slots → (v : Slot) → v.before ≡ start + slot_before n e * w → v.oldest ≡ start + e % n * w
      → Placing (set slots s v) (s + 1) (start + n * w)
  placing_more slots s start p n is wide h inside v eb eo =
      let size : n * w ≡ w * box_cells (get_or ns s 0) = mul_comm n w ∙ ap (λ k. w * k) (sym (cells_wide n wide)) ∙ ap (λ k. w * box_cells k) is in
      record {
        start_is = ap₂ ◌+◌ p.start_is size ∙ sym (total_more (λ n. w * box_cells n) ns s h);
        before = set_more before_at (λ (u : Slot). u.before) slots s v inside p.before (eb ∙ ap₂ (λ t k. t + slot_before k e * w) p.start_is is);
        oldest = set_more oldest_at (λ (u : Slot). u.oldest) slots s v inside p.oldest (eo ∙ ap₂ (λ t k. t + e % k * w) p.start_is is);
      }
