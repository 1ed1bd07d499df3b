-- The checks of a state and of a call, one after the other.
-- Assumes nothing.
use Rattle.std.proofs.Common.{◌≡◌, ℕ, ◌<◌, ◌≤◌, Bool, true, false, ◌||◌, ltb, leb, List, [], ◌∷◌, ◌++◌, Result, Ok, Err, sym, refl, ap, ◌∙◌, true≢false, arith, le-ltb, lt-ltb, ltb-false, leb-false}
use Rattle.spec.specs.declared.refusal.Refusal.{Refusal}
use Rattle.spec.specs.declared.refusal.Refusal.TheVariants.{BadState}
use Rattle.spec.specs.Words.{tab, part, total, product, somewhere}
use Rattle.spec.specs.Recipe.{Recipe, recipe, widths, order, weight, gain}
use Rattle.spec.specs.Picture.{full_width_of, full_height_of}
use Rattle.spec.specs.Stream.{State, stream_cells}
use Rattle.spec.specs.Refusals.{Check, check, answer, told, number, first, either, lent, too_long, zero_width, too_far, too_heavy, bad_side, bad_sides, bad_state, row_not_due, drain_not_due, other_pixels, other_output, too_few_cells, recipe_checks, size_checks, cell_checks, row_checks, drain_checks}
use Rattle.laws.proofs.Numbers.{neither}
use Rattle.laws.proofs.Refusals.{first_front, first_none, same_length_so, is_sized}
use Rattle.stream.specs.Calls.{state_of, answers, push, drain, ZerosRefused}
use Rattle.laws.proofs.Results.{number_not_zero, told_err, told_ok, err_told, ok_told}
use Rattle.stream.specs.declared.sizes.Sizes.{Sizes}
use Rattle.stream.specs.Private.{Ready, sizes}

-- the needed cells ask nothing of a height: they are refused as the sides with a height of 1 are
pub cells_checked : (r : Recipe) (w : ℕ) → size_checks r w 1 ≡ cell_checks r w
unfolding size_checks cell_checks bad_sides bad_side
cells_checked r w = ap (λ b. recipe_checks r ++ check b 5 ∷ []) (go (bad_side w))
  where
    go : (b : Bool) → (b || bad_side 1) ≡ b
    go true = refl
    go false = refl

-- 9 holds where the recipe or a side is refused, and else by the rows yielded
module _ (s : State) where
  pub bad_refused : (n : ℕ) → first (size_checks s.recipe s.width s.height) ≡ n → (n ≡ 0 → ⊥) → bad_state s ≡ true
  unfolding bad_state size_checks recipe_checks first check
  bad_refused n e h =
      go (too_long s.recipe) (zero_width s.recipe) (too_far s.recipe) (too_heavy s.recipe) (bad_sides s.width s.height) e
    where
      f : Bool
      f = ltb (full_height_of s.recipe s.height) s.emitted

      go : (a b c d i : Bool) → first (check a 1 ∷ check b 2 ∷ check c 3 ∷ check d 4 ∷ check i 5 ∷ []) ≡ n → (a || b || c || d || i || f) ≡ true
      go true b c d i p = refl
      go false true c d i p = refl
      go false false true d i p = refl
      go false false false true i p = refl
      go false false false false true p = refl
      go false false false false false p = absurd (h (sym p))

  pub bad_late : first (size_checks s.recipe s.width s.height) ≡ 0
      → bad_state s ≡ ltb (full_height_of s.recipe s.height) s.emitted
  unfolding bad_state size_checks recipe_checks first check
  bad_late e =
      go (too_long s.recipe) (zero_width s.recipe) (too_far s.recipe) (too_heavy s.recipe) (bad_sides s.width s.height) e
    where
      f : Bool
      f = ltb (full_height_of s.recipe s.height) s.emitted

      go : (a b c d i : Bool) → first (check a 1 ∷ check b 2 ∷ check c 3 ∷ check d 4 ∷ check i 5 ∷ []) ≡ 0 → (a || b || c || d || i || f) ≡ f
      go true b c d i p = absurd (omega arith)
      go false true c d i p = absurd (omega arith)
      go false false true d i p = absurd (omega arith)
      go false false false true i p = absurd (omega arith)
      go false false false false true p = absurd (omega arith)
      go false false false false false p = refl

-- the first check holds, or the rest decides
pub first_holds : (b : Bool) (n : ℕ) (cs : List Check) → b ≡ true → first (check b n ∷ cs) ≡ n
unfolding first check
first_holds b n cs e = rw e refl

pub first_passed : (b : Bool) (n : ℕ) (cs : List Check) → b ≡ false → first (check b n ∷ cs) ≡ first cs
unfolding first check
first_passed b n cs e = rw e refl

-- the sizes for a state, of those for its recipe and sides
module _ (s : State) where
  abbrev is : Sizes → Sizes
  is a = a

  abbrev asked : Result Sizes Refusal → Type 0
  asked r = told is r ≡ answer (size_checks s.recipe s.width s.height) (sizes s.recipe s.width s.height)

  abbrev gauged : Result Sizes Refusal → Type 0
  gauged r = told is r ≡ answer (check (bad_state s) 9 ∷ []) (sizes s.recipe s.width s.height)

  -- refused
  bad : bad_state s ≡ true → gauged (Err BadState)
  unfolding number
  bad e = told_err is (check (bad_state s) 9 ∷ []) (sizes s.recipe s.width s.height) BadState (first_holds (bad_state s) 9 [] e)

  pub gauged_refused : (e : Refusal) → asked (Err e) → gauged (Err BadState)
  gauged_refused e p =
      bad (bad_refused s _ (err_told is (size_checks s.recipe s.width s.height) (sizes s.recipe s.width s.height) e p) (number_not_zero e))

  module _ (a : Sizes) (p : asked (Ok a)) where
    known : (first (size_checks s.recipe s.width s.height) ≡ 0) × (a ≡ sizes s.recipe s.width s.height)
    known = ok_told is (size_checks s.recipe s.width s.height) (sizes s.recipe s.width s.height) a p

    height_is : a.height ≡ full_height_of s.recipe s.height
    height_is = ap (λ (x : Sizes). x.height) known.1

    pub gauged_late : a.height < s.emitted → gauged (Err BadState)
    gauged_late h = bad (bad_late s known.0 ∙ lt-ltb (full_height_of s.recipe s.height) s.emitted (omega (arith, height_is)))

    pub gauged_ok : s.emitted ≤ a.height → gauged (Ok a)
    unfolding first
    gauged_ok h =
        let late = bad_late s known.0 ∙ le-ltb (full_height_of s.recipe s.height) s.emitted (omega (arith, height_is)) in
        told_ok is (check (bad_state s) 9 ∷ []) (sizes s.recipe s.width s.height) a (first_passed (bad_state s) 9 [] late) known.1

  -- the checks of a call after that of its state
  pub gauged_front : (e : Refusal) → gauged (Err e) → (cs : List Check) → number e ≡ first (check (bad_state s) 9 ∷ cs)
  gauged_front e p cs =
      sym (first_front (check (bad_state s) 9 ∷ []) cs (number e) (err_told is (check (bad_state s) 9 ∷ []) (sizes s.recipe s.width s.height) e p) (number_not_zero e))

  module _ (a : Sizes) (p : gauged (Ok a)) where
    pub gauged_then : (cs : List Check) → first (check (bad_state s) 9 ∷ cs) ≡ first cs
    gauged_then cs =
        let q = ok_told is (check (bad_state s) 9 ∷ []) (sizes s.recipe s.width s.height) a p in
        first_passed (bad_state s) 9 cs (first_none (bad_state s) 8 [] q.0).0

    pub gauged_sizes : a ≡ sizes s.recipe s.width s.height
    gauged_sizes = (ok_told is (check (bad_state s) 9 ∷ []) (sizes s.recipe s.width s.height) a p).1

-- what is known of a call that is accepted
module _ (s : State) where
  pub bad_none : bad_state s ≡ false → first (size_checks s.recipe s.width s.height) ≡ 0
  unfolding bad_state size_checks recipe_checks first check
  bad_none e =
      go (too_long s.recipe) (zero_width s.recipe) (too_far s.recipe) (too_heavy s.recipe) (bad_sides s.width s.height) e
    where
      f : Bool
      f = ltb (full_height_of s.recipe s.height) s.emitted

      go : (a b c d i : Bool) → (a || b || c || d || i || f) ≡ false → first (check a 1 ∷ check b 2 ∷ check c 3 ∷ check d 4 ∷ check i 5 ∷ []) ≡ 0
      go true b c d i p = absurd (true≢false p)
      go false true c d i p = absurd (true≢false p)
      go false false true d i p = absurd (true≢false p)
      go false false false true i p = absurd (true≢false p)
      go false false false false true p = absurd (true≢false p)
      go false false false false false p = refl

  ready : (out cells : ℕ) → bad_state s ≡ false → s.emitted < full_height_of s.recipe s.height
      → first (check (other_output out (full_width_of s.recipe s.width)) 7 ∷ check (too_few_cells cells (stream_cells s.recipe s.width)) 8 ∷ []) ≡ 0
      → Ready s out cells
  unfolding too_few_cells other_output other_pixels
  ready out cells bad due e =
      let seven = first_none (other_output out (full_width_of s.recipe s.width)) 6 _ e in
      let eight = first_none (too_few_cells cells (stream_cells s.recipe s.width)) 7 _ seven.1 in
      record {
        sizes = bad_none bad;
        due = due;
        output = same_length_so out (full_width_of s.recipe s.width) seven.0;
        enough = ltb-false cells (stream_cells s.recipe s.width) eight.0;
      }

  pub row_ready : (pixels out cells : ℕ) → first (row_checks s pixels out cells) ≡ 0 → Ready s out cells × (pixels ≡ s.width) × (s.emitted < s.height)
  unfolding row_checks row_not_due full_height_of
  row_ready pixels out cells e =
      let nine = first_none (bad_state s) 8 _ e in
      let ten = first_none (row_not_due s) 9 _ nine.1 in
      let six = first_none (other_pixels pixels s.width) 5 _ ten.1 in
      let due : s.emitted < s.height = leb-false s.height s.emitted ten.0 in
      (ready out cells nine.0 (omega arith) six.1, same_length_so pixels s.width six.0, due)

  pub drain_ready : (out cells : ℕ) → first (drain_checks s out cells) ≡ 0 → Ready s out cells × (s.height ≤ s.emitted)
  unfolding drain_checks drain_not_due
  drain_ready out cells e =
      let nine = first_none (bad_state s) 8 _ e in
      let ten = first_none (drain_not_due s) 9 _ nine.1 in
      let both = neither (ltb s.emitted s.height) (leb (full_height_of s.recipe s.height) s.emitted) ten.0 in (
        ready out cells nine.0 (leb-false (full_height_of s.recipe s.height) s.emitted both.1) ten.1,
        ltb-false s.emitted s.height both.0,
      )

-- the row of a state that is ready is not too long
pub ready_wide : (s : State) (out cells : ℕ) → Ready s out cells → (0 < out) × (out ≤ 1279)
unfolding full_width_of
ready_wide s out cells k =
    let a = is_sized s.recipe s.width s.height k.sizes in
    (omega (arith, k.output, a.1.width), omega (arith, k.output, a.1.width, a.0.row_reach))

-- a state of zeros
pub zeros_refused : ZerosRefused
unfolding push drain answers lent either first check row_checks drain_checks bad_state too_long zero_width too_far too_heavy bad_sides bad_side state_of recipe widths part tab somewhere order weight gain total product
zeros_refused pixels out cells = (refl, refl)
