-- What the same-size blur answers: the order of its checks, and what is left where one of them holds and where none does.
-- Assumes nothing.
use mathlib.Core.Path.{◌≡◌, sym, ap, ◌∙◌}
use mathlib.Core.Logic.{◌⊎◌, inl, inr}
use mathlib.Core.Bool.{◌||◌}
use mathlib.Core.List.{List, [], ◌∷◌, ◌++◌}
use Prim.Native.Nat.{ℕ, ◌+◌, ◌*◌, ◌≤◌, ◌<◌}
use native.Mathlib.Nat.{mul_comm}
use lib.IntN.{ℤ}
use lib.ListN.{length, get_or, take, drop}
use Rattle.spec.specs.Recipe.{Recipe}
use Rattle.spec.specs.Picture.{Picture}
use Rattle.spec.specs.Gray.{places, same_gray, same_leftover}
use Rattle.spec.specs.Refusals.{Check, check, first, lent, other_output, too_few_cells, full_size, size_checks, same_size_checks}
use Rattle.laws.proofs.Refusals.{picture_sides, picture_pixels, picture_rest, by_outputs, by_second_output, after_outputs, by_cells, after_cells, lent_refused, lent_accepted, written_not, written_all}
use Rattle.laws.proofs.Rows.{length_rows, get_d_rows}
use Rattle.blur.specs.Blurred.{Blurred, checks}

module _ (r : Recipe) (p : Picture) (out left cells : ℕ) where
  abbrev number : ℕ
  number = first (same_size_checks r p out left cells)

  pub blur_sides : (n : ℕ) → first (size_checks r p.width p.height) ≡ n → (n ≡ 0 → ⊥) → number ≡ n
  unfolding same_size_checks
  blur_sides n e h = picture_sides r p _ n e h

  module _ (z : first (size_checks r p.width p.height) ≡ 0) where
    abbrev size : ℕ
    size = p.width * p.height

    pub blur_pixels : (length p.pixels ≡ size → ⊥) → number ≡ 6
    unfolding same_size_checks
    blur_pixels h = picture_pixels r p _ z h

    module _ (e : length p.pixels ≡ size) where
      rest : number ≡ first (check (other_output out size || other_output left size) 7 ∷ check (too_few_cells cells (2 * full_size r p)) 8 ∷ [])
      unfolding same_size_checks
      rest = picture_rest r p _ z e

      blur_output : (out ≡ size → ⊥) → number ≡ 7
      blur_output h = rest ∙ by_outputs _ _ _ _ h

      module _ (f : out ≡ size) where
        blur_leftovers : (left ≡ size → ⊥) → number ≡ 7
        blur_leftovers h = rest ∙ by_second_output _ _ _ _ f h

        module _ (g : left ≡ size) where
          pub blur_cells : cells < 2 * full_size r p → number ≡ 8
          blur_cells h = rest ∙ after_outputs _ _ _ _ f g ∙ by_cells _ _ _ h

          pub blur_none : 2 * full_size r p ≤ cells → number ≡ 0
          unfolding first
          blur_none h =
              rest
              ∙ after_outputs (check (too_few_cells cells (2 * full_size r p)) 8 ∷ []) _ _ _ f g
              ∙ after_cells [] _ _ h

      -- one of the two outputs has another length
      pub blur_unlike : (out ≡ size → ⊥) ⊎ ((out ≡ size) × (left ≡ size → ⊥)) → number ≡ 7
      blur_unlike (inl h) = blur_output h
      blur_unlike (inr h) = blur_leftovers h.0 h.1

-- on a refusal nothing is written; otherwise all is
module _ (r : Recipe) (p : Picture) (out : List ℕ) (left : List ℤ) (cells : List ℕ) where
  pub blur_not : (n : ℕ) → first (checks r p out left cells) ≡ n → (n ≡ 0 → ⊥) → Blurred r p out left cells n out left cells
  blur_not n e h = record { grays = written_not _ _ _ _ _ n e h; leftovers = sym (lent_refused _ _ left n e h) }

  pub blur_all : first (checks r p out left cells) ≡ 0 → (new_out : List ℕ) (new_left : List ℤ) (new_cells : List ℕ)
      → new_out ≡ places p (same_gray r p) → new_left ≡ places p (same_leftover r p)
      → new_cells ≡ take (2 * full_size r p) new_cells ++ drop (2 * full_size r p) cells → length new_cells ≡ length cells
      → Blurred r p out left cells 0 new_out new_left new_cells
  blur_all e new_out new_left new_cells m l w n =
      record { grays = written_all _ _ _ _ _ e new_out new_cells m w n; leftovers = l ∙ sym (lent_accepted _ _ left e) }

-- where no check holds, a slice that is left has one entry for each picture place
module _ {A : Type 0} (p : Picture) (f : ℕ → ℕ → A) (d : A) (cs : List Check) (none : first cs ≡ 0) (old new : List A) (is : new ≡ lent cs (places p f) old) where
  made : new ≡ places p f
  made = is ∙ lent_accepted cs (places p f) old none

  pub left_size : length new ≡ p.width * p.height
  unfolding places
  left_size = ap length made ∙ length_rows p.width p.height (λ j i. f i j) ∙ mul_comm p.height p.width

  pub left_at : (i j : ℕ) → i < p.width → j < p.height → get_or new (j * p.width + i) d ≡ f i j
  unfolding places
  left_at i j h l = ap (λ x. get_or x (j * p.width + i) d) made ∙ get_d_rows p.width p.height (λ j i. f i j) d j i l h
