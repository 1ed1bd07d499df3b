-- What the checks of the method answer, by the lengths of the slices, and those of the ladder, by the level first.
-- Assumes nothing.
use mathlib.Core.Path.{◌≡◌, refl, sym, ap, ap₂, ◌∙◌}
use mathlib.Core.Bool.{true, false, true≢false}
use mathlib.Core.List.{List, [], ◌∷◌, ◌++◌}
use Prim.Native.Nat.{ℕ, ◌*◌, ◌≤◌, ◌<◌}
use native.Mathlib.Nat.{le_trans, le_of_eq}
use native.Mathlib.Omega.{arith}
use lib.Dec.{eqb, ltb}
use lib.ListN.{length, take, drop}
use lib.Seq.{length-take-le, take_at}
use borrow.Author.Tests.{eq-eqb, ltb-false}
use Rattle.std.specs.Prelude.{Ok}
use Rattle.spec.specs.Recipe.{Recipe}
use Rattle.spec.specs.Picture.{Picture, full_sides}
use Rattle.spec.specs.Ladder.{Axes, ladder}
use Rattle.spec.specs.Refusals.{check, first, answer, other_pixels, other_output, too_few_cells, bad_level, full_size, size_checks, picture_checks, pass_checks, ladder_checks}
use Rattle.laws.proofs.Numbers.{neither}
use Rattle.laws.proofs.Refusals.{AcceptedPicture, is_accepted_picture, none_both, first_none, same_length_so, picture_numbered, picture_sides, picture_pixels, picture_rest, by_output, after_output, by_cells, after_cells}
use Rattle.laws.proofs.Results.{ok_told}
use Rattle.filter.specs.declared.sizes.Sides.{Sides}
use Rattle.filter.specs.Answers.{sides, size_told}

module _ (r : Recipe) (p : Picture) (out cells : ℕ) where
  -- 1 to 5
  pub asked_sides : (n : ℕ) → first (size_checks r p.width p.height) ≡ n → (n ≡ 0 → ⊥) → first (pass_checks r p out cells) ≡ n
  unfolding pass_checks
  asked_sides n e h = picture_sides r p _ n e h

  module _ (z : first (size_checks r p.width p.height) ≡ 0) where
    pub asked_pixels : (length p.pixels ≡ p.width * p.height → ⊥) → first (pass_checks r p out cells) ≡ 6
    unfolding pass_checks
    asked_pixels h = picture_pixels r p _ z h

    module _ (l : length p.pixels ≡ p.width * p.height) where
      rest : first (pass_checks r p out cells) ≡ first (check (other_output out (full_size r p)) 7 ∷ check (too_few_cells cells (full_size r p)) 8 ∷ [])
      unfolding pass_checks
      rest = picture_rest r p _ z l

      pub asked_output : (out ≡ full_size r p → ⊥) → first (pass_checks r p out cells) ≡ 7
      asked_output h = rest ∙ by_output _ out (full_size r p) h

      module _ (m : out ≡ full_size r p) where
        then : first (pass_checks r p out cells) ≡ first (check (too_few_cells cells (full_size r p)) 8 ∷ [])
        then = rest ∙ after_output _ out (full_size r p) m

        pub asked_cells : cells < full_size r p → first (pass_checks r p out cells) ≡ 8
        asked_cells h = then ∙ by_cells [] cells (full_size r p) h

        pub asked_all : full_size r p ≤ cells → first (pass_checks r p out cells) ≡ 0
        unfolding first
        asked_all h = then ∙ after_cells [] cells (full_size r p) h

  -- what is known where none holds
  pub record Asked : Type 0 where
    pub picture : AcceptedPicture r p
    pub output : out ≡ full_size r p
    pub work : full_size r p ≤ cells

  pub asked_none : first (pass_checks r p out cells) ≡ 0 → Asked
  unfolding pass_checks other_output other_pixels too_few_cells
  asked_none e =
      let both = none_both (picture_checks r p) _ (picture_numbered r p) e in
      let seven = first_none (other_output out (full_size r p)) 6 _ both.1 in
      let eight = first_none (too_few_cells cells (full_size r p)) 7 _ seven.1 in
      record {
        picture = is_accepted_picture r p both.0;
        output = same_length_so out (full_size r p) seven.0;
        work = ltb-false cells (full_size r p) eight.0;
      }

-- where the grown sides came back, for an output and work cells of these lengths
module _ (r : Recipe) (p : Picture) (out cells : List ℕ) (came : Sides)
    (told : size_told (Ok came) ≡ answer (pass_checks r p (length out) (length cells)) (full_sides r p.width p.height)) where
  -- none of 1 to 8 holds, and these are the grown sides
  pub came_sides : (first (pass_checks r p (length out) (length cells)) ≡ 0) × (sides came ≡ full_sides r p.width p.height)
  came_sides = ok_told sides _ _ came told

  -- what is known then
  pub asked : Asked r p (length out) (length cells)
  asked = asked_none r p (length out) (length cells) came_sides.0

  -- the part of the work cells that is lent is as long as the output
  pub cells_enough : length out ≤ length cells
  cells_enough = le_trans (le_of_eq asked.output) asked.work

  pub part_long : length (take (length out) cells) ≡ length out
  part_long = length-take-le (length out) cells cells_enough

  -- and it comes back in front of the others
  pub lent_back : (work : List ℕ) → length work ≡ length out
      → work ++ drop (length out) cells ≡ take (full_size r p) (work ++ drop (length out) cells) ++ drop (full_size r p) cells
  lent_back work e =
      ap₂ ◌++◌ (sym (take_at work (drop (length out) cells) (full_size r p) (e ∙ asked.output))) (ap (λ n. drop n cells) asked.output)

-- the ladder: 16, and where the level is one of 1 to 8 the checks of the method
pub by_level : (a : Axes) (level : ℕ) (p : Picture) (out cells : ℕ) → bad_level level ≡ true → first (ladder_checks a level p out cells) ≡ 16
unfolding ladder_checks check first
by_level a level p out cells e = rw e refl

pub after_level : (a : Axes) (level : ℕ) (p : Picture) (out cells : ℕ) → bad_level level ≡ false
    → first (ladder_checks a level p out cells) ≡ first (pass_checks (ladder a level) p out cells)
unfolding ladder_checks check first
after_level a level p out cells e = rw e refl

pub level_within : (level : ℕ) → bad_level level ≡ false → (0 < level) × (level ≤ 8)
unfolding bad_level
level_within level e =
    let both = neither (eqb level 0) (ltb 8 level) e in
    let some : level ≡ 0 → ⊥ = λ z. true≢false (sym (eq-eqb level 0 z) ∙ both.0) in
    (omega arith, ltb-false 8 level both.1)
