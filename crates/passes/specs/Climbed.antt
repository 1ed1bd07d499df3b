-- What the fading ladder answers, what the two lent slices then contain, and the claims about its levels.
use Rattle.std.specs.Prelude.{◌≡◌, List, ℕ, suc, ◌≤◌, ◌<◌, length}
use Rattle.spec.specs.Picture.{Picture, full, grown}
use Rattle.spec.specs.Ladder.{Axes, rows_only, both_axes, ladder, rung}
use Rattle.spec.specs.Refusals.{Check, Written, first, full_size, picture_checks, ladder_checks}
use Rattle.passes.specs.declared.climbing.Axes.{Axes as Choice}
use Rattle.passes.specs.declared.climbing.Axes.TheVariants as choice

-- rows only or both axes, as they are chosen
abbrev pub axes_of : Choice → Axes
axes_of choice.Rows = rows_only
axes_of choice.Both = both_axes

-- 16, then 1 to 8 for the level's recipe, for an output and work cells of these lengths
abbrev pub level_checks : Axes → ℕ → Picture → List ℕ → List ℕ → List Check
level_checks a level p out cells = ladder_checks a level p (length out) (length cells)

-- all exact sums of the whole recipe, worked from the picture; as many work cells as that grown picture has places
abbrev pub Climbed : Axes → ℕ → Picture → List ℕ → List ℕ → ℕ → List ℕ → List ℕ → Type 0
Climbed a level p out cells = Written (level_checks a level p out cells) (full (ladder a level) p) (full_size (ladder a level) p) out cells

-- The claim about the sums: those of each level from 2 on are those of its one new width, worked on the sums of the level below as a picture
-- of their size. It asks nothing of the picture, and holds of the levels that are refused too.
abbrev pub FromBelow : Type 0
FromBelow = (a : Axes) (level : ℕ) (p : Picture) → 0 < level → level < 8
    → full (ladder a (suc level)) p ≡ full (rung a (suc level)) (grown (ladder a level) p.width p.height (full (ladder a level) p))

-- a call for a level that is lent an output of its grown size and cells enough, with whatever it then answers and leaves
pub record LevelCall (a : Axes) (level : ℕ) (p : Picture) : Type 0 where
  pub out : List ℕ
  pub cells : List ℕ
  pub exactly : length out ≡ full_size (ladder a level) p
  pub enough : full_size (ladder a level) p ≤ length cells
  pub number : ℕ
  pub new_out : List ℕ
  pub new_cells : List ℕ
  pub contract : Climbed a level p out cells number new_out new_cells

-- The claim about calls: where a level from 2 on accepts the picture, the call for it and that for the level below are accepted, and what the
-- one leaves is its one new width, worked on what the other left. It is not empty: the call answers to every argument, and
-- spec/proofs/Examples.antt, `levels_accepted`, has a picture that levels 1 to 8 along the rows and 1 to 5 on both axes accept.
abbrev pub CallsFromBelow : Type 0
CallsFromBelow = (a : Axes) (level : ℕ) (p : Picture) → 0 < level → level < 8 → first (picture_checks (ladder a (suc level)) p) ≡ 0
    → (below : LevelCall a level p) (above : LevelCall a (suc level) p)
    → (below.number ≡ 0) × (above.number ≡ 0)
    × (above.new_out ≡ full (rung a (suc level)) (grown (ladder a level) p.width p.height below.new_out))

-- On both axes levels 6 to 8 are too heavy: whatever is lent, the answer is 4. It is not empty either, since the call answers to every
-- argument.
abbrev pub TooHeavy : Type 0
TooHeavy = (level : ℕ) (p : Picture) (out cells : List ℕ) (number : ℕ) (new_out new_cells : List ℕ) → 6 ≤ level → level ≤ 8
    → Climbed both_axes level p out cells number new_out new_cells → number ≡ 4
