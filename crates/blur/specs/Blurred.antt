-- What the same-size blur answers, and what the lent slices then contain.
use Rattle.std.specs.Prelude.{◌≡◌, List, ℕ, ◌*◌, ℤ, length}
use Rattle.spec.specs.Recipe.{Recipe}
use Rattle.spec.specs.Picture.{Picture}
use Rattle.spec.specs.Gray.{places, same_gray, same_leftover}
use Rattle.spec.specs.Refusals.{Check, Written, first, lent, full_size, same_size_checks}

-- the checks of a call that lends these slices for greys, for leftovers and for work
abbrev pub checks : Recipe → Picture → List ℕ → List ℤ → List ℕ → List Check
checks r p out left cells = same_size_checks r p (length out) (length left) (length cells)

pub record Blurred (r : Recipe) (p : Picture) (out : List ℕ) (left : List ℤ) (cells : List ℕ) (number : ℕ) (new_out : List ℕ) (new_left : List ℤ) (new_cells : List ℕ) : Type 0 where
  -- the number, the grey at each picture place, and twice the grown size in work cells
  pub grays : Written (checks r p out left cells) (places p (same_gray r p)) (2 * full_size r p) out cells number new_out new_cells
  -- the leftover at each picture place, or on a refusal what the slice held
  pub leftovers : new_left ≡ lent (checks r p out left cells) (places p (same_leftover r p)) left

-- a call to which no check applies: what it is lent, and what it answers and leaves, anything that the contract admits
pub record BlurCall (r : Recipe) (p : Picture) : Type 0 where
  pub out : List ℕ
  pub left : List ℤ
  pub cells : List ℕ
  pub number : ℕ
  pub new_out : List ℕ
  pub new_left : List ℤ
  pub new_cells : List ℕ
  pub none : first (checks r p out left cells) ≡ 0
  pub told : Blurred r p out left cells number new_out new_left new_cells
