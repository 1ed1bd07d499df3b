-- `passes::climbing::rungs` meets its contract: the widths are copied to the front.
-- Assumes nothing.
use mathlib.Core.Path.{◌≡◌, ap, ◌∙◌}
use mathlib.Core.List.{List, ◌++◌}
use Prim.Native.Nat.{ℕ}
use native.Mathlib.Omega.{arith}
use lib.ListN.{length, length-append}
use lib.Seq.{take_at}
use Rattle.spec.specs.Words.{part}
use Rattle.spec.specs.Recipe.{widths}
use Rattle.laws.proofs.Lists.{part_take}
use Rattle.passes.proofs.climbing.rungs.Goals as goal

-- the front of a list
front : (xs ys : List ℕ) (n : ℕ) → length xs ≡ n → part 0 n (xs ++ ys) ≡ xs
front xs ys n e = part_take n (xs ++ ys) (omega (arith, e, length-append xs ys)) ∙ take_at xs ys n e

pub returns : goal.returns
unfolding widths
returns c =
    let new = c.copy_from_slice.new.self in
    let e = c.copy_from_slice.ensures.after in
    front new _ (length c.args.boxes.now) (ap length e) ∙ e
