-- The widths of a cascade, and a slice of them.
-- Assumes nothing.
use mathlib.Core.Path.{◌≡◌, ap, ◌∙◌}
use mathlib.Core.List.{List}
use Prim.Native.Nat.{ℕ, ◌+◌, ◌≤◌, ◌<◌}
use native.Mathlib.Omega.{arith}
use lib.ListN.{length, get_or, take, length-take}
use lib.Seq.{take_all}
use Rattle.spec.specs.declared.Cascade.{Cascade}
use Rattle.spec.specs.Words.{tab, part}
use Rattle.spec.specs.Recipe.{widths}
use Rattle.laws.proofs.Lists.{tab_agree, length_part}

pub length_widths : (c : Cascade) → length (widths c) ≡ c.count
unfolding widths
length_widths c = length_part 0 c.count c.widths

-- all of them where there are as many as an array holds
pub boxes_all : (c : Cascade) (xs : List ℕ) → xs ≡ take 48 (widths c) → c.count ≤ 48 → xs ≡ widths c
boxes_all c xs e h = e ∙ take_all 48 (widths c) (omega (arith, length_widths c))

pub boxes_few : (c : Cascade) (xs : List ℕ) → xs ≡ take 48 (widths c) → length xs ≤ 48
boxes_few c xs e = rw e (rw length-take (omega arith))

-- what stands past the count plays no part: every contract speaks of a cascade through its widths alone
pub widths_alike : (c d : Cascade) → c.count ≡ d.count → ((k : ℕ) → k < c.count → get_or c.widths k 0 ≡ get_or d.widths k 0)
    → widths c ≡ widths d
unfolding widths part
widths_alike c d e h =
    tab_agree c.count (λ k. get_or c.widths (0 + k) 0) (λ k. get_or d.widths (0 + k) 0) (λ k l. h (0 + k) (omega arith))
    ∙ ap (λ n. tab n (λ k. get_or d.widths (0 + k) 0)) e
