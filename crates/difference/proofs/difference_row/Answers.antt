-- What `search` does not find of `difference_row`.
use mathlib.Core.Path.{◌≡◌, sym, ◌∙◌}
use Prim.Native.Nat.{ℕ, ◌*◌, ◌≤◌, ◌<◌}
use native.Mathlib.Nat.{mul_comm}
use native.Mathlib.Omega.{arith}
use borrow.Author.Rules.{rules}
use lib.IntN.{pos}
use lib.ListN.{length, get_or}
use lib.Seq.{ext_get_or}
use Rattle.spec.specs.Picture.{largest_gray}
use Rattle.spec.specs.Gray.{nearest_difference}
use Rattle.laws.proofs.Lists.{length_tab, get_d_tab}
use Rattle.gray.specs.Division.{Bounded}
use Rattle.gray.proofs.Dividing.{own_weight, divides_own}
use Rattle.laws.proofs.Ranges.{times_other}
use Rattle.difference.specs.declared.Sums.{Sums}
use Rattle.difference.proofs.difference_row.Goals as goal

-- each sum times the other weight
module _ (a b : Sums) (first : Bounded largest_gray a.weight a.sums.now) (second : Bounded largest_gray b.weight b.sums.now) (k : ℕ) where
  left : get_or a.sums.now k 0 * b.weight ≤ largest_gray * (a.weight * b.weight)
  left = times_other largest_gray a.weight b.weight _ (first k)

  right : get_or b.sums.now k 0 * a.weight ≤ largest_gray * (a.weight * b.weight)
  right = omega (arith, times_other largest_gray b.weight a.weight _ (second k), mul_comm a.weight b.weight)

pub overflow_mul-a : goal.overflow_mul-a
overflow_mul-a c = let q = c.requires in record { fits = omega (arith, left c.args.a c.args.b q.1 q.2 c.loop-k.k, q.0.light) }

pub overflow_mul-b : goal.overflow_mul-b
overflow_mul-b c = let q = c.requires in record { fits = omega (arith, right c.args.a c.args.b q.1 q.2 c.loop-k.k, q.0.light) }

pub signed-requires : goal.signed-requires
signed-requires c =
    let q = c.requires in
    let is = own_weight _ _ q.0 in (
      divides_own _ _ q.0,
      omega (arith, left c.args.a c.args.b q.1 q.2 c.loop-k.k, is),
      omega (arith, right c.args.a c.args.b q.1 q.2 c.loop-k.k, is),
    )

pub returns : goal.returns
returns c =
    let a = c.args.a in
    let b = c.args.b in
    let n = length c.args.out.now in
    let row = λ (k : ℕ). nearest_difference (get_or a.sums.now k 0 * b.weight) (get_or b.sums.now k 0 * a.weight) (a.weight * b.weight) in
    let long : length c.loop-k.out ≡ n = search rules in
    let whole : n ≤ c.loop-k.k = search rules in
    ext_get_or (pos 0) _ _ (long ∙ sym (length_tab n row))
    (λ k h. let in_row : k < n = omega arith in c.loop-k.invariant k (omega arith) ∙ sym (get_d_tab n row k (pos 0) in_row))
