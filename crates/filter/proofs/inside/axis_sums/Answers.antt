-- `filter::inside::axis_sums` meets its contract: the coefficients are formed, and then the box on them.
-- Assumes nothing.
use mathlib.Core.Path.{◌≡◌, ap, ◌∙◌}
use Prim.Native.Nat.{◌+◌, ◌-◌, ◌/◌}
use native.Mathlib.Omega.{arith}
use lib.ListN.{length}
use Rattle.spec.specs.Words.{tab}
use Rattle.spec.specs.Recipe.{widths, kernel, order}
use Rattle.laws.proofs.Sequences.{boxed}
use Rattle.laws.proofs.Kernels.{at, kernel_sum, length_kernel}
use Rattle.filter.proofs.Filling.{whole_kernel}
use Rattle.filter.proofs.inside.axis_sums.Lts
use Rattle.filter.proofs.inside.axis_sums.Reads
use Rattle.filter.proofs.inside.axis_sums.Tie
use Rattle.filter.proofs.inside.axis_sums.Goals as goal

-- the slice holds the coefficients
filled : (c : Lts.After-convolve Tie.the-claims Reads.Pre Reads.Post) → let ns = widths c.args.list in c.convolve.new.out ≡ kernel ns
filled c =
    whole_kernel (widths c.args.list) c.requires.1 _ _ c.requires.4 c.convolve.ensures

pub box_inside-requires : goal.box_inside-requires
box_inside-requires c =
    let ns = widths c.args.list in
    let long = length_kernel ns c.requires.1 in
    rw (filled c.before.before.before.before) (omega (arith, long), omega (arith, long, c.requires.3), omega (arith, kernel_sum ns (length (kernel ns)), c.requires.2), c.requires.5)

pub returns : goal.returns
returns c =
    let ns = widths c.args.list in
    let n = length c.args.out.now in
    let half : (length (kernel ns) - 1) / 2 ≡ order ns / 2 = omega (arith, length_kernel ns c.requires.1) in
    c.box_inside.ensures
    ∙ ap (λ l. tab n (λ k. boxed n (at l) (k + (length l - 1) / 2))) (filled c.before.before.before.before.before.before.before.before.before.before)
    ∙ ap (λ h. tab n (λ k. boxed n (at (kernel ns)) (k + h))) half
