-- `report::filling::begin` meets its contract: the first line is copied, or none is due.
-- Assumes nothing.
use mathlib.Core.Path.{◌≡◌, sym, ap, ◌∙◌}
use mathlib.Core.Bool.{cond}
use mathlib.Core.List.{[]}
use Prim.Native.Nat.{◌≤◌}
use native.Mathlib.Omega.{arith}
use borrow.Author.Rules.{rules}
use lib.ListN.{length}
use lib.Seq.{length-take-le}
use Rattle.report.specs.Opening.{first_line, front}
use Rattle.report.specs.Filling.{heading}
use Rattle.report.proofs.Fronts.{front_within, first_short, copied_front}
use Rattle.report.proofs.filling.begin.Goals as goal

pub returns-then-opened : goal.returns-then-opened
unfolding heading front
returns-then-opened c = search rules

pub slice_bounds-copy_from_slice-end : goal.slice_bounds-copy_from_slice-end
slice_bounds-copy_from_slice-end c = omega (arith, c.head-count.ensures.0, first_short c.args.opened, c.requires)

pub slice_bounds-copy_from_slice-end-2 : goal.slice_bounds-copy_from_slice-end-2
slice_bounds-copy_from_slice-end-2 c =
    sym (length-take-le _ _ (omega (arith, c.head-count.ensures.0, first_short c.args.opened, c.requires)))

pub slice_bounds-first-end : goal.slice_bounds-first-end
slice_bounds-first-end c = front_within _ _ _ _ c.head-count.ensures.0 c.head-count.ensures.1

pub slice_bounds-copy_from_slice-end-3 : goal.slice_bounds-copy_from_slice-end-3
slice_bounds-copy_from_slice-end-3 c =
    sym (length-take-le _ _ (front_within _ _ _ _ c.head-count.ensures.0 c.head-count.ensures.1))

pub copy_from_slice-requires : goal.copy_from_slice-requires
copy_from_slice-requires c =
    length-take-le _ _ (omega (arith, c.head-count.ensures.0, first_short c.args.opened, c.requires))
    ∙ sym (length-take-le _ _ (front_within _ _ _ _ c.head-count.ensures.0 c.head-count.ensures.1))

pub returns : goal.returns
unfolding heading
returns c =
    let o = c.args.opened in
    let short : c.head-count.result ≤ 64 = omega (arith, c.head-count.ensures.0, first_short o) in
    let is : first_line o ≡ heading o = sym (ap (λ b. cond b [] (first_line o)) c.if-opened.false) in
    let done = copied_front (first_line o) _ c.args.text.now _ c.head-count.ensures.0 _ c.head-count.ensures.1 _ c.copy_from_slice.ensures.after in
    (c.head-count.ensures.0 ∙ ap length is, short, done ∙ ap (λ t. front t c.args.text.now) is)
