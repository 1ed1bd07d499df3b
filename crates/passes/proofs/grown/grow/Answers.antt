-- What `search` does not find of `grown::grow`.
use mathlib.Core.Path.{◌≡◌, sym, ap, ◌∙◌}
use mathlib.Core.List.{◌∷◌, ◌++◌, []}
use Prim.Native.Nat.{ℕ, ◌+◌, ◌*◌, ◌≤◌}
use native.Mathlib.Nat.{suc-mul, mul-le-mul_right}
use native.Mathlib.Numerals.{add-one}
use native.Mathlib.Omega.{arith}
use borrow.Author.Rules.{rules}
use lib.ListN.{length, drop, length-append, get_or-replicate}
use Rattle.spec.specs.Picture.{picture}
use Rattle.laws.proofs.Numbers.{row_fits}
use Rattle.laws.proofs.Kernels.{at}
use Rattle.laws.proofs.Slices.{length_between}
use Rattle.laws.proofs.Flat.{flat}
use Rattle.passes.proofs.Writing.{below_part, below_last}
use Rattle.passes.proofs.Growing.{rows_end, row_there, rows_rest, flat_row, flat_black}
use Rattle.passes.proofs.grown.grow.Goals as goal

pub slice_bounds-copy_row-end : goal.slice_bounds-copy_row-end
slice_bounds-copy_row-end c =
    let args = c.args in
    let v = c.loop-j.invariant in
    let t = c.in-Some.ensures.steps in
    let p = picture args.width args.height args.pixels.now in
    let W = args.full_width in
    let j = c.in-Some.j in
    let there = row_there p c.requires.size (length c.loop-j.yielded) c.in-Some.line.now _ (sym v.left ∙ t.0.1.0) (t.0.1.1 ∙ v.size) c.requires.wide in
    let room : j * W + W ≤ length c.loop-j.dst = omega (arith, row_fits W j args.height (omega (arith, there, t.1, v.count)), c.loop-j.auto.dst, c.requires.room) in
    search rules

pub loop-j-preserved : goal.loop-j-preserved
loop-j-preserved c =
    let args = c.args in
    let turn = c.loop-j in
    let v = turn.invariant in
    let t = c.in-Some.ensures.steps in
    let p = picture args.width args.height args.pixels.now in
    let w = args.width in
    let W = args.full_width in
    let j = c.in-Some.j in
    let n = length turn.yielded in
    let line = c.in-Some.line.now in
    let front = sym v.left ∙ t.0.1.0 in
    let long = t.0.1.1 ∙ v.size in
    let there = row_there p c.requires.size n line _ front long c.requires.wide in
    let e : j ≡ n = t.1 ∙ v.count in
    let more = length-append turn.yielded ((j, c.in-Some.line) ∷ []) in
    let next : (m : ℕ) → length (turn.yielded ++ (j, c.in-Some.line) ∷ []) * m ≡ n * m + m = λ m. ap (λ x. x * m) (more ∙ add-one n) ∙ suc-mul n m in
    let room : j * W + W ≤ length turn.dst = omega (arith, row_fits W j args.height (omega (arith, there, e)), turn.auto.dst, c.requires.room) in
    let size : length c.copy_row.new.row ≡ W = c.copy_row.auto.row ∙ length_between 0 turn.dst (j * W) (j * W + W) (omega arith) room ∙ omega arith in
    let at-row = ap (λ x. x * W) e in
    record {
      count = t.2 ∙ ap (λ x. x + 1) v.count ∙ sym more;
      size = t.0.0 ∙ v.size;
      left = rows_rest p c.requires.size n line _ front long c.requires.wide ∙ ap (λ m. drop m p.pixels) (sym (next w));
      within = omega (arith, more, there);
      rows = λ k h. below_part (flat p W) (j * W) turn.dst c.copy_row.new.row _ (λ i g. v.rows i (omega (arith, at-row))) (omega arith)
          (λ i g. c.copy_row.ensures i g ∙ flat_row p c.requires.size j line _ (ap (λ x. drop (x * w) p.pixels) e ∙ front) long c.requires.wide W i (omega (arith, size)))
          k (omega (arith, next W, at-row, size));
      bytes = v.bytes;
    }

pub returns-clause-places : goal.returns-clause-places
unfolding at
returns-clause-places c =
    let args = c.args in
    let turn = c.loop-j in
    let v = turn.invariant in
    let t = c.in-None.ensures.steps in
    let p = picture args.width args.height args.pixels.now in
    let W = args.full_width in
    let n = length turn.yielded in
    let here = args.height * W in
    let e = c.fill.ensures.after (λ y h. h) in
    let room : here ≤ length turn.dst = omega (arith, turn.auto.dst, c.requires.room) in
    let size = length_between 0 turn.dst here (length turn.dst) room (omega arith) in
    let all : args.height ≤ n = rows_end p c.requires.size n (omega (arith, ap length v.left, t.0.1.0, v.size)) in
    below_last (flat p W) here turn.dst c.fill.new.self (λ k h. v.rows k (omega (arith, mul-le-mul_right W all))) room
    (c.fill.ensures.len ∙ size)
    (λ k h.
    ap (λ l. at l k) e
    ∙ get_or-replicate _ k 0 0 (omega (arith, c.fill.ensures.len))
    ∙ flat_black p W args.height (omega arith) (omega arith) (here + k) (omega arith))
