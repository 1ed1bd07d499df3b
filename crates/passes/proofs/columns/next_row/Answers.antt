-- `passes::columns::next_row` meets its contract: the running sum at each place of the row, with what goes out or without.
-- Assumes nothing.
use mathlib.Core.Path.{◌≡◌, ap, ◌∙◌}
use mathlib.Core.List.{List, ◌++◌}
use Prim.Native.Nat.{ℕ, ◌+◌, ◌-◌, ◌*◌, ◌^◌, ◌≤◌, ◌<◌}
use native.Mathlib.Omega.{arith}
use lib.ListN.{length, take, drop}
use lib.Seq.{length-take-le, get_or-take}
use Rattle.laws.proofs.Kernels.{at}
use Rattle.laws.proofs.Cascades.{spread}
use Rattle.laws.proofs.Slices.{length_between}
use Rattle.passes.specs.Steps.{Below, Ready}
use Rattle.passes.proofs.Writing.{below_part, at_between}
use Rattle.passes.proofs.Running.{sum_fits, sum_grows, sum_moves}
use Rattle.passes.proofs.columns.next_row.Goals as goal

-- The row of w places from here on. The slice is split there, into the rows that are done and the rest.
record Split (s n here w : ℕ) (src old done rest : List ℕ) : Type 0 where
  ready : Ready s n src old
  below : s ≤ here
  short : w ≤ s
  room : here + w ≤ length src
  sums : Below here (spread s n (at src)) old
  front : done ≡ take here old
  back : length rest + here ≡ length old

module _ {s n here w : ℕ} {src old done rest : List ℕ} (q : Split s n here w src old done rest) where
  row_long : length (take w rest) ≡ w
  row_long = length-take-le w rest (omega (arith, q.ready.size))

  done_long : length done ≡ here
  done_long = ap length q.front ∙ length-take-le here old (omega (arith, q.ready.size))

  -- the parts are long enough
  above_long : length (take (length done - (here - s)) (drop (here - s) done)) ≡ s
  above_long = length_between 0 done (here - s) (length done) (omega (arith, done_long)) (omega arith) ∙ omega (arith, done_long)

  part_long : (from : ℕ) → from ≤ here → w ≤ length (take (length src - from) (drop from src))
  part_long from h = omega (arith, length_between 0 src from (length src) (omega arith) (omega arith))

  -- and this stands in them
  module _ (k : ℕ) (g : k < w) where
    above : at (take (length done - (here - s)) (drop (here - s) done)) k ≡ at old (here + k - s)
    unfolding at
    above =
        let place : here - s + k ≡ here + k - s = omega arith in
        at_between done (here - s) (length done) k (omega (arith, done_long)) (omega arith) (omega (arith, done_long))
        ∙ ap (λ l. at l (here - s + k)) q.front
        ∙ get_or-take here old (here - s + k) 0 (omega arith)
        ∙ ap (at old) place

    coming : at (take (length src - here) (drop here src)) k ≡ at src (here + k)
    coming = at_between src here (length src) k (omega arith) (omega arith) (omega arith)

    going : n * s ≤ here → at (take (length src - (here - n * s)) (drop (here - n * s) src)) k ≡ at src (here + k - n * s)
    going h =
        let place : here - n * s + k ≡ here + k - n * s = omega arith in
        at_between src (here - n * s) (length src) k (omega arith) (omega arith) (omega arith) ∙ ap (at src) place

    fitting : at (take (length done - (here - s)) (drop (here - s) done)) k + at (take (length src - here) (drop here src)) k ≤ 2 ^ 61
    fitting = omega (arith, above, coming, sum_fits s n src old here q.ready q.below q.sums (here + k) (omega arith) (omega arith) (omega arith))

    -- the sum, with nothing that goes out, and with what goes out
    grown : here + s ≤ n * s
        → at (take (length done - (here - s)) (drop (here - s) done)) k + at (take (length src - here) (drop here src)) k ≡ spread s n (at src) (here + k)
    grown h = omega (arith, above, coming, sum_grows s n src old here q.ready q.below q.sums (here + k) (omega arith) (omega arith) (omega arith))

    moved : n * s ≤ here → spread s n (at src) (here + k) + at (take (length src - (here - n * s)) (drop (here - n * s) src)) k
        ≡ at (take (length done - (here - s)) (drop (here - s) done)) k + at (take (length src - here) (drop here src)) k
    moved h = omega (arith, above, coming, going h, sum_moves s n src old here q.ready q.below q.sums (here + k) (omega arith) (omega arith) (omega arith))

  -- written, it is the row of the sums
  written : (new tail : List ℕ) → length new ≡ w → ((k : ℕ) → k < w → at new k ≡ spread s n (at src) (here + k))
      → Below (here + w) (spread s n (at src)) (done ++ (new ++ tail))
  written new tail size sums k h =
      ap (λ l. at (l ++ (new ++ tail)) k) q.front
      ∙ below_part (spread s n (at src)) here old new tail q.sums (omega (arith, q.ready.size)) (λ i g. sums i (omega (arith, size))) k (omega (arith, size))

pub added_row-requires : goal.added_row-requires
added_row-requires c =
    let args = c.args in
    let parts = c.split_at_mut-done in
    let r = c.requires in
    let q : Split args.step args.n args.here args.width args.src.now args.dst.now parts.result.0.now parts.result.1.now =
    record { ready = r.ready; below = r.below; short = r.short; room = r.inside; sums = r.sums; front = parts.ensures.front; back = parts.ensures.back_len } in
    let long = row_long q in
    record {
      above_long = omega (arith, long, above_long q);
      coming_long = omega (arith, long, part_long q args.here (omega arith));
      fits = λ k h. fitting q k (omega (arith, long));
    }

pub slid_row-requires : goal.slid_row-requires
slid_row-requires c =
    let args = c.args in
    let parts = c.split_at_mut-done in
    let r = c.requires in
    let q : Split args.step args.n args.here args.width args.src.now args.dst.now parts.result.0.now parts.result.1.now =
    record { ready = r.ready; below = r.below; short = r.short; room = r.inside; sums = r.sums; front = parts.ensures.front; back = parts.ensures.back_len } in
    let long = row_long q in
    let past = c.if-here-span.false in
    record {
      above_long = omega (arith, long, above_long q);
      coming_long = omega (arith, long, part_long q args.here (omega arith));
      going_long = omega (arith, long, part_long q (args.here - args.n * args.step) (omega arith));
      fits = λ k h. fitting q k (omega (arith, long));
      enough = λ k h. omega (arith, moved q k (omega (arith, long)) past);
    }

pub returns-then-here-span : goal.returns-then-here-span
returns-then-here-span c =
    let args = c.args in
    let parts = c.split_at_mut-done in
    let r = c.requires in
    let q : Split args.step args.n args.here args.width args.src.now args.dst.now parts.result.0.now parts.result.1.now =
    record { ready = r.ready; below = r.below; short = r.short; room = r.inside; sums = r.sums; front = parts.ensures.front; back = parts.ensures.back_len } in
    let long = row_long q in
    written q c.added_row.new.row _ (c.added_row.auto.row ∙ long)
    (λ k h. c.added_row.ensures k (omega (arith, long)) ∙ grown q k h (c.requires.whole c.if-here-span.true))

pub returns-else-here-span : goal.returns-else-here-span
returns-else-here-span c =
    let args = c.args in
    let parts = c.split_at_mut-done in
    let r = c.requires in
    let q : Split args.step args.n args.here args.width args.src.now args.dst.now parts.result.0.now parts.result.1.now =
    record { ready = r.ready; below = r.below; short = r.short; room = r.inside; sums = r.sums; front = parts.ensures.front; back = parts.ensures.back_len } in
    let long = row_long q in
    written q c.slid_row.new.row _ (c.slid_row.auto.row ∙ long)
    (λ k h. c.slid_row.ensures k (omega (arith, long)) ∙ omega (arith, moved q k h c.if-here-span.false))
