-- `passes::grown::grow` meets its contract: after j rows they are in place, with the black places to their right.
-- Assumes nothing.
use mathlib.Core.Path.{◌≡◌}
use Prim.Native.Nat.{◌*◌, ◌≤◌}
use lib.ListN.{length, drop}
use Rattle.std.specs.Slice.Iter.{chunks_exact_rest, chunks_exact_size}
use Rattle.std.specs.Iterator.Adapters.{enumerate_source, enumerate_count}
use Rattle.spec.specs.Picture.{largest_gray, picture, Within}
use Rattle.laws.proofs.Flat.{flat}
use Rattle.passes.specs.Steps.{Below}
use Rattle.passes.proofs.grown.grow.Given as goal

abbrev pub invariant-loop-j : goal.invariant-loop-j
invariant-loop-j l =
    let p = picture l.width l.height l.pixels in
    let j = length l.yielded in
    let left = enumerate_source l.j-iterator in
    record {
      count : enumerate_count l.j-iterator ≡ j;
      size : chunks_exact_size left ≡ l.width;
      left : chunks_exact_rest left ≡ drop (j * l.width) l.pixels;
      within : j ≤ l.height;
      rows : Below (j * l.full_width) (flat p l.full_width) l.dst;
      bytes : Within largest_gray p;
    }
