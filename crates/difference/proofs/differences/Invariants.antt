-- `difference::differences` meets its contract: each turn has the next grown row of both recipes come, and writes one row of differences.
-- Assumes nothing.
use Prim.Native.Nat.{◌*◌}
use Rattle.spec.specs.Recipe.{recipe}
use Rattle.spec.specs.Gray.{places, difference}
use Rattle.laws.proofs.Slices.{Mixed}
use Rattle.rows.specs.Streaming.{picture_of}
use Rattle.difference.proofs.Passes.{Standing}
use Rattle.difference.proofs.differences.Given as goal

abbrev pub invariant-loop-j : goal.invariant-loop-j
invariant-loop-j l =
    let s = l.fn.a.state in
    let p = picture_of s l.pixels in
    Standing l.fn.a l.a l.pixels l.j × Standing l.fn.b l.b l.pixels l.j
    × Mixed (l.j * l.width) (places p (difference (recipe s.filter) (recipe l.fn.b.state.filter) p)) l.initial.out l.out
