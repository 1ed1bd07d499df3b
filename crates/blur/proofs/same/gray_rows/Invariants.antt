-- `blur::same::gray_rows` meets its contract: each turn has the next grown row come, and writes one row of greys and of leftovers.
-- Assumes nothing.
use mathlib.Core.Path.{◌≡◌}
use lib.ListN.{length}
use Prim.Native.Nat.{◌*◌}
use Rattle.spec.specs.Recipe.{recipe}
use Rattle.spec.specs.Gray.{places, same_row, same_gray, same_leftover}
use Rattle.laws.proofs.Slices.{Mixed}
use Rattle.rows.specs.Streaming.{Streamed, picture_of}
use Rattle.blur.specs.Rims.{Ready}
use Rattle.blur.proofs.same.gray_rows.Given as goal

abbrev pub invariant-loop-j : goal.invariant-loop-j
invariant-loop-j l =
    let p = picture_of l.fn.state l.pixels in
    let r = recipe l.fn.state.filter in
    (length l.row ≡ length l.initial.row) × Ready l.band × (l.band.across.now ≡ l.inside.across.now) × Streamed l.fn.state.filter p (same_row r l.j) l.at l.cells
    × Mixed (l.j * l.width) (places p (same_gray r p)) l.initial.out l.out × Mixed (l.j * l.width) (places p (same_leftover r p)) l.initial.leftovers l.leftovers
