-- `difference::run` meets its contract: both one passes are started, each on its own part of the cells, then come the differences.
-- Assumes nothing.
use mathlib.Core.Path.{◌≡◌, sym, ◌∙◌}
use Prim.Native.Nat.{ℕ, ◌≤◌}
use native.Mathlib.Omega.{arith}
use lib.ListN.{length, take, replicate, length-replicate}
use lib.Seq.{length-take-le}
use Rattle.difference.proofs.Pairs.{Begun, first_accepted_lem, second_accepted_lem, first_grown, second_grown, front_inside, first_starts, second_starts, first_above, second_above, product_small, both_taken, size_by_state, made_by_state}
use Rattle.difference.proofs.run.Goals as goal

-- a row of the widest grown width, of which so much is lent
row-long : (n : ℕ) → n ≤ 1279 → length (take n (replicate {A = ℕ} 1279 0)) ≡ n
row-long n h = length-take-le n (replicate {A = ℕ} 1279 0) (omega (arith, length-replicate {A = ℕ} 1279 0))

pub overflow_add-a_width : goal.overflow_add-a_width
overflow_add-a_width c = omega (arith, (first_grown _ _ _ _ _ _ _ c.requires.0).few)

pub overflow_add-b_width : goal.overflow_add-b_width
overflow_add-b_width c = omega (arith, (second_grown _ _ _ _ _ _ _ c.requires.0).few)

pub split_at_mut-a_cells-requires : goal.split_at_mut-a_cells-requires
split_at_mut-a_cells-requires c = front_inside _ _ _ _ _ _ _ c.requires.0

pub slice_bounds-a_row-end : goal.slice_bounds-a_row-end
slice_bounds-a_row-end c = (first_grown _ _ _ _ _ _ _ c.requires.0).few

pub slice_bounds-pass-end : goal.slice_bounds-pass-end
slice_bounds-pass-end c = sym (row-long _ (first_grown _ _ _ _ _ _ _ c.requires.0).few)

pub pass-first-requires : goal.pass-first-requires
pass-first-requires c =
    let both = c.requires.0 in
    let g = first_grown _ _ _ _ _ _ _ both in (
      first_starts _ _ _ _ _ _ _ both _ c.split_at_mut-a_cells.ensures.front_len,
      (first_accepted_lem _ _ _ _ _ _ _ both).size,
      first_above _ _ _ _ _ _ _ both,
      row-long _ g.few ∙ g.wide,
    )

pub pass-second-requires : goal.pass-second-requires
pass-second-requires c =
    let both = c.requires.0 in
    let g = second_grown _ _ _ _ _ _ _ both in (
      second_starts _ _ _ _ _ _ _ both _ c.split_at_mut-a_cells.ensures.back_len,
      (second_accepted_lem _ _ _ _ _ _ _ both).size,
      second_above _ _ _ _ _ _ _ both,
      row-long _ g.few ∙ g.wide,
    )

pub overflow_mul-a : goal.overflow_mul-a
overflow_mul-a c = omega (arith, product_small _ _ _ _ _ _ _ c.requires.0)

pub differences-requires : goal.differences-requires
differences-requires c =
    let image = c.args.image in
    let both = c.requires.0 in
    let first = c.pass-first.ensures in
    let second = c.pass-second.ensures in
    let s : Begun c.args.a image.width image.height image.pixels.now c.pass-first.result =
    record { streamed = first.0; left = first.1; weight = first.2; wide = first.3 ∙ row-long _ (first_grown _ _ _ _ _ _ _ both).few } in
    let t : Begun c.args.b image.width image.height image.pixels.now c.pass-second.result =
    record { streamed = second.0; left = second.1; weight = second.2; wide = second.3 ∙ row-long _ (second_grown _ _ _ _ _ _ _ both).few } in (
      both_taken _ _ _ _ _ _ _ both c.pass-first.result c.pass-second.result s t _ c.of-by.ensures,
      c.requires.1 ∙ size_by_state _ _ _ _ _ _ _ both c.pass-first.result c.pass-second.result s t,
    )

pub returns : goal.returns
returns c =
    let image = c.args.image in
    let both = c.requires.0 in
    let first = c.pass-first.ensures in
    let second = c.pass-second.ensures in
    let s : Begun c.args.a image.width image.height image.pixels.now c.pass-first.result =
    record { streamed = first.0; left = first.1; weight = first.2; wide = first.3 ∙ row-long _ (first_grown _ _ _ _ _ _ _ both).few } in
    let t : Begun c.args.b image.width image.height image.pixels.now c.pass-second.result =
    record { streamed = second.0; left = second.1; weight = second.2; wide = second.3 ∙ row-long _ (second_grown _ _ _ _ _ _ _ both).few } in
    made_by_state _ _ _ _ _ _ _ both c.pass-first.result c.pass-second.result s t _ c.differences.ensures
