-- `job::writing::fill` meets its contract: part after part, from the front of the output on.
-- Assumes nothing.
use native.Mathlib.Omega.{arith}
use Rattle.spec.specs.Job.{low16}
use Rattle.job.proofs.Appending.{room, at_rows, at_columns, at_width, at_height, at_pixels, at_end, whole}
use Rattle.job.proofs.writing.fill.Goals as goal

pub append-rows_at-requires : goal.append-rows_at-requires
append-rows_at-requires c = omega (arith, (room _ _ _ _ _ c.requires.0 c.requires.1).all)

pub append-columns_at-requires : goal.append-columns_at-requires
append-columns_at-requires c =
    let k = room _ _ _ _ _ c.requires.0 c.requires.1 in
    let one = at_rows _ _ _ _ _ k c.append-rows_at.ensures in
    (at_columns _ _ _ _ _ k one c.boxes.ensures).fits

pub append-width_at-requires : goal.append-width_at-requires
append-width_at-requires c =
    let k = room _ _ _ _ _ c.requires.0 c.requires.1 in
    let one = at_rows _ _ _ _ _ k c.append-rows_at.ensures in
    let two = (at_columns _ _ _ _ _ k one c.boxes.ensures).then c.append-columns_at.ensures in
    (at_width _ _ _ _ _ k two c.boxes-2.ensures).fits

pub overflow_cast-image : goal.overflow_cast-image
overflow_cast-image c = omega (arith, (room _ _ _ _ _ c.requires.0 c.requires.1).width)

pub append-height_at-requires : goal.append-height_at-requires
unfolding low16
append-height_at-requires c =
    let k = room _ _ _ _ _ c.requires.0 c.requires.1 in
    let one = at_rows _ _ _ _ _ k c.append-rows_at.ensures in
    let two = (at_columns _ _ _ _ _ k one c.boxes.ensures).then c.append-columns_at.ensures in
    let three = (at_width _ _ _ _ _ k two c.boxes-2.ensures).then c.append-width_at.ensures in
    (at_height _ _ _ _ _ k three c.to_le_bytes.ensures).fits

pub overflow_cast-image-2 : goal.overflow_cast-image-2
overflow_cast-image-2 c = omega (arith, (room _ _ _ _ _ c.requires.0 c.requires.1).height)

pub append-offset-requires : goal.append-offset-requires
unfolding low16
append-offset-requires c =
    let k = room _ _ _ _ _ c.requires.0 c.requires.1 in
    let one = at_rows _ _ _ _ _ k c.append-rows_at.ensures in
    let two = (at_columns _ _ _ _ _ k one c.boxes.ensures).then c.append-columns_at.ensures in
    let three = (at_width _ _ _ _ _ k two c.boxes-2.ensures).then c.append-width_at.ensures in
    let four = (at_height _ _ _ _ _ k three c.to_le_bytes.ensures).then c.append-height_at.ensures in
    (at_pixels _ _ _ _ _ k four c.to_le_bytes-2.ensures).fits

pub append-requires : goal.append-requires
unfolding low16
append-requires c =
    let k = room _ _ _ _ _ c.requires.0 c.requires.1 in
    let one = at_rows _ _ _ _ _ k c.append-rows_at.ensures in
    let two = (at_columns _ _ _ _ _ k one c.boxes.ensures).then c.append-columns_at.ensures in
    let three = (at_width _ _ _ _ _ k two c.boxes-2.ensures).then c.append-width_at.ensures in
    let four = (at_height _ _ _ _ _ k three c.to_le_bytes.ensures).then c.append-height_at.ensures in
    let five = (at_pixels _ _ _ _ _ k four c.to_le_bytes-2.ensures).then c.append-offset.ensures in
    (at_end _ _ _ _ _ k five).fits

pub returns : goal.returns
unfolding low16
returns c =
    let k = room _ _ _ _ _ c.requires.0 c.requires.1 in
    let one = at_rows _ _ _ _ _ k c.append-rows_at.ensures in
    let two = (at_columns _ _ _ _ _ k one c.boxes.ensures).then c.append-columns_at.ensures in
    let three = (at_width _ _ _ _ _ k two c.boxes-2.ensures).then c.append-width_at.ensures in
    let four = (at_height _ _ _ _ _ k three c.to_le_bytes.ensures).then c.append-height_at.ensures in
    let five = (at_pixels _ _ _ _ _ k four c.to_le_bytes-2.ensures).then c.append-offset.ensures in
    whole _ _ _ _ _ k ((at_end _ _ _ _ _ k five).then c.append.ensures)
