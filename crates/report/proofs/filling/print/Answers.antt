-- `report::filling::print` meets its contract, by that of `text::line` on just the room that the line needs.
-- Assumes nothing.
use mathlib.Core.Path.{ap, ◌∙◌}
use mathlib.Core.List.{◌++◌}
use Prim.Native.Nat.{◌+◌, ◌*◌}
use lib.ListN.{length, drop}
use lib.Seq.{length-take-le}
use Rattle.spec.specs.Program.{line}
use Rattle.text.proofs.Lines.{length_line}
use Rattle.report.proofs.Fronts.{front_part, line_printed, line_is}
use Rattle.report.proofs.filling.print.Goals as goal

pub unwrap-requires : goal.unwrap-requires
unwrap-requires c = line_printed _ _ _ _ c.line.ensures (length-take-le _ c.args.text.now c.requires)

pub returns : goal.returns
returns c =
    let row = c.args.row.now in
    let old = c.args.text.now in
    let done = line_is _ _ _ _ c.line.ensures (length-take-le _ old c.requires) _ c.unwrap.ensures in
    (done.0, ap (λ l. l ++ drop (21 * length row + 1) old) done.1 ∙ front_part (line row) old (21 * length row + 1) (length_line row) c.requires)
