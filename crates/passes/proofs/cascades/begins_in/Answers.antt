-- `passes::cascades::begins_in` meets its contract: a list of widths twice ends where it began.
-- Assumes nothing.
use mathlib.Core.Path.{ap, ◌∙◌}
use Rattle.spec.specs.Recipe.{recipe, widths}
use Rattle.passes.specs.declared.buffers.Buffer.TheVariants.{Out}
use Rattle.passes.specs.Turned.{turned_by}
use Rattle.passes.proofs.Turning.{turned_by_twice, all_boxes}
use Rattle.passes.proofs.cascades.begins_in.Goals as goal

pub returns : goal.returns
unfolding recipe
returns c =
    let turns = c.turns-before_columns in
    let f = c.args.filter in
    let rows = widths f.rows in
    let columns = widths f.columns in
    let first = turns.ensures ∙ ap (λ ws. turned_by ws Out) (c.boxes.ensures ∙ all_boxes columns c.requires.columns_short) in
    let then = c.turns.ensures ∙ ap (λ ws. turned_by ws turns.result) (c.boxes-2.ensures ∙ all_boxes rows c.requires.rows_short) in
    ap (turned_by columns) (ap (turned_by rows) then ∙ turned_by_twice rows turns.result ∙ first)
    ∙ turned_by_twice columns Out
