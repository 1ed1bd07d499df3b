-- `report::opening::head` meets its contract: the line of the refusal, or that of the three numbers.
-- Assumes nothing.
use mathlib.Core.Path.{ap, ◌∙◌}
use borrow.Author.Rules.{rules}
use lib.ListN.{length}
use Rattle.report.specs.Opening.{front}
use Rattle.report.proofs.Fronts.{line_printed, line_is, first_refused, first_told}
use Rattle.report.proofs.opening.head.Goals as goal

pub returns-then-opened-ne0 : goal.returns-then-opened-ne0
unfolding front
returns-then-opened-ne0 c =
    let is = first_refused c.args.opened c.if-opened-ne0.true in
    let done = c.refusal_line.ensures in
    (done.0 ∙ ap length is, done.1 ∙ ap (λ t. front t c.args.text.now) is)

pub unwrap-requires : goal.unwrap-requires
unwrap-requires c = line_printed _ c.args.text.now _ _ c.line.ensures (search rules)

pub returns : goal.returns
returns c =
    let old = c.args.text.now in
    let done = line_is _ old _ _ c.line.ensures (search rules) _ c.unwrap.ensures in
    let is = first_told c.args.opened c.if-opened-ne0.false in
    (done.0 ∙ ap length is, done.1 ∙ ap (λ t. front t old) is)
