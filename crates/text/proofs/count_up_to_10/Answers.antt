-- `text::count_up_to_10` meets its contract: five digits more than there are before the last five.
-- Assumes nothing.
use borrow.Author.Rules.{rules}
use Rattle.text.proofs.Digits.{counted_past}
use Rattle.text.proofs.count_up_to_10.Goals as goal

pub returns : goal.returns
returns c = (counted_past 5 (search rules) c.count_up_to_5-2.ensures.0, search rules)
