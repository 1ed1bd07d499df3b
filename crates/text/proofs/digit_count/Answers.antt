-- `text::digit_count` meets its contract: ten digits more than there are before the last ten.
-- Assumes nothing.
use borrow.Author.Rules.{rules}
use Rattle.text.proofs.Digits.{counted_past, counted_length}
use Rattle.text.proofs.digit_count.Goals as goal

pub returns-then-n-lt10000000000 : goal.returns-then-n-lt10000000000
returns-then-n-lt10000000000 c = counted_length (search rules) c.count_up_to_10.ensures.0

pub returns : goal.returns
returns c = counted_length (search rules) (counted_past 10 (search rules) c.count_up_to_10-2.ensures.0)
