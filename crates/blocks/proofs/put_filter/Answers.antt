-- `blocks::put_filter` meets its contract: the column list is put behind the row list.
-- Assumes nothing.
use Rattle.std.proofs.Common.{◌≡◌, ◌++◌, length, ap, ap₂, ◌∙◌, rules}
use Rattle.blocks.specs.Given.{given, block_of}
use Rattle.blocks.proofs.Standing.{both_put, given_block}
use Rattle.blocks.proofs.put_filter.Goals as goal

pub returns : goal.returns
unfolding block_of
returns c =
    let filter = c.args.filter in
    let rows : length c.put_list.new.bytes ≡ 49 = search rules in
    let columns : length c.put_list-2.new.bytes ≡ 49 = search rules in
    let block : length c.args.block.now ≡ 98 = search rules in
    let put = both_put _ _ c.args.block.now rows columns block ∙ ap₂ ◌++◌ c.put_list.ensures c.put_list-2.ensures in
    (put, ap given put ∙ given_block filter (search rules) (search rules))
