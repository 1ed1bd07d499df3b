-- `report::filling::fill` meets its contract, by that of `put_all`.
-- Assumes nothing.
use mathlib.Core.Path.{◌≡◌}
use native.Mathlib.Omega.{arith}
use borrow.Author.Rules.{rules}
use lib.ListN.{length}
use Rattle.report.specs.Filling.{filled, begun, fill as fillOf}
use Rattle.report.proofs.Fronts.{front_within}
use Rattle.report.proofs.filling.fill.Goals as goal

pub returns : goal.returns
unfolding filled begun fillOf
returns c =
    let puts = c.put_all-lines in
    let o = c.args.opened in
    let long : length puts.new.text ≡ 65536 = search rules in
    let most = front_within _ _ _ _ puts.ensures.end puts.ensures.text in record {
      text_after = λ i. record {
        number = puts.ensures.number i;
        count = puts.ensures.end i;
        opened = begun o (puts.ensures.state i);
        cells = puts.ensures.cells i;
        text = puts.ensures.text i;
      };
      count_bound = omega (arith, most, long);
    }
