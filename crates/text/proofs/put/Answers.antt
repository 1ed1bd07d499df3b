-- `text::put` meets its contract: the digits into the front of the slice, then the space.
-- Assumes nothing.
use Rattle.std.proofs.Common.{◌++◌, drop, set, ap, ◌∙◌, arith}
use Rattle.spec.specs.Program.{decimal}
use Rattle.text.proofs.Lines.{stored_front}
use Rattle.text.proofs.put.Goals as goal

pub returns : goal.returns
returns c =
    let args = c.args in
    let end = c.digit_count-end.result in (
      omega arith,
      omega arith,
      ap (λ ds. set (ds ++ drop end args.out.now) end 32) c.spell.ensures ∙ stored_front end 32 (decimal args.n) args.out.now (omega arith) (omega arith),
    )
