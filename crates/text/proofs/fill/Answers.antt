-- What `search` does not find of `fill`.
use Rattle.std.proofs.Common.{◌≡◌, ◌-◌, ◌<◌, length, arith, rules}
use Rattle.text.proofs.Lines.{laid_none, laid_more, laid_line}
use Rattle.text.proofs.fill.Goals as goal

pub loop-n-init : goal.loop-n-init
loop-n-init c = laid_none c.args.numbers.now c.args.out.now

pub loop-n-preserved : goal.loop-n-preserved
loop-n-preserved c =
    let put = c.put-end.ensures in
    laid_more c.args.numbers.now c.args.out.now c.loop-n.invariant c.loop-n-test.true c.loop-n.auto.out put.0 put.1 put.2

pub returns : goal.returns
returns c =
    let turn = c.loop-n in
    let args = c.args in
    let last : c.saturating_sub-last.result ≡ turn.end - 1 = search rules in
    let room : turn.end < length args.out.now = omega (arith, turn.invariant.few) in
    let made = laid_line args.numbers.now args.out.now turn.invariant (omega arith) room in
    (rw last made.0, rw last made.1)
