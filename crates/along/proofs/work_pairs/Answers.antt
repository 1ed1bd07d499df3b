-- `along::work_pairs` meets its contract: the sweeps in 16 bits, and then those in 64.
-- Assumes nothing.
use Rattle.along.specs.Private.{repeat, paired}
use Rattle.std.proofs.Common.{◌-◌, ◌^◌, sym, ap, ◌∙◌, arith, ext_get_or}
use Rattle.along.proofs.Carrying.{repeated_pairs}
use Rattle.along.proofs.work_pairs.Goals as goal

pub returns : goal.returns
returns c =
    let a = c.args in
    let fast = c.min-fast.result in
    let size = c.widen.auto.to ∙ sym (c.repeated.auto.row ∙ c.requires) in
    let same = ext_get_or 0 c.widen.new.to c.repeated.new.row size (λ k h. c.widen.ensures k 0 0 (omega (arith, c.widen.auto.to))) in
    c.repeated-2.ensures
    ∙ repeated_pairs (2 ^ 64) (a.count - fast) c.widen.new.to
    ∙ ap (repeat (a.count - fast) (paired (2 ^ 64))) (same ∙ c.repeated.ensures ∙ repeated_pairs (2 ^ 16) fast a.narrow.now)
    ∙ ap (λ fast. repeat (a.count - fast) (paired (2 ^ 64)) (repeat fast (paired (2 ^ 16)) a.narrow.now)) c.min-fast.ensures
