-- `stream::calls::drain` meets its contract: the checks, a black row, the stages.
-- Assumes nothing.
use Rattle.std.proofs.Common.{sym, ap, ◌∙◌, arith}
use Rattle.laws.proofs.Refusals.{lent_refused, lent_accepted}
use Rattle.laws.proofs.Results.{number_not_zero}
use Rattle.stream.specs.Calls.{state_of, called, answers, drain}
use Rattle.stream.proofs.States.{drain_ready}
use Rattle.stream.proofs.calls.drain.Goals as goal

pub step-requires : goal.step-requires
unfolding state_of
step-requires c =
    let r = drain_ready (state_of c.args.state) _ _ (sym c.in-Ok.ensures) in
    (r.0, omega arith)

pub returns-in-Ok : goal.returns-in-Ok
unfolding drain answers state_of
returns-in-Ok c = c.step.ensures ∙ sym (lent_accepted _ _ _ (sym c.in-Ok.ensures))

pub returns-in-Err : goal.returns-in-Err
unfolding drain answers called
returns-in-Err c =
    let a = c.args in
    ap (λ n. record { number = n; state = a.state; count = 0; out = a.out.now; cells = a.cells.now }) c.in-Err.ensures
    ∙ sym (lent_refused _ _ _ _ (sym c.in-Err.ensures) (number_not_zero _))
