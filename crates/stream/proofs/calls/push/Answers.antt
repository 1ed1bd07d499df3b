-- `stream::calls::push` meets its contract: the checks, the row with its black places, the stages.
-- Assumes nothing.
use Rattle.std.proofs.Common.{sym, ap, ◌∙◌, arith}
use Rattle.laws.proofs.Refusals.{lent_refused, lent_accepted}
use Rattle.laws.proofs.Results.{number_not_zero}
use Rattle.stream.specs.Calls.{state_of, called, answers, push}
use Rattle.stream.proofs.States.{row_ready}
use Rattle.stream.proofs.calls.push.Goals as goal

pub step-requires : goal.step-requires
unfolding state_of
step-requires c =
    let r = row_ready (state_of c.args.state) _ _ _ (sym c.in-Ok.ensures) in
    (r.0, omega (arith, r.1))

pub returns-in-Ok : goal.returns-in-Ok
unfolding push answers state_of
returns-in-Ok c = c.step.ensures ∙ sym (lent_accepted _ _ _ (sym c.in-Ok.ensures))

pub returns-in-Err : goal.returns-in-Err
unfolding push answers called
returns-in-Err c =
    let a = c.args in
    ap (λ n. record { number = n; state = a.state; count = 0; out = a.out.now; cells = a.cells.now }) c.in-Err.ensures
    ∙ sym (lent_refused _ _ _ _ (sym c.in-Err.ensures) (number_not_zero _))
