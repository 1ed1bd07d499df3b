-- `report::opening::started` meets its contract: the size, the job, the start, and then the grown sides.
-- Assumes nothing.
use mathlib.Core.Path.{◌≡◌}
use native.Mathlib.Omega.{arith}
use borrow.Author.Rules.{rules}
use lib.ListN.{length}
use Rattle.std.proofs.lemmas.Result.{err_from_is_err_and}
use Rattle.report.proofs.Checks.{by_size, refused_lem, by_reading, measured_always, grown_few, by_start, all_opened}
use Rattle.report.proofs.opening.started.Goals as goal

pub returns-then-bytes-gt65536 : goal.returns-then-bytes-gt65536
returns-then-bytes-gt65536 c = refused_lem _ _ _ (by_size _ c.if-bytes-gt65536.true)

pub returns-in_err-job : goal.returns-in_err-job
returns-in_err-job c =
    let p = err_from_is_err_and c.from_residual.result c.from_residual.ensures.1 in
    rw (p.1, p.2) (by_reading _ _ c.if-bytes-gt65536.false _ c.in_err-job.ensures)

pub returns-in_err-state : goal.returns-in_err-state
returns-in_err-state c =
    let p = err_from_is_err_and c.from_residual-in_err-state.result c.from_residual-in_err-state.ensures.1 in
    let size : length c.args.cells.now ≡ 8192 = search rules in
    rw (p.1, p.2) (by_start _ _ c.if-bytes-gt65536.false size _ c.in_ok-job.ensures _ _ c.in_err-state.ensures)

pub returns-in_err-m : goal.returns-in_err-m
returns-in_err-m c =
    let size : length c.args.cells.now ≡ 8192 = search rules in
    absurd (measured_always _ _ c.if-bytes-gt65536.false size _ c.in_ok-job.ensures _ c.in_err-m.ensures)

pub overflow_add-result : goal.overflow_add-result
overflow_add-result c =
    let size : length c.args.cells.now ≡ 8192 = search rules in
    omega (arith, grown_few _ _ c.if-bytes-gt65536.false size _ c.in_ok-job.ensures _ c.in_ok-m.ensures)

pub overflow_add-result-2 : goal.overflow_add-result-2
overflow_add-result-2 c =
    let size : length c.args.cells.now ≡ 8192 = search rules in
    omega (arith, grown_few _ _ c.if-bytes-gt65536.false size _ c.in_ok-job.ensures _ c.in_ok-m.ensures)

pub returns : goal.returns
returns c =
    let size : length c.args.cells.now ≡ 8192 = search rules in
    all_opened _ _ c.if-bytes-gt65536.false size _ c.in_ok-job.ensures _ _ c.in_ok-state.ensures _ c.in_ok-m.ensures
