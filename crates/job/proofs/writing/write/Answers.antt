-- `job::writing::write` meets its contract: the answer of `size`, case by case, then the lengths of the two slices.
-- Assumes nothing.
use mathlib.Core.Path.{sym, ◌∙◌}
use Prim.Native.Nat.{ℕ}
use native.Mathlib.Omega.{arith}
use Rattle.std.proofs.lemmas.Result.{err_from_is_err_and}
use Rattle.laws.proofs.Refusals.{is_sized, picture_passed}
use Rattle.laws.proofs.Results.{err_told, ok_told}
use Rattle.job.proofs.Answering.{area, by_sides, by_pixels, by_length, all_written}
use Rattle.job.proofs.writing.write.Goals as goal

pub returns-in_err-n : goal.returns-in_err-n
returns-in_err-n c =
    let p = err_from_is_err_and c.from_residual.result c.from_residual.ensures.1 in
    rw (p.1, p.2) (by_sides _ _ _ _ (err_told (λ (n : ℕ). n) _ _ _ c.in_err-n.ensures))

pub overflow_mul-image : goal.overflow_mul-image
overflow_mul-image c = omega (arith, area _ _ (is_sized _ _ _ (ok_told (λ (n : ℕ). n) _ _ _ c.in_ok-n.ensures).0).1)

pub returns-then-image : goal.returns-then-image
returns-then-image c = by_pixels _ _ _ (ok_told (λ (n : ℕ). n) _ _ _ c.in_ok-n.ensures).0 c.if-image.true

pub returns-then-out-n : goal.returns-then-out-n
returns-then-out-n c =
    let s = ok_told (λ (n : ℕ). n) _ _ _ c.in_ok-n.ensures in
    by_length _ _ _ s.0 c.if-image.false (λ e. c.if-out-n.true (e ∙ sym s.1))

pub fill-requires : goal.fill-requires
fill-requires c =
    let s = ok_told (λ (n : ℕ). n) _ _ _ c.in_ok-n.ensures in
    (picture_passed _ _ s.0 c.if-image.false, c.if-out-n.false ∙ s.1)

pub returns : goal.returns
returns c =
    let s = ok_told (λ (n : ℕ). n) _ _ _ c.in_ok-n.ensures in
    all_written _ _ _ s.0 c.if-image.false (c.if-out-n.false ∙ s.1) _ c.fill.ensures
