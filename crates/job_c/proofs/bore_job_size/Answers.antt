-- `job_c::bore_job_size` meets its contract: the answer of `job::size`, case by case.
-- Assumes nothing.
use mathlib.Core.Path.{◌≡◌, sym, ap, ◌∙◌}
use mathlib.Core.List.{List}
use Prim.Native.Nat.{ℕ}
use Rattle.spec.specs.declared.Filter.{Filter}
use Rattle.spec.specs.Recipe.{recipe}
use Rattle.spec.specs.Job.{job_length}
use Rattle.spec.specs.Refusals.{answer, size_checks}
use Rattle.laws.proofs.Refusals.{lent_refused, lent_accepted}
use Rattle.laws.proofs.Results.{number_not_zero, err_told, ok_told}
use Rattle.blocks.specs.Given.{given}
use Rattle.job_c.proofs.bore_job_size.Goals as goal

-- the answer of a filter, for the recipe that is given
answered : (w h : ℕ) {f : Filter} (block : List ℕ) → f ≡ given block →
    answer (size_checks (recipe f) w h) (job_length (recipe f) w h)
    ≡ answer (size_checks (recipe (given block)) w h) (job_length (recipe (given block)) w h)
answered w h block is = ap (λ f. answer (size_checks (recipe f) w h) (job_length (recipe f) w h)) is

pub returns-in-Ok : goal.returns-in-Ok
returns-in-Ok c =
    let told = c.in-Ok.ensures ∙ answered c.args.width c.args.height _ c.filter_of.ensures in
    let is = ok_told (λ (n : ℕ). n) _ _ _ told in
    (sym is.0, is.1 ∙ sym (lent_accepted _ _ _ is.0))

pub returns-in-Err : goal.returns-in-Err
returns-in-Err c =
    let told = c.in-Err.ensures ∙ answered c.args.width c.args.height _ c.filter_of.ensures in
    let is = err_told (λ (n : ℕ). n) _ _ _ told in
    (c.number.ensures ∙ sym is, sym (lent_refused _ _ _ _ is (number_not_zero c.in-Err.refusal)))
