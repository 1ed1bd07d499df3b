-- `filter::checks::measure` meets its contract: a recipe's checks go by its counts, its reaches and its weight held at its limit.
-- Assumes nothing.
use mathlib.Core.Path.{sym, ap₂, ◌∙◌}
use Rattle.std.proofs.lemmas.Result.{err_from_is_err_and}
use Rattle.spec.specs.declared.refusal.Refusal.TheVariants.{TooLong}
use Rattle.spec.specs.Recipe.{recipe}
use Rattle.spec.specs.Refusals.{recipe_checks, number}
use Rattle.laws.proofs.Results.{told_err}
use Rattle.filter.specs.Measured.{measured}
use Rattle.filter.proofs.Measuring.{verdict_of, long_either, counts_short, gain_capped, short, accepted_so}
use Rattle.filter.proofs.checks.measure.Goals as goal

pub returns-then-filter-gt48 : goal.returns-then-filter-gt48
unfolding number
returns-then-filter-gt48 c =
    let f = c.args.filter in
    told_err (λ m. m) (recipe_checks (recipe f)) (measured (recipe f)) TooLong (long_either f c.then-filter-gt48.either)

pub returns-in_err-verdict : goal.returns-in_err-verdict
unfolding recipe
returns-in_err-verdict c =
    let f = c.args.filter in
    let e = c.in_err-verdict.field-0.0 in
    let across = c.survey-across.ensures in
    let both = c.survey-both.ensures in
    let p = err_from_is_err_and c.from_residual.result c.from_residual.ensures.1 in
    let held = gain_capped f c.survey-across.result.gain c.survey-both.result.gain across.1 both.1 in
    let none = counts_short f c.if-filter-gt48.false c.if-filter-gt48-2.false in
    rw (p.1, p.2)
    (told_err (λ m. m) (recipe_checks (recipe f)) (measured (recipe f)) e
    (short (recipe f) c.survey-both.result.gain none held
    ∙ sym (c.in_err-verdict.ensures ∙ ap₂ (λ a b. verdict_of a b c.survey-both.result.gain) across.0 both.0)))

pub returns : goal.returns
unfolding recipe
returns c =
    let f = c.args.filter in
    let across = c.survey-across.ensures in
    let both = c.survey-both.ensures in
    let held = gain_capped f c.survey-across.result.gain c.survey-both.result.gain across.1 both.1 in
    let none = counts_short f c.if-filter-gt48.false c.if-filter-gt48-2.false in
    accepted_so (recipe f) _ held across.0 both.0 none
    (sym (c.in_ok-verdict.ensures ∙ ap₂ (λ a b. verdict_of a b c.survey-both.result.gain) across.0 both.0))
