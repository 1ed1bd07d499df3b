-- What `search` does not find of `equivalent`: a refusal, or the counts of both axes compared.
use Rattle.std.proofs.Common.{Bool, ◌∙◌, sym, refl, true, false}
use Rattle.std.proofs.lemmas.Result.{err_from_is_err_and}
use Rattle.spec.specs.Recipe.{recipe, widths}
use Rattle.spec.specs.Same.{same_counts, equivalent}
use Rattle.spec.specs.Refusals.{compare_checks}
use Rattle.laws.proofs.Results.{told_err}
use Rattle.equivalence.proofs.Comparing.{lists_short, answered}
use Rattle.equivalence.proofs.equivalent.Goals as goal

pub returns-in_err-check_both : goal.returns-in_err-check_both
returns-in_err-check_both c =
    let p = err_from_is_err_and c.from_residual.result c.from_residual.ensures.1 in
    rw (p.1, p.2) (told_err (λ (b : Bool). b) (compare_checks (recipe c.args.a) (recipe c.args.b)) (equivalent (recipe c.args.a) (recipe c.args.b)) _ (sym c.in_err-check_both.ensures))

pub same_counts-requires : goal.same_counts-requires
same_counts-requires c = let short = lists_short c.args.a c.args.b c.in_ok-check_both.ensures in record { a_short = short.0.0; b_short = short.1.0 }

pub same_counts-requires-then-same_counts : goal.same_counts-requires-then-same_counts
same_counts-requires-then-same_counts c = let short = lists_short c.args.a c.args.b c.in_ok-check_both.ensures in record { a_short = short.0.1; b_short = short.1.1 }

pub returns-then-same_counts : goal.returns-then-same_counts
returns-then-same_counts c =
    answered c.args.a c.args.b c.in_ok-check_both.ensures true _ (sym c.if-same_counts.true ∙ c.same_counts.ensures) c.same_counts-then-same_counts.ensures

pub returns-else-same_counts : goal.returns-else-same_counts
returns-else-same_counts c =
    rw c.if-same_counts.false
    (answered c.args.a c.args.b c.in_ok-check_both.ensures false (same_counts (widths c.args.a.columns) (widths c.args.b.columns))
    (sym c.if-same_counts.false ∙ c.same_counts.ensures) refl)
