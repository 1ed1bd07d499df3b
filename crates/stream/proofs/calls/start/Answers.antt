-- `stream::calls::start` meets its contract: 1 to 5, then 8, then the needed cells cleared.
-- Assumes nothing.
use Rattle.std.proofs.Common.{◌≡◌, ℕ, List, cond, ltb, ◌++◌, length, drop, replicate, Ok, sym, ap, ◌∙◌, arith, length-take-le, le-ltb, lt-ltb, rules}
use Rattle.std.proofs.lemmas.Result.{err_from_is_err_and}
use Rattle.spec.specs.Recipe.{Recipe, recipe}
use Rattle.spec.specs.Refusals.{first, answer, told, number, size_checks, start_checks, too_few_cells}
use Rattle.laws.proofs.Refusals.{lent_refused, lent_accepted, first_front, first_then, size_numbered}
use Rattle.laws.proofs.Results.{number_not_zero, err_told, ok_told}
use Rattle.stream.specs.declared.sizes.Sizes.{Sizes}
use Rattle.stream.specs.Private.{sizes}
use Rattle.stream.specs.Calls.{began, started, start, zeros}
use Rattle.stream.proofs.calls.start.Goals as goal

pub returns-in_err-sizes : goal.returns-in_err-sizes
unfolding start start_checks began
returns-in_err-sizes c =
    let a = c.args in
    let r = recipe a.filter in
    let p = err_from_is_err_and c.from_residual.result c.from_residual.ensures.1 in
    let none = number_not_zero c.in_err-sizes.field-0.0 in
    let e = first_front _ _ _ (err_told (λ (s : Sizes). s) (size_checks r a.width a.height) (sizes r a.width a.height) _ c.in_err-sizes.ensures) none in
    rw (p.1, p.2) (ap (λ n. record { number = n; state = zeros; cells = a.cells.now }) (sym e) ∙ sym (lent_refused _ _ _ _ e none))

-- 8 goes by the length of the cells
eight : (r : Recipe) (w h : ℕ) (cells : List ℕ) (a : Sizes) → told (λ (s : Sizes). s) (Ok a) ≡ answer (size_checks r w h) (sizes r w h)
    → first (start_checks r w h (length cells)) ≡ cond (ltb (length cells) a.cells) 8 0
unfolding start_checks too_few_cells
eight r w h cells a e =
    let q = ok_told (λ (s : Sizes). s) (size_checks r w h) (sizes r w h) a e in
    first_then _ _ 8 (size_numbered r w h) q.0
    ∙ ap (λ n. cond (ltb (length cells) n) 8 0) (sym (ap (λ (s : Sizes). s.cells) q.1))

pub returns-then-cells-sizes : goal.returns-then-cells-sizes
unfolding start began number
returns-then-cells-sizes c =
    let a = c.args in
    let is = eight (recipe a.filter) a.width a.height a.cells.now _ c.in_ok-sizes.ensures ∙ ap (λ b. cond b 8 0) (lt-ltb _ _ c.if-cells-sizes.true) in
    ap (λ n. record { number = n; state = zeros; cells = a.cells.now }) (sym is) ∙ sym (lent_refused _ _ _ 8 is (λ z. omega arith))

pub returns : goal.returns
unfolding start began started
returns c =
    let a = c.args in
    let r = recipe a.filter in
    let n = c.in_ok-sizes.sizes.cells in
    let q = ok_told (λ (s : Sizes). s) (size_checks r a.width a.height) (sizes r a.width a.height) _ c.in_ok-sizes.ensures in
    let is = eight r a.width a.height a.cells.now _ c.in_ok-sizes.ensures ∙ ap (λ b. cond b 8 0) (le-ltb _ _ c.if-cells-sizes.false) in
    let clear = c.fill.ensures.after (search rules) ∙ ap (λ k. replicate k 0) (length-take-le n a.cells.now c.if-cells-sizes.false) in
    let now = ap (λ l. l ++ drop n a.cells.now) clear ∙ ap (λ k. replicate k 0 ++ drop k a.cells.now) (ap (λ (s : Sizes). s.cells) q.1) in
    (λ i. record { number = 0; state = c.state_at.ensures i; cells = now i }) ∙ sym (lent_accepted _ _ _ is)
