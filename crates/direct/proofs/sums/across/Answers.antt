-- What `search` does not find of `sums::across`.
use Rattle.std.proofs.Common.{◌≡◌, ◌+◌, ◌-◌, ◌*◌, ◌≤◌, ◌<◌, ◌^◌, length, arith, ap, sym, ◌∙◌, subst, rules}
use Rattle.std.proofs.lemmas.List.{length_push}
use lib.ListN.{get_or-eq_default}
use Rattle.laws.proofs.Kernels.{at}
use Rattle.direct.proofs.Windowing.{turn, end}
use Rattle.direct.proofs.Weighing.{Weighed, weighed_start, weighed_more, weighed_fits, weighed_all}
use Rattle.direct.proofs.sums.across.Goals as goal

pub loop-coefficient-init : goal.loop-coefficient-init
unfolding at
loop-coefficient-init c =
    let line = c.args.line.now in (
      search rules,
      search rules,
      weighed_start c.args.kernel.now (at line) c.args.i 65535 (length line) _
          (λ k h. get_or-eq_default line 0 h) (omega arith) c.requires.some,
    )

-- one term more, of which the total so far is a part
next : (c : goal.After-from) → let args = c.args in
    let a = args.i + 1 - length args.line.now + length c.loop-coefficient.yielded in
    (a < length args.kernel.now)
    × Weighed args.kernel.now (at args.line.now) args.i 65535 (a + 1) (c.loop-coefficient.total + c.in-Some.coefficient.now * c.from.result)
unfolding at
next c =
    let ks = c.args.kernel.now in
    let line = c.args.line.now in
    let s = c.saturating_sub-start.result in
    let a = c.args.i + 1 - length line + length c.loop-coefficient.yielded in
    let now = turn ks line c.args.i s c.min-end.result (search rules) (search rules)
    c.into_iter-coefficient-iterator.result c.loop-coefficient.coefficient-iterator c.next.new.self (cc) (cc) c.loop-coefficient.yielded c.loop-coefficient.yielded_by _ c.next.ensures.steps (c.in-Some.coefficient, c.in-Some.pixel) c.in-Some.is in
    let same : s + length c.loop-coefficient.yielded ≡ a = omega arith in
    let pixel : c.from.result ≡ at line (c.args.i - a) = c.from.ensures ∙ now.2 ∙ ap (λ n. at line (c.args.i - n)) same in
    let small : c.from.result ≤ 65535 = omega (arith, c.from.ensures, c.type_inv.line (c.args.i - a)) in
    let more = weighed_more ks (at line) c.args.i 65535 c.from.result c.loop-coefficient.invariant.2 (omega arith) pixel small in
    (omega (arith, now.0), subst (λ x. Weighed ks (at line) c.args.i 65535 (a + 1) (c.loop-coefficient.total + x * c.from.result)) (sym (now.1 ∙ ap (at ks) same)) more)

fits : (c : goal.After-from) → c.loop-coefficient.total + c.in-Some.coefficient.now * c.from.result ≤ 65535 * 2 ^ 44
fits c =
    let n = next c in
    omega (arith, weighed_fits c.args.kernel.now (at c.args.line.now) c.args.i 65535 n.1 (omega (arith, n.0)), c.requires.light)

pub overflow_mul-total : goal.overflow_mul-total
overflow_mul-total c = omega (arith, fits c)

pub overflow_add-total : goal.overflow_add-total
overflow_add-total c = omega (arith, fits c)

pub loop-coefficient-preserved : goal.loop-coefficient-preserved
loop-coefficient-preserved c =
    let args = c.args in
    let n = length c.loop-coefficient.yielded in
    let s = args.i + 1 - length args.line.now in
    let total = c.loop-coefficient.total + c.in-Some.coefficient.now * c.from.result in
    let more : s + n + 1 ≡ s + (n + 1) = omega arith in (
      search rules,
      search rules,
      rw length_push (subst (λ a. Weighed args.kernel.now (at args.line.now) args.i 65535 a total) more (next c).1),
    )

pub returns : goal.returns
returns c =
    let args = c.args in
    let turn = c.loop-coefficient in
    let done = end args.kernel.now args.line.now args.i c.saturating_sub-start.result c.min-end.result (search rules) (search rules)
    c.into_iter-coefficient-iterator.result c.loop-coefficient.coefficient-iterator c.next.new.self (cc) (cc) turn.yielded turn.yielded_by _ c.next.ensures.steps c.in-None.is in
    record {
      value = weighed_all args.kernel.now (at args.line.now) args.i 65535 turn.invariant.2 (omega (arith, done));
      bound = weighed_fits args.kernel.now (at args.line.now) args.i 65535 turn.invariant.2 (omega (arith, done));
    }
