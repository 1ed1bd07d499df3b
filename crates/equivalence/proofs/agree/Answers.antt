-- What `search` does not find of `agree`.
use Rattle.std.proofs.Common.{arith, rules}
use Rattle.std.proofs.lemmas.List.{length_push}
use Rattle.std.proofs.lemmas.Slice.Zip.{zip_turn, zip_end}
use Rattle.equivalence.proofs.Tallies.{compared_none, compared_more, compared_all}
use Rattle.equivalence.proofs.agree.Goals as goal

pub loop-x-init : goal.loop-x-init
loop-x-init c = (search rules, search rules, compared_none c.args.a.now c.args.b.now)

pub loop-x-preserved : goal.loop-x-preserved
loop-x-preserved c =
    let a = c.args.a.now in
    let b = c.args.b.now in
    let turn = zip_turn a b c.loop-x.yielded c.into_iter-x-iterator.result c.loop-x.x-iterator c.next.new.self _ (cc) (cc) c.loop-x.yielded_by
    (c.in-Some.x, c.in-Some.y) c.in-Some.is c.next.ensures.steps in (
      search rules,
      search rules,
      rw length_push (compared_more a b _ _ c.loop-x.invariant.2 (omega (arith, turn.0, c.told-a)) _ _ (turn.2 0) (turn.3 0)),
    )

pub returns : goal.returns
returns c =
    let a = c.args.a.now in
    let b = c.args.b.now in
    let end = zip_end a b c.loop-x.yielded c.into_iter-x-iterator.result c.loop-x.x-iterator c.next.new.self _ (cc) (cc) c.loop-x.yielded_by
    c.in-None.is c.next.ensures.steps in
    compared_all a b _ _ c.loop-x.invariant.2 (omega (arith, end, c.told-a, c.told-b))
