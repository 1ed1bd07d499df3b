-- What `search` does not find of `spell`.
use Rattle.std.proofs.Common.{refl, sym, ◌∙◌, arith, rules}
use Rattle.text.proofs.Digits.{none_written, all_written, first_written, pair_written}
use Rattle.text.proofs.spell.Goals as goal

pub loop-k-init : goal.loop-k-init
loop-k-init c = (search rules, none_written c.args.n c.args.out.now c.requires)

pub loop-k-preserved : goal.loop-k-preserved
loop-k-preserved c =
    let turn = c.loop-k in (
      search rules,
      turn.invariant.1
          ∙ pair_written turn.k turn.rest _ _ turn.out _ (omega arith) (search rules) c.digit_pairs-pairs.ensures refl refl,
    )

pub returns-then-k-gt0 : goal.returns-then-k-gt0
returns-then-k-gt0 c =
    let turn = c.loop-k in
    sym (turn.invariant.1 ∙ first_written turn.rest turn.k turn.out (omega arith) (search rules))

pub returns-else-k-gt0 : goal.returns-else-k-gt0
returns-else-k-gt0 c =
    let turn = c.loop-k in
    sym (turn.invariant.1 ∙ all_written turn.rest turn.k turn.out (omega arith))
