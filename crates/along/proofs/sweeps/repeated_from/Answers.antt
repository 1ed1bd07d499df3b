-- What `search` does not find of `repeated_from`.
use Rattle.std.proofs.Common.{◌≤◌, sym, refl, ap, ◌∙◌, arith}
use Rattle.along.specs.Private.{repeat, swept}
use Rattle.along.proofs.Carrying.{swept_two, carried_first}
use Rattle.along.proofs.Rows.{repeat_less}
use Rattle.along.proofs.sweeps.repeated_from.Goals as goal

pub returns-in-1 : goal.returns-in-1
unfolding repeat
returns-in-1 g c =
    let f = swept g.S.Stage.made g.S.Stage.after c.args.stage in
    record {
      values = c.sweep_from.ensures.values ∙ ap (λ n. repeat n f c.args.narrow.now) (sym c.in-1.is);
      state = c.sweep_from.ensures.state;
    }

pub returns-in-2 : goal.returns-in-2
returns-in-2 g c =
    let made = g.S.Stage.made in
    let after = g.S.Stage.after in
    let s = c.args.stage in
    let xs = c.args.narrow.now in
    record {
      values =
          c.sweep_from-in-2.ensures.values ∙ swept_two made after s xs ∙ ap (λ n. repeat n (swept made after s) xs) (sym c.in-2.is);
      state = ap (λ t. t.first) c.sweep_from-in-2.ensures.state ∙ carried_first made after made after s s xs;
    }

pub returns-in_default : goal.returns-in_default
returns-in_default g c =
    let s = c.args.stage in
    let xs = c.args.narrow.now in
    let many : 3 ≤ c.args.count = omega arith in
    let sweep = c.three_from-first.ensures in
    record {
      values = c.repeated.ensures ∙ repeat_less (swept g.S.Stage.made g.S.Stage.after s) 3 c.args.count xs c.three_from-first.new.row _ many sweep.values refl;
      state = sweep.state;
    }
