-- What `search` does not find of `sums::inside`.
use Rattle.std.proofs.Common.{◌≡◌, ◌-◌, ◌<◌, ◌^◌, take, drop, sum, arith, ◌∙◌}
use Rattle.std.proofs.lemmas.Iterator.{YieldsList-from_slice}
use Rattle.std.proofs.lemmas.Iterator.Consumers.{fits_from_yields_list, sum_from_yields_List}
use Rattle.direct.proofs.Windowing.{window_ones}
use Rattle.direct.proofs.Weighing.{weighed_fits, weighed_all}
use Rattle.direct.proofs.sums.inside.Goals as goal

pub sum-requires-clause-fits : goal.sum-requires-clause-fits
sum-requires-clause-fits c =
    let ks = c.args.kernel.now in
    let e = c.min-end.result in
    let s = c.saturating_sub-start.result in
    let all = window_ones ks c.args.n c.args.i s e c.saturating_sub-start.ensures c.min-end.ensures (omega arith) (omega arith) in
    let small : sum (take (e - s) (drop s ks)) < 2 ^ 64 = omega (arith, weighed_fits ks _ c.args.i 1 all (omega arith)) in
    fits_from_yields_list c.iter.result _ (YieldsList-from_slice (take (e - s) (drop s ks)) cc) small

pub returns : goal.returns
returns c =
    let ks = c.args.kernel.now in
    let e = c.min-end.result in
    let s = c.saturating_sub-start.result in
    let all = window_ones ks c.args.n c.args.i s e c.saturating_sub-start.ensures c.min-end.ensures (omega arith) (omega arith) in
    let total : c.sum.result ≡ sum (take (e - s) (drop s ks)) =
    sum_from_yields_List c.iter.result _ c.sum.ensures.ran (YieldsList-from_slice (take (e - s) (drop s ks)) cc) in
    record {
      value = total ∙ weighed_all ks _ c.args.i 1 all c.min-end.ensures;
      bound = rw total (omega (arith, weighed_fits ks _ c.args.i 1 all (omega arith)));
    }
