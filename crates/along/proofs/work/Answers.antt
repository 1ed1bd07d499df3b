-- `along::work` meets its contract, by whether the list has a wide box: the laws of Boxes on what was loaded.
-- Assumes nothing.
use Rattle.std.proofs.Common.{◌≡◌, ℕ, List, ◌-◌, ◌%◌, ◌^◌, ◌<◌, ◌≤◌, min, cond, length, replicate, sym, ap, ◌∙◌, ap₂, arith, rules}
use lib.ListN.{length-replicate}
use Rattle.spec.specs.Words.{sum, tab}
use Rattle.laws.proofs.Kernels.{at}
use Rattle.along.specs.Private.{repeat, carried, paired, totalled, wide_boxes, wides}
use Rattle.along.proofs.Rows.{row}
use Rattle.along.proofs.Carrying.{total_after, repeated_pairs, repeated_totals, carried_total}
use Rattle.along.proofs.Loading.{count_twos, count_wides}
use Rattle.along.proofs.Boxes.{nowhere_wide, somewhere_wide, worked_pairs, worked_totals}
use Rattle.along.proofs.work.Goals as goal

-- the row in 16 bits is as long as the other
same_size : (l : List ℕ) (w : ℕ) → l ≡ replicate w 0 → length l ≡ w
same_size l w e = ap length e ∙ length-replicate w 0

pub load-requires : goal.load-requires
load-requires c =
    let a = c.args in
    c.requires ∙ ap (λ n. replicate n 0) (sym (same_size a.narrow.now (length a.row.now) c.requires))

pub work_pairs-requires : goal.work_pairs-requires
work_pairs-requires c = c.load.auto.narrow ∙ same_size c.args.narrow.now (length c.args.row.now) c.requires

pub repeated_from-first-requires : goal.repeated_from-first-requires
repeated_from-first-requires c = (search rules, c.load.auto.narrow ∙ same_size c.args.narrow.now (length c.args.row.now) c.requires)

pub returns-then-wides-eq0 : goal.returns-then-wides-eq0
unfolding at row
returns-then-wides-eq0 c =
    let a = c.args in
    let ns = a.boxes.now in
    let xs = a.pixels.now in
    let w = length a.row.now in
    let bytes : (k : ℕ) → at xs k ≤ 255 = λ k. omega (arith, c.type_inv.pixels k) in
    let twos = c.counted-twos.ensures.twos ∙ count_twos ns in
    let loaded = c.load.ensures ∙ ap (λ n. tab n (at xs)) (same_size a.narrow.now w c.requires) in
    let none : wides ns ≡ 0 = sym (count_wides ns) ∙ sym c.counted-twos.ensures.wides ∙ c.if-wides-eq0.true in (
      c.work_pairs.ensures
          ∙ ap₂ (λ c l. repeat (c - min c 8) (paired (2 ^ 64)) (repeat (min c 8) (paired (2 ^ 16)) l)) twos loaded
          ∙ worked_pairs w ns xs bytes none,
      sym (ap (λ b. cond b (sum w (at xs) % 2 ^ 64) 0) (nowhere_wide ns none)),
    )

pub returns : goal.returns
unfolding at row
returns c =
    let a = c.args in
    let ns = a.boxes.now in
    let xs = a.pixels.now in
    let w = length a.row.now in
    let bytes : (k : ℕ) → at xs k ≤ 255 = λ k. omega (arith, c.type_inv.pixels k) in
    let twos = c.counted-twos.ensures.twos ∙ count_twos ns in
    let wide_ones = c.counted-twos.ensures.wides ∙ count_wides ns in
    let pos : 0 < wides ns = omega (arith, wide_ones, c.if-wides-eq0.false) in
    let loaded = c.load.ensures ∙ ap (λ n. tab n (at xs)) (same_size a.narrow.now w c.requires) in
    let first = c.repeated_from-first.ensures in (
      c.all_apart.ensures
          ∙ ap (wide_boxes ns)
          (c.repeated.ensures
          ∙ repeated_pairs (2 ^ 64) _ _
          ∙ ap₂ (λ c l. repeat c (paired (2 ^ 64)) l) twos
          (first.values ∙ repeated_totals _ _ ∙ ap₂ (λ c l. repeat c totalled l) wide_ones loaded))
          ∙ worked_totals w ns xs bytes,
      ap (λ t. t.total) (first.state ∙ ap (carried total_after record { total = 0 }) loaded)
          ∙ carried_total w (at xs)
          ∙ sym (ap (λ b. cond b (sum w (at xs) % 2 ^ 64) 0) (somewhere_wide ns pos)),
    )
