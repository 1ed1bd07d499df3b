-- `blur::rims::Band::turn` meets its contract: the reciprocals of both rims and then the divisor of the middle.
-- Assumes nothing.
use Rattle.std.proofs.Common.{◌≡◌, ◌≤◌, ◌*◌, ◌++◌, length, drop, refl, ap, ◌∙◌, arith, rules, length-append, length-drop}
use lib.Seq.{length-take-le, get_or-take}
use Rattle.laws.proofs.Slices.{length_between, get_d_between}
use Rattle.gray.specs.Division.{reciprocal_of}
use Rattle.blur.specs.Rims.{weight_at}
use Rattle.blur.proofs.Parts.{both_rims}
use Rattle.blur.proofs.rims.Band.turn.Goals as goal

pub returns : goal.returns
returns c =
    let ready = c.requires.0 in
    let s = c.args.self.now.middle in
    let across = c.args.self.now.across.now in
    let some = ready.level.some in
    let inside = ready.level.inside in
    let held : length c.args.self.now.reciprocals ≡ 1024 = search rules in
    let before : s.from ≤ length across = omega arith in
    let left = c.invert.new.reciprocals in
    let back = drop s.from (drop 0 c.args.self.now.reciprocals) in
    let first : length left ≡ s.from = c.invert.auto.reciprocals ∙ length-take-le s.from c.args.self.now.reciprocals (omega (arith, ready.short)) in
    let room : length across ≤ length (left ++ back) =
    omega (
      arith,
      ready.short,
      length-append left back,
      length-drop s.from (drop 0 c.args.self.now.reciprocals),
      length-drop 0 c.args.self.now.reciprocals,
    ) in
    let second = c.invert-2.auto.reciprocals ∙ length_between 0 (left ++ back) s.to (length across) inside room in (
      record {
        level = ready.level;
        short = ready.short;
        by = c.of-self.ensures;
        rims = both_rims 0 s (length across) left back c.invert-2.new.reciprocals some inside room first second
            (λ k. reciprocal_of (weight_at across c.args.down k))
            (λ k h. c.invert.ensures k (omega (arith, length-take-le s.from across before)) ∙ ap (λ x. reciprocal_of (x * c.args.down)) (get_or-take s.from across k 0 h))
            (λ k h.
            c.invert-2.ensures k (omega (arith, length_between 0 across s.to (length across) inside (search rules)))
            ∙ ap (λ x. reciprocal_of (x * c.args.down)) (get_d_between 0 across s.to (length across) inside (search rules) k h));
      },
      refl,
      refl,
    )
