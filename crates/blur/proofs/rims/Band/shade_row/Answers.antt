-- `blur::rims::Band::shade_row` meets its contract: the rims are written, and then the middle.
-- Assumes nothing.
use mathlib.Core.Path.{◌≡◌, ◌∙◌}
use mathlib.Core.List.{List, map}
use Prim.Native.Nat.{ℕ, ◌-◌, ◌≤◌, ◌<◌}
use native.Mathlib.Omega.{arith}
use lib.IntN.{ℤ, pos}
use lib.ListN.{length, take, drop}
use Rattle.spec.specs.Picture.{largest_gray}
use Rattle.spec.specs.Gray.{gray, leftover, grays, leftovers}
use Rattle.laws.proofs.Slices.{alike}
use Rattle.gray.proofs.Dividing.{shades_are}
use Rattle.gray.specs.Rounded.{Shaded}
use Rattle.blur.specs.declared.rims.Band.{Band}
use Rattle.blur.specs.Rims.{weight_at, Weighty, Dim, Ready}
use Rattle.blur.proofs.Parts.{middle_dim, whole_row, is_accepted, rounded_number, rounded_all}
use Rattle.blur.proofs.rims.Band.shade_row.Goals as goal

-- the middle, and a row whose rims are made
module _ (band : Band) (sums : List ℕ) (ready : Ready band) (weighty : Weighty band.across.now band.down)
    (dim : Dim largest_gray band.across.now band.down sums) (wide : length sums ≡ length band.across.now) where
  abbrev across : List ℕ
  across = band.across.now

  abbrev from : ℕ
  from = band.middle.from

  abbrev to : ℕ
  to = band.middle.to

  abbrev part : List ℕ
  part = take (to - from) (drop from sums)

  abbrev own : ℕ
  own = weight_at across band.down from

  bounds : (from < to) × (to ≤ length across)
  bounds = (ready.level.some, ready.level.inside)

  -- the outputs are as long as the sums there
  alike-middle : {A : Type 0} (d : A) (l : List A) → length l ≡ length across → length (take (to - from) (drop from l)) ≡ length part
  alike-middle d l e = alike d l 0 sums from to (omega (arith, bounds)) (omega (arith, bounds, e)) (omega (arith, bounds, wide))

  -- what is made in the middle
  middle-made : (out : List ℕ) (left : List ℤ) → length out ≡ length across → length left ≡ length across → (number : ℕ) (new : List ℕ) (new_left : List ℤ)
      → Shaded band.by part (take (to - from) (drop from out)) (take (to - from) (drop from left)) number new new_left
      → (number ≡ 0) × (new ≡ map (gray own) part) × (new_left ≡ map (leftover own) part)
  unfolding grays leftovers
  middle-made out left e f number new new_left told =
      let w = weighty from (omega (arith, bounds)) in
      let g = alike-middle 0 out e in
      let h = alike-middle (pos 0) left f in
      let made = rounded_all band.by part _ _ g h number new new_left told in
      let are = shades_are _ _ (record { not_zero = w.0; light = w.1; is = ready.by }) part (middle_dim across sums band.down band.middle ready.level wide largest_gray dim) in
      (rounded_number band.by part _ _ g h number new new_left told, made.0 ∙ are.0, made.1 ∙ are.1)

pub unwrap-requires : goal.unwrap-requires
unwrap-requires c =
    let band = c.args.self.now in
    let q = c.requires in
    is_accepted _ (middle-made band c.args.sums.now q.0 q.1 q.2 q.3 _ _ (c.rims.auto.out ∙ q.4) (c.rims.auto.leftovers ∙ q.5) _ _ _ c.round_row.ensures).0

pub returns : goal.returns
returns c =
    let band = c.args.self.now in
    let across = band.across.now in
    let sums = c.args.sums.now in
    let q = c.requires in
    let out-wide = c.rims.auto.out ∙ q.4 in
    let left-wide = c.rims.auto.leftovers ∙ q.5 in
    let middle = middle-made band sums q.0 q.1 q.2 q.3 _ _ out-wide left-wide _ _ _ c.round_row.ensures in
    let made = c.rims.ensures in (
      whole_row gray 0 across sums band.down band.middle q.0.level q.3 _ out-wide made.0 _ middle.1,
      whole_row leftover (pos 0) across sums band.down band.middle q.0.level q.3 _ left-wide made.1 _ middle.2,
    )
