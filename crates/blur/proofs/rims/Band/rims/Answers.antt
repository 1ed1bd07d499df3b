-- `blur::rims::Band::rims` meets its contract: one rim after the other.
-- Assumes nothing.
use Rattle.std.proofs.Common.{◌≡◌, ℕ, ◌≤◌, ◌-◌, ◌++◌, List, length, get_or, take, drop, pos, ap, ◌∙◌, arith, length-append, length-drop}
use lib.Seq.{length-take-le}
use Rattle.laws.proofs.Slices.{length_between}
use Rattle.spec.specs.Gray.{gray, leftover}
use Rattle.blur.specs.declared.rims.Band.{Band}
use Rattle.blur.specs.Rims.{Ready, Shades, shaded}
use Rattle.blur.proofs.Parts.{shaded_front, shaded_back, both_rims}
use Rattle.blur.proofs.rims.Band.rims.Goals as goal

-- greys or leftovers, of which those at the left rim came back as ys and those at the right rim as zs
both-shaded : {A : Type 0} (f : ℕ → ℕ → A) (d : A) (band : Band) → Ready band → (sums : List ℕ) → length sums ≡ length band.across.now → (l ys zs : List A)
    → length l ≡ length band.across.now → length ys ≡ length (take band.middle.from l)
    → length zs ≡ length (take (length (ys ++ drop band.middle.from l) - band.middle.to) (drop band.middle.to (ys ++ drop band.middle.from l)))
    → ys ≡ shaded f (take band.middle.from band.across.now) band.down (take band.middle.from sums)
    → zs
    ≡ shaded f (take (length band.across.now - band.middle.to) (drop band.middle.to band.across.now)) band.down
    (take (length sums - band.middle.to) (drop band.middle.to sums))
    → Shades f d band sums
    (take band.middle.to (ys ++ drop band.middle.from l)
    ++ (zs
    ++ drop (length (ys ++ drop band.middle.from l) - band.middle.to) (drop band.middle.to (ys ++ drop band.middle.from l))))
both-shaded f d band ready sums size l ys zs wide first second left right k below at =
    let s = band.middle in
    let across = band.across.now in
    let some = ready.level.some in
    let inside = ready.level.inside in
    let before : s.from ≤ length across = omega arith in
    let back = drop s.from l in
    let front : length ys ≡ s.from = first ∙ length-take-le s.from l (omega arith) in
    let whole : length (ys ++ back) ≡ length across = omega (arith, length-append ys back, length-drop s.from l) in
    let fits : s.to ≤ length (ys ++ back) = omega arith in
    let same : length (ys ++ back) ≤ length (ys ++ back) = omega arith in
    both_rims d s (length (ys ++ back)) ys back zs some fits same front (second ∙ length_between d (ys ++ back) s.to (length (ys ++ back)) fits same) _
    (λ k h. ap (λ m. get_or m k d) left ∙ shaded_front f d across band.down sums s.from before k h)
    (λ k h. ap (λ m. get_or m k d) right ∙ shaded_back f d across band.down sums s.to inside size k (omega arith))
    k (omega arith) at

pub returns : goal.returns
returns c =
    let band = c.args.self.now in
    let q = c.requires in
    let left = c.rim.ensures in
    let right = c.rim-2.ensures in (
      both-shaded gray 0 band q.0 c.args.sums.now q.3 _ _ _ q.4 c.rim.auto.out c.rim-2.auto.out left.0 right.0,
      both-shaded leftover (pos 0) band q.0 c.args.sums.now q.3 _ _ _ q.5 c.rim.auto.leftovers c.rim-2.auto.leftovers left.1 right.1,
    )
