-- What `search` does not find of `differences`.
use mathlib.Core.Path.{◌≡◌, refl, sym, ap, ap₂, subst, ◌∙◌}
use mathlib.Core.List.{List}
use Prim.Native.Nat.{ℕ, ◌+◌, ◌*◌, ◌≤◌, ◌<◌}
use native.Mathlib.Nat.{mul_comm, mul-le-mul, zero-mul, suc-mul}
use native.Mathlib.Omega.{arith}
use borrow.Author.Rules.{rules}
use lib.IntN.{ℤ, pos}
use lib.ListN.{length, take, drop}
use Rattle.spec.specs.Recipe.{recipe}
use Rattle.spec.specs.Picture.{picture, Within, largest_gray}
use Rattle.spec.specs.Gray.{places, difference}
use Rattle.laws.proofs.Numbers.{row_fits}
use Rattle.laws.proofs.Slices.{Mixed, mixed_none, mixed_all, length_lent}
use Rattle.laws.proofs.Rows.{length_rows, rows_more}
use Rattle.gray.specs.declared.rounding.Divisor.{Divisor}
use Rattle.gray.specs.Division.{Divides}
use Rattle.rows.specs.Streaming.{Came, picture_of}
use Rattle.difference.specs.declared.Pass.{Pass}
use Rattle.difference.specs.declared.Sums.{Sums}
use Rattle.difference.specs.Pairs.{BothTaken}
use Rattle.difference.proofs.Nearest.{row_of_differences}
use Rattle.difference.proofs.Passes.{Standing, Row, stands_first, next_due, row_room, stands_next, row_taken}
use Rattle.difference.proofs.differences.Goals as goal

-- both one passes stand before the first row that is taken
module _ (a b : Pass) (by : Divisor) (pixels : List ℕ) (taken : BothTaken a b by pixels) where
  -- both recipes are taken of one picture
  one-picture : picture_of b.state pixels ≡ picture_of a.state pixels
  one-picture = ap₂ (λ w h. picture w h pixels) taken.same_width taken.same_height

  small : a.state.width * a.state.height ≤ 1024 * 1024
  small = mul-le-mul taken.first.picture.sides.width.1 taken.first.picture.sides.height.1

  -- the rows of both have come, and what is taken of them
  module _ (bytes : Within largest_gray (picture_of a.state pixels)) (j : ℕ) (l m : Pass) (st : Standing a l pixels j) (tt : Standing b m pixels j)
      (n o : Pass) (came : Came l.state n.state pixels n.row.now n.cells.now × (n.left ≡ l.left) × (n.weight ≡ l.weight)
      × Came m.state o.state pixels o.row.now o.cells.now × (o.left ≡ m.left) × (o.weight ≡ m.weight))
      (first second : Sums) (x : (first.weight ≡ n.weight) × (first.sums.now ≡ take n.state.width (drop n.left n.row.now)))
      (y : (second.weight ≡ o.weight) × (second.sums.now ≡ take o.state.width (drop o.left o.row.now))) where
    first-row : Row (recipe a.state.filter) (picture_of a.state pixels) j first.weight first.sums.now
    first-row = row_taken a pixels taken.first j l st n came.0 came.1 came.2 taken.a_gain bytes first.weight first.sums.now x.0 x.1

    second-row : Row (recipe b.state.filter) (picture_of a.state pixels) j second.weight second.sums.now
    second-row =
        subst (λ p. Row (recipe b.state.filter) p j second.weight second.sums.now) one-picture
        (row_taken b pixels taken.second j m tt o came.3 came.4 came.5 taken.b_gain bytes second.weight second.sums.now y.0 y.1)

    divides : Divides (first.weight * second.weight) by
    divides =
        subst (λ w. Divides w by)
        (ap₂ ◌*◌ (taken.a_gain ∙ sym first-row.heavy) (taken.b_gain ∙ sym second-row.heavy)) taken.divides

-- the row of differences lies inside the output
inside-out : (w h j size : ℕ) → j < h → size ≡ w * h → j * w + w ≤ size
inside-out w h j size below e = omega (arith, e, mul_comm w h, row_fits w j h below)

-- a row more is written
next-row : (w j : ℕ) (front back l : List ℤ) → Mixed (j * w + w) front back l → Mixed ((j + 1) * w) front back l
next-row w j front back l m = let e : j * w + w ≡ (j + 1) * w = omega (arith, suc-mul j w) in subst (λ n. Mixed n front back l) e m

pub loop-j-init : goal.loop-j-init
unfolding places
loop-j-init c =
    let a = c.args.a in
    let b = c.args.b in
    let taken = c.requires.0 in
    let p = picture_of a.state c.args.pixels.now in
    let out = c.args.out.now in
    let d = difference (recipe a.state.filter) (recipe b.state.filter) p in
    let size : length (places p d) ≡ length out =
    length_rows a.state.width a.state.height (λ j i. d i j) ∙ mul_comm a.state.height a.state.width ∙ sym c.requires.1 in
    let none : 0 ≡ 0 * a.state.width = sym (zero-mul a.state.width) in
    let first = stands_first a c.args.pixels.now taken.first in
    let second = stands_first b c.args.pixels.now taken.second in (
      record { left = first.left; weight = first.weight; wide = first.wide; streamed = first.streamed },
      record { left = second.left; weight = second.weight; wide = second.wide; streamed = second.streamed },
      subst (λ n. Mixed n (places p d) out out) none (mixed_none (places p d) out size),
    )

pub next_rows-requires : goal.next_rows-requires
next_rows-requires c =
    let taken = c.requires.0 in
    let below = c.loop-j-test.true in (
      next_due c.args.a _ taken.first c.loop-j.j c.loop-j.a c.loop-j.invariant.0 below,
      next_due c.args.b _ taken.second c.loop-j.j c.loop-j.b c.loop-j.invariant.1 (omega (arith, below, taken.same_height)),
    )

pub taken-first-requires : goal.taken-first-requires
taken-first-requires c =
    let came = c.next_rows.ensures in row_room c.args.a _ c.requires.0.first c.loop-j.j c.loop-j.a c.loop-j.invariant.0 c.next_rows.new.a came.0 came.1 came.2

pub taken-second-requires : goal.taken-second-requires
taken-second-requires c =
    let came = c.next_rows.ensures in row_room c.args.b _ c.requires.0.second c.loop-j.j c.loop-j.b c.loop-j.invariant.1 c.next_rows.new.b came.3 came.4 came.5

pub difference_row-requires : goal.difference_row-requires
difference_row-requires c =
    let bytes : Within largest_gray (picture_of c.args.a.state c.args.pixels.now) = λ k. omega (arith, c.type_inv.pixels k) in
    let a = c.args.a in
    let w = a.state.width in
    let out = sym (length_lent (c.loop-j.j * w) w c.loop-j.out (inside-out w a.state.height _ (length c.loop-j.out) c.loop-j-test.true (c.loop-j.auto.out ∙ c.requires.1))) in
    let first = first-row a c.args.b c.args.by _ c.requires.0 bytes c.loop-j.j c.loop-j.a c.loop-j.b c.loop-j.invariant.0 c.loop-j.invariant.1 c.next_rows.new.a c.next_rows.new.b c.next_rows.ensures c.taken-first.result c.taken-second.result c.taken-first.ensures c.taken-second.ensures in
    let second = second-row a c.args.b c.args.by _ c.requires.0 bytes c.loop-j.j c.loop-j.a c.loop-j.b c.loop-j.invariant.0 c.loop-j.invariant.1 c.next_rows.new.a c.next_rows.new.b c.next_rows.ensures c.taken-first.result c.taken-second.result c.taken-first.ensures c.taken-second.ensures in (
      divides a c.args.b c.args.by _ c.requires.0 bytes c.loop-j.j c.loop-j.a c.loop-j.b c.loop-j.invariant.0 c.loop-j.invariant.1 c.next_rows.new.a c.next_rows.new.b c.next_rows.ensures c.taken-first.result c.taken-second.result c.taken-first.ensures c.taken-second.ensures,
      first.bounded,
      second.bounded,
      first.size ∙ out,
      second.size ∙ out,
    )

pub loop-j-preserved : goal.loop-j-preserved
unfolding places
loop-j-preserved c =
    let bytes : Within largest_gray (picture_of c.args.a.state c.args.pixels.now) = λ k. omega (arith, c.type_inv.pixels k) in
    let a = c.args.a in
    let b = c.args.b in
    let w = a.state.width in
    let h = a.state.height in
    let p = picture_of a.state c.args.pixels.now in
    let f = recipe a.state.filter in
    let g = recipe b.state.filter in
    let j = c.loop-j.j in
    let below = c.loop-j-test.true in
    let came = c.next_rows.ensures in
    let first = first-row a b c.args.by _ c.requires.0 bytes j c.loop-j.a c.loop-j.b c.loop-j.invariant.0 c.loop-j.invariant.1 c.next_rows.new.a c.next_rows.new.b came c.taken-first.result c.taken-second.result c.taken-first.ensures c.taken-second.ensures in
    let second = second-row a b c.args.by _ c.requires.0 bytes j c.loop-j.a c.loop-j.b c.loop-j.invariant.0 c.loop-j.invariant.1 c.next_rows.new.a c.next_rows.new.b came c.taken-first.result c.taken-second.result c.taken-first.ensures c.taken-second.ensures in
    let fits = inside-out w h j (length c.loop-j.out) below (c.loop-j.auto.out ∙ c.requires.1) in
    let made =
    c.difference_row.ensures
    ∙ row_of_differences f g p j _ _ _ _ _ first.heavy second.heavy (length_lent (j * w) w c.loop-j.out fits) first.at second.at in
    let written = rows_more w h (λ j i. difference f g p i j) (pos 0) j (j * w) _ c.loop-j.invariant.2 refl below (inside-out w h j (length c.args.out.now) below c.requires.1) made in (
      stands_next a _ c.requires.0.first c.loop-j.j c.loop-j.a c.loop-j.invariant.0 c.next_rows.new.a came.0 came.1 came.2,
      stands_next b _ c.requires.0.second c.loop-j.j c.loop-j.b c.loop-j.invariant.1 c.next_rows.new.b came.3 came.4 came.5,
      next-row w j _ _ _ written,
    )

pub returns : goal.returns
returns c =
    let s = c.args.a.state in
    let done : c.loop-j.j ≡ s.height = search rules in
    mixed_all c.loop-j.invariant.2 (omega (arith, ap (λ k. k * s.width) done, mul_comm s.height s.width, c.requires.1))
