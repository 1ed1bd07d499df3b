-- `passes::run` meets its contract: the picture is placed so that its passes end in out, and after them the exact sums stand there.
-- Assumes nothing.
use mathlib.Core.Path.{◌≡◌, sym, ap, ◌∙◌}
use native.Mathlib.Omega.{arith}
use borrow.Author.Rules.{rules}
use lib.ListN.{length}
use Rattle.spec.specs.Recipe.{recipe}
use Rattle.spec.specs.Picture.{largest_gray, pictured, full}
use Rattle.laws.proofs.Kernels.{at}
use Rattle.passes.specs.Turned.{held, present, turned_all}
use Rattle.passes.proofs.Whole.{picture_room, row_short, picture_small, picture_done}
use Rattle.passes.proofs.run.Goals as goal

pub place-requires : goal.place-requires
place-requires c =
    let room = picture_room _ _ c.requires.accepted c.args.full_width (length c.args.out.now) c.requires.grown_width c.requires.output in
    record { size = c.requires.accepted.size; wide = c.requires.accepted.sides.width.0; row = room.1; room = room.2 }

pub carry-requires : goal.carry-requires
carry-requires c =
    let args = c.args in
    let r = recipe args.filter in
    let p = pictured args.image in
    let W = args.full_width in
    let size = length args.out.now in
    let a = c.requires.accepted in
    let wide = c.requires.grown_width in
    let all = c.requires.output in
    let t = c.place.ensures in
    let b = c.place.new.self in
    record {
      accepted = a.recipe;
      wide = (picture_room r p a W size wide all).0;
      offsets = row_short r p a W size wide all;
      small = λ k h. picture_small r p a W size wide all (held b) t.places largest_gray (omega arith) t.bytes k (omega (arith, t.same.long));
    }

pub returns : goal.returns
returns c =
    let args = c.args in
    let size = length args.out.now in
    let t = c.place.ensures in
    let last = c.carry.ensures in
    let b = c.carry.new.self in
    let ends : held b ≡ b.out.now = ap (λ h. present h b.out.now b.work.now) (last.holder ∙ ap (turned_all (recipe args.filter)) t.holder ∙ c.begins_in.ensures) in
    let done : b.out.now ≡ full (recipe args.filter) (pictured args.image) =
    picture_done _ _ c.requires.accepted args.full_width size c.requires.grown_width c.requires.output (held c.place.new.self) t.places b.out.now
    (λ k h. ap (λ l. at l k) (sym ends) ∙ last.sums k (omega (arith, t.same.long)))
    (last.same.long ∙ t.same.long) in
    search rules
