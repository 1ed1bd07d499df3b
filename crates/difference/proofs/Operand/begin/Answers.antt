-- `difference::Operand::begin` meets its contract, by the law about a start and the rows passed over after it.
-- Assumes nothing.
use Rattle.std.proofs.Common.{ℕ, ◌≤◌, get_or, sym, ap, ◌∙◌, arith}
use Rattle.spec.specs.Picture.{picture}
use Rattle.stream.specs.Calls.{began}
use Rattle.rows.proofs.Driving.{has_started}
use Rattle.rows.proofs.Advancing.{has_begun}
use Rattle.difference.proofs.Operand.begin.Goals as goal

pub unwrap-first-requires : goal.unwrap-first-requires
unwrap-first-requires c =
    has_started c.args.self.filter (picture c.args.width c.args.height c.args.pixels.now) _ _ _ c.requires.0 c.start.ensures

pub returns : goal.returns
returns c =
    let a = c.args in
    let bytes : (k : ℕ) → get_or a.pixels.now k 0 ≤ 255 = λ k. omega (arith, c.type_inv.pixels k) in
    let begins = ap (λ r. began r c.start.new.cells) (sym c.unwrap-first.ensures) ∙ c.start.ensures in
    has_begun a.self.filter a.width a.height a.pixels.now c.requires.1 bytes _ c.requires.2 _ c.requires.0 _ _ begins _ c.requires.3 _ _ _ c.skip.ensures
