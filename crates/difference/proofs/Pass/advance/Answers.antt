-- `difference::Pass::advance` meets its contract: the next grown row comes.
-- Assumes nothing.
use Rattle.std.proofs.Common.{ℕ, ◌≤◌, get_or, refl, sym, ap, ◌∙◌, arith}
use Rattle.stream.specs.Calls.{called}
use Rattle.rows.proofs.Advancing.{is_advanced, has_advanced}
use Rattle.difference.proofs.Pass.advance.Goals as goal

pub unwrap-next-requires : goal.unwrap-next-requires
unwrap-next-requires c =
    let bytes : (k : ℕ) → get_or c.args.pixels.now k 0 ≤ 255 = λ k. omega (arith, c.type_inv.pixels k) in
    is_advanced _ _ _ _ c.requires bytes _ _ _ c.advance.ensures

pub returns : goal.returns
returns c =
    let bytes : (k : ℕ) → get_or c.args.pixels.now k 0 ≤ 255 = λ k. omega (arith, c.type_inv.pixels k) in
    let came = ap (λ r. called r c.advance.new.out c.advance.new.cells) (sym c.unwrap-next.ensures) ∙ c.advance.ensures in
    (has_advanced _ _ _ _ c.requires bytes _ _ _ came, refl, refl)
