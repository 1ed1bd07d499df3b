-- Running totals and boxes along a row may be taken in any order.
-- Assumes nothing.
use Rattle.std.proofs.Common.{◌≡◌, ℕ, zero, suc, ◌<◌, List, [], ◌∷◌, sym, refl, ap, ◌∙◌, le_refl, arith}
use mathlib.Core.Path.{fun_ext}
use Rattle.laws.proofs.Sequences.{running, behind_before, boxed_running}
use Rattle.laws.proofs.Cascades.{spread, cascaded, spread_one, spread_agree, spread_comm}

-- running totals, c times
unfoldable pub totals : ℕ → (ℕ → ℕ) → ℕ → ℕ
totals zero f = f
totals (suc c) f = running (totals c f)

pub totals_last : (c : ℕ) (f : ℕ → ℕ) → totals c (running f) ≡ running (totals c f)
unfolding totals
totals_last zero f = refl
totals_last (suc c) f = ap running (totals_last c f)

-- a box that reaches back past the start is the running total
pub whole : (m : ℕ) (f : ℕ → ℕ) (k : ℕ) → k < m → spread 1 m f k ≡ running f k
whole m f k h = spread_one m f k ∙ omega (arith, boxed_running f m k, behind_before (running f) m k h)

running_box : (n : ℕ) (f : ℕ → ℕ) (k : ℕ) → spread 1 n (running f) k ≡ running (spread 1 n f) k
running_box n f k =
    spread_agree 1 n (running f) (spread 1 (suc k) f) k (λ j h. sym (whole (suc k) f j (omega arith)))
    ∙ spread_comm 1 1 n (suc k) f k
    ∙ whole (suc k) (spread 1 n f) k (le_refl (suc k))

pub totals_box : (c n : ℕ) (f : ℕ → ℕ) → spread 1 n (totals c f) ≡ totals c (spread 1 n f)
unfolding totals
totals_box zero n f = refl
totals_box (suc c) n f = fun_ext (running_box n (totals c f)) ∙ ap running (totals_box c n f)

pub totals_cascaded : (c : ℕ) (ns : List ℕ) (f : ℕ → ℕ) → cascaded 1 ns (totals c f) ≡ totals c (cascaded 1 ns f)
unfolding cascaded
totals_cascaded c [] f = refl
totals_cascaded c (n ∷ ns) f = ap (cascaded 1 ns) (totals_box c n f) ∙ totals_cascaded c ns (spread 1 n f)

pub box_cascaded : (n : ℕ) (ns : List ℕ) (f : ℕ → ℕ) → cascaded 1 ns (spread 1 n f) ≡ spread 1 n (cascaded 1 ns f)
unfolding cascaded
box_cascaded n [] f = refl
box_cascaded n (m ∷ ns) f = ap (cascaded 1 ns) (fun_ext (spread_comm 1 1 m n f)) ∙ box_cascaded n ns (spread 1 m f)
