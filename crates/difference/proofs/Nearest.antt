-- Differences: the nearest whole number of each sign, and a byte and its negation in 16 bits.
-- Assumes nothing.
use mathlib.Core.Path.{◌≡◌, sym, ap, ap₂, ◌∙◌}
use mathlib.Core.Bool.{Bool, cond}
use mathlib.Core.List.{List}
use Prim.Native.Nat.{ℕ, ◌-◌, ◌*◌, ◌≤◌, ◌<◌}
use native.Mathlib.Omega.{arith}
use borrow.Author.Tests.{le-leb, lt-leb}
use lib.ListN.{get_or}
use lib.IntN.{ℤ, pos, neg_ℤ, ◌-ℤ◌}
use mir.Syntax.{w16}
use mir.Val.{to_z}
use mir.Facts.{to_z_pos}
use Rattle.spec.specs.Words.{tab}
use Rattle.spec.specs.Recipe.{Recipe, gain}
use Rattle.spec.specs.Picture.{Picture}
use Rattle.spec.specs.Gray.{gray, nearest, nearest_difference, same_sum, difference}
use Rattle.laws.proofs.Lists.{tab_agree}
use Rattle.laws.proofs.Signed.{negated_is}
use Rattle.gray.proofs.Dividing.{nearest_gray}

-- the nearest whole number of (x - y) over the weight, where that is not negative and where it is
module _ (x y weight : ℕ) where
  abbrev either : Bool → ℤ
  either b = cond b (pos (nearest (x - y) weight)) (neg_ℤ (pos (nearest (y - x) weight)))

  pub not_negative : y ≤ x → pos (gray weight (x - y)) ≡ nearest_difference x y weight
  unfolding nearest_difference
  not_negative h = sym (ap either (le-leb y x h) ∙ ap pos (nearest_gray (x - y) weight))

  pub negative : x < y → neg_ℤ (pos (gray weight (y - x))) ≡ nearest_difference x y weight
  unfolding nearest_difference
  negative h = sym (ap either (lt-leb y x h) ∙ ap (λ n. neg_ℤ (pos n)) (nearest_gray (y - x) weight))

-- a byte in 16 bits, and its negation
pub byte_is : (n : ℕ) → n ≤ 255 → to_z w16 n ≡ pos n
byte_is n h = to_z_pos w16 (omega arith)

pub byte_negated : (n : ℕ) → n ≤ 255 → pos 0 -ℤ to_z w16 n ≡ neg_ℤ (pos n)
byte_negated n h = ap (λ z. pos 0 -ℤ z) (byte_is n h) ∙ negated_is n

-- two rows of the sums that are taken, as a row of differences
pub row_of_differences : (a b : Recipe) (p : Picture) (j : ℕ) (xs ys : List ℕ) (u v m : ℕ) → u ≡ gain a → v ≡ gain b → m ≡ p.width
    → ((i : ℕ) → i < p.width → get_or xs i 0 ≡ same_sum a p i j) → ((i : ℕ) → i < p.width → get_or ys i 0 ≡ same_sum b p i j)
    → tab m (λ k. nearest_difference (get_or xs k 0 * v) (get_or ys k 0 * u) (u * v)) ≡ tab p.width (λ i. difference a b p i j)
unfolding difference
row_of_differences a b p j xs ys u v m e f many first second =
    ap (λ n. tab n (λ k. nearest_difference (get_or xs k 0 * v) (get_or ys k 0 * u) (u * v))) many
    ∙ tab_agree p.width (λ k. nearest_difference (get_or xs k 0 * v) (get_or ys k 0 * u) (u * v)) (λ i. difference a b p i j)
    (λ i h.
    ap₂ (λ x y. nearest_difference (x * v) (y * u) (u * v)) (first i h) (second i h)
    ∙ ap₂ (λ x y. nearest_difference (same_sum a p i j * y) (same_sum b p i j * x) (x * y)) e f)
