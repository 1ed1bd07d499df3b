-- The signed difference of two numbers: where it is negative and where it is not, that it grows with the first, and that a signed width
-- holds it where it holds both.
-- Assumes nothing.
use mathlib.Core.Path.{◌≡◌, refl, sym, ap, ap₂, subst, ◌∙◌}
use Prim.Native.Nat.{ℕ, zero, suc, ◌+◌, ◌-◌, ◌^◌, ◌≤◌, ◌<◌}
use native.Mathlib.Decide.{dec_lt}
use native.Mathlib.Omega.{arith}
use borrow.Author.Tests.{lt-ltb, le-ltb}
use lib.Dec.{le→leb}
use lib.IntN.{pos, negsuc, neg_ℤ, ◌-ℤ◌, +ℤ_idl}
use lib.Signed.{mag, ◌≤ℤ◌}
use mir.Syntax.{Width}
use mir.Val.{SFits, hbits, to_z}
use mir.Facts.{to_z_pos}

below_is : (a b : ℕ) → a < b → pos a -ℤ pos b ≡ negsuc (b - suc a)
below_is a zero h = absurd (omega arith)
below_is a (suc b) h = rw (lt-ltb a (suc b) h) refl

pub not_below_is : (a b : ℕ) → b ≤ a → pos a -ℤ pos b ≡ pos (a - b)
not_below_is a zero h = ap pos e
  where
    e : a + zero ≡ a - zero
    e = omega arith
not_below_is a (suc b) h = rw (le-ltb a (suc b) h) refl

-- equal where a is as far above b as c is above d
pub same_apart : (a b c d : ℕ) → a + d ≡ c + b → pos a -ℤ pos b ≡ pos c -ℤ pos d
same_apart a b c d e =
    elim (dec_lt a b) [
      | yes h ↦
          let g : b - suc a ≡ d - suc c = omega arith in
          below_is a b h ∙ ap negsuc g ∙ sym (below_is c d (omega arith))
      | no h ↦
          let g : a - b ≡ c - d = omega arith in
          not_below_is a b (omega arith) ∙ ap pos g ∙ sym (not_below_is c d (omega arith))
    ]

pub apart_grows : (a c b : ℕ) → a ≤ c → (pos a -ℤ pos b) ≤ℤ (pos c -ℤ pos b)
apart_grows a c b l =
    elim (dec_lt c b) [
      | yes h ↦ rw (below_is a b (omega arith), below_is c b h) (record { le = le→leb (b - suc c) (b - suc a) (omega arith) })
      | no h ↦
          elim (dec_lt a b) [
            | yes g ↦ rw (below_is a b g, not_below_is c b (omega arith)) (record { le = tt })
            | no g ↦ rw (not_below_is a b (omega arith), not_below_is c b (omega arith)) (record { le = le→leb (a - b) (c - b) (omega arith) })
          ]
    ]

-- 0 less b
pub negated_is : (b : ℕ) → pos 0 -ℤ pos b ≡ neg_ℤ (pos b)
negated_is b = +ℤ_idl (neg_ℤ (pos b))

-- two numbers that a signed width holds
module _ (w : Width) (a b : ℕ) (g : a < 2 ^ hbits w) (h : b < 2 ^ hbits w) where
  pub read_apart : to_z w a -ℤ to_z w b ≡ pos a -ℤ pos b
  read_apart = ap₂ ◌-ℤ◌ (to_z_pos w g) (to_z_pos w h)

  pub apart_fits : SFits w (to_z w a -ℤ to_z w b)
  apart_fits = subst (SFits w) (sym read_apart) (record { sfits = small })
    where
      small : mag (pos a -ℤ pos b) < 2 ^ hbits w
      small =
          elim (dec_lt a b) [
            | yes l ↦ subst (λ z. mag z < 2 ^ hbits w) (sym (below_is a b l)) (omega arith)
            | no l ↦ subst (λ z. mag z < 2 ^ hbits w) (sym (not_below_is a b (omega arith))) (omega arith)
          ]
