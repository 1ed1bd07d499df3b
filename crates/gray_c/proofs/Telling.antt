-- What a reading's answer tells: a refusal, which leaves what was lent, or the value of the quantity that was chosen.
-- Assumes nothing.
use mathlib.Core.Path.{◌≡◌, refl, sym, ap, subst, ◌∙◌}
use Prim.Native.Nat.{ℕ}
use lib.IntN.{ℤ}
use lib.Ieee.{Float}
use Rattle.std.specs.Prelude.{Ok, Err}
use Rattle.spec.specs.declared.refusal.Refusal.{Refusal}
use Rattle.spec.specs.Recipe.{Recipe}
use Rattle.spec.specs.Picture.{Picture}
use Rattle.spec.specs.Gray.{Reading, gray_reading, sum_reading, quotient_reading, Choice, as_gray, as_sum, as_quotient, same_sum, same_gray, same_leftover, same_quotient, place_weight, expressed, reading}
use Rattle.spec.specs.Refusals.{first, answer, lent, number, reading_checks}
use Rattle.laws.proofs.Refusals.{lent_refused, lent_accepted}
use Rattle.laws.proofs.Results.{number_not_zero, err_told, ok_told}
use Rattle.sample.specs.declared.Sample.{Sample}
use Rattle.sample.specs.declared.Sample.TheVariants as sample
use Rattle.sample.specs.Sampled.{sample_told, sampled_told}

-- a sample of a reading is of the same case, with the same values
abbrev Tells : Reading → Sample → Type 0
Tells (gray_reading g l) (sample.Gray h m) = (h ≡ g) × (m ≡ l)
Tells (gray_reading g l) (sample.Sum t) = ⊥
Tells (gray_reading g l) (sample.Mean q) = ⊥
Tells (sum_reading s) (sample.Gray h m) = ⊥
Tells (sum_reading s) (sample.Sum t) = t ≡ s
Tells (sum_reading s) (sample.Mean q) = ⊥
Tells (quotient_reading q) (sample.Gray h m) = ⊥
Tells (quotient_reading q) (sample.Sum t) = ⊥
Tells (quotient_reading q) (sample.Mean r) = r ≡ q

own : (x : Sample) → Tells (sample_told x) x
own (sample.Gray g l) = (refl, refl)
own (sample.Sum s) = refl
own (sample.Mean q) = refl

tells : (v : Reading) (x : Sample) → sample_told x ≡ v → Tells v x
tells v x e = subst (λ w. Tells w x) e (own x)

pub sum_case : (x : Sample) (s : ℕ) → sample_told x ≡ sum_reading s → x ≡ sample.Sum s
sum_case (sample.Gray h m) s e = absurd (tells (sum_reading s) (sample.Gray h m) e)
sum_case (sample.Sum t) s e = ap sample.Sum (tells (sum_reading s) (sample.Sum t) e)
sum_case (sample.Mean q) s e = absurd (tells (sum_reading s) (sample.Mean q) e)

pub mean_case : (x : Sample) (q : Float) → sample_told x ≡ quotient_reading q → x ≡ sample.Mean q
mean_case (sample.Gray h m) q e = absurd (tells (quotient_reading q) (sample.Gray h m) e)
mean_case (sample.Sum t) q e = absurd (tells (quotient_reading q) (sample.Sum t) e)
mean_case (sample.Mean r) q e = ap sample.Mean (tells (quotient_reading q) (sample.Mean r) e)

-- and so the values of two samples that are equal
pub same_sum_read : (s t : ℕ) → sample.Sum s ≡ sample.Sum t → s ≡ t
same_sum_read s t e = tells (sum_reading t) (sample.Sum s) (ap sample_told e)

pub same_mean_read : (q r : Float) → sample.Mean q ≡ sample.Mean r → q ≡ r
same_mean_read q r e = tells (quotient_reading r) (sample.Mean q) (ap sample_told e)

module _ (r : Recipe) (p : Picture) (i j : ℕ) where
  -- the number of a refusal, and what was lent before
  module _ (c : Choice) (e : Refusal) (told : sampled_told (Err e) ≡ answer (reading_checks r p i j) (reading c r p i j)) where
    pub refused : first (reading_checks r p i j) ≡ number e
    refused = err_told sample_told (reading_checks r p i j) (reading c r p i j) e told

    pub kept : {A : Type 0} (new old : A) → old ≡ lent (reading_checks r p i j) new old
    kept new old = sym (lent_refused (reading_checks r p i j) new old (number e) refused (number_not_zero e))

  -- the value of the quantity that was chosen
  module _ (c : Choice) (x : Sample) (told : sampled_told (Ok x) ≡ answer (reading_checks r p i j) (reading c r p i j)) where
    pub accepted : first (reading_checks r p i j) ≡ 0
    accepted = (ok_told sample_told (reading_checks r p i j) (reading c r p i j) x told).0

    pub is : sample_told x ≡ reading c r p i j
    is = (ok_told sample_told (reading_checks r p i j) (reading c r p i j) x told).1

    pub put : {A : Type 0} (value new old : A) → value ≡ new → value ≡ lent (reading_checks r p i j) new old
    put value new old e = e ∙ sym (lent_accepted (reading_checks r p i j) new old accepted)

  pub is_gray : (x : Sample) → sampled_told (Ok x) ≡ answer (reading_checks r p i j) (reading as_gray r p i j)
      → sample_told x ≡ gray_reading (same_gray r p i j) (same_leftover r p i j)
  unfolding reading expressed place_weight same_gray same_leftover
  is_gray x told = is as_gray x told

  pub is_shade : (x : Sample) → sampled_told (Ok x) ≡ answer (reading_checks r p i j) (reading as_gray r p i j)
      → (g : ℕ) (l : ℤ) → sample_told x ≡ gray_reading g l → (g ≡ same_gray r p i j) × (l ≡ same_leftover r p i j)
  is_shade x told g l e = tells (gray_reading (same_gray r p i j) (same_leftover r p i j)) (sample.Gray g l) (sym e ∙ is_gray x told)

  pub is_sum : (x : Sample) → sampled_told (Ok x) ≡ answer (reading_checks r p i j) (reading as_sum r p i j) → x ≡ sample.Sum (same_sum r p i j)
  unfolding reading expressed
  is_sum x told = sum_case x (same_sum r p i j) (is as_sum x told)

  pub is_mean : (x : Sample) → sampled_told (Ok x) ≡ answer (reading_checks r p i j) (reading as_quotient r p i j) → x ≡ sample.Mean (same_quotient r p i j)
  unfolding reading expressed place_weight same_quotient
  is_mean x told = mean_case x (same_quotient r p i j) (is as_quotient x told)
