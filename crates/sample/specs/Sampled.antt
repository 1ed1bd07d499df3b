-- What each case of a choice and of a reading stands for, and of the answer: the reading, or the number of a refusal.
use Rattle.std.specs.Prelude.{◌≡◌, ℕ, Result}
use Rattle.spec.specs.declared.refusal.Refusal.{Refusal}
use Rattle.spec.specs.Recipe.{Recipe}
use Rattle.spec.specs.Picture.{Picture}
use Rattle.spec.specs.Gray.{Reading, gray_reading, sum_reading, quotient_reading, Choice, as_gray, as_sum, as_quotient, reading}
use Rattle.spec.specs.Refusals.{Answer, told, first, answer, reading_checks}
use Rattle.sample.specs.declared.Quantity.{Quantity}
use Rattle.sample.specs.declared.Quantity.TheVariants as quantity
use Rattle.sample.specs.declared.Sample.{Sample}
use Rattle.sample.specs.declared.Sample.TheVariants as sample

-- which of the three is chosen
abbrev pub chosen : Quantity → Choice
chosen quantity.Gray = as_gray
chosen quantity.Sum = as_sum
chosen quantity.Mean = as_quotient

-- the grey with its leftover, the exact sum, or the quotient
abbrev pub sample_told : Sample → Reading
sample_told (sample.Gray g l) = gray_reading g l
sample_told (sample.Sum s) = sum_reading s
sample_told (sample.Mean q) = quotient_reading q

abbrev pub sampled_told : Result Sample Refusal → Answer Reading
sampled_told = told sample_told

-- an answer that the contract admits where the grey is chosen and no check applies
abbrev pub GrayRead : Recipe → Picture → ℕ → ℕ → Result Sample Refusal → Type 0
GrayRead r p i j x = (sampled_told x ≡ answer (reading_checks r p i j) (reading as_gray r p i j)) × (first (reading_checks r p i j) ≡ 0)
