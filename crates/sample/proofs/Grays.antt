-- A reading where the grey is chosen and no check applies: the answer is the grey case, with the grey and the leftover that are defined for
-- the place.
-- Assumes nothing.
use mathlib.Core.Path.{◌≡◌, refl, sym, ap, ◌∙◌}
use mathlib.Core.Bool.{Bool, true, false, true≢false}
use Prim.Native.Nat.{ℕ, ◌<◌}
use lib.IntN.{ℤ, pos}
use Rattle.std.specs.Prelude.{Result, Ok, Err}
use Rattle.spec.specs.declared.refusal.Refusal.{Refusal}
use Rattle.spec.specs.Recipe.{Recipe}
use Rattle.spec.specs.Picture.{Picture}
use Rattle.spec.specs.Gray.{Reading, gray_reading, sum_reading, quotient_reading, as_gray, same_gray, same_leftover, expressed, reading}
use Rattle.spec.specs.Refusals.{first, picture_checks, reading_checks}
use Rattle.laws.proofs.Results.{number_not_zero, err_told, ok_told}
use Rattle.sample.proofs.Inside.{is_inside}
use Rattle.sample.specs.declared.Sample.{Sample}
use Rattle.sample.specs.declared.Sample.TheVariants as sample
use Rattle.sample.specs.Sampled.{sample_told, GrayRead}

pub record AsDefined (r : Recipe) (p : Picture) (i j : ℕ) (x : Result Sample Refusal) : Type 0 where
  pub picture : first (picture_checks r p) ≡ 0
  pub column : i < p.width
  pub row : j < p.height
  pub gray : ℕ
  pub leftover : ℤ
  pub case : x ≡ Ok (sample.Gray gray leftover)
  pub is_same_gray : gray ≡ same_gray r p i j
  pub is_same_leftover : leftover ≡ same_leftover r p i j

-- whether a reading is a grey, the grey and its leftover
abbrev is_gray : Reading → Bool
is_gray (gray_reading g l) = true
is_gray (sum_reading s) = false
is_gray (quotient_reading q) = false

abbrev gray_in : Reading → ℕ
gray_in (gray_reading g l) = g
gray_in (sum_reading s) = 0
gray_in (quotient_reading q) = 0

abbrev leftover_in : Reading → ℤ
leftover_in (gray_reading g l) = l
leftover_in (sum_reading s) = pos 0
leftover_in (quotient_reading q) = pos 0

-- an accepted reading of the grey
is_read : (r : Recipe) (p : Picture) (i j : ℕ) (s : Sample) → GrayRead r p i j (Ok s) → sample_told s ≡ reading as_gray r p i j
is_read r p i j s (told, none) = (ok_told sample_told (reading_checks r p i j) (reading as_gray r p i j) s told).1

pub as_defined : (r : Recipe) (p : Picture) (i j : ℕ) (x : Result Sample Refusal) → GrayRead r p i j x → AsDefined r p i j x
unfolding reading expressed same_gray same_leftover
as_defined r p i j (Err e) (told, none) =
    absurd (number_not_zero e (sym (err_told sample_told (reading_checks r p i j) (reading as_gray r p i j) e told) ∙ none))
as_defined r p i j (Ok (sample.Sum s)) read = absurd (true≢false (sym (ap is_gray (is_read r p i j (sample.Sum s) read))))
as_defined r p i j (Ok (sample.Mean q)) read = absurd (true≢false (sym (ap is_gray (is_read r p i j (sample.Mean q) read))))
as_defined r p i j (Ok (sample.Gray g l)) read =
    let place = is_inside r p i j read.1 in
    let is = is_read r p i j (sample.Gray g l) read in
    record {
      picture = place.none;
      column = place.column;
      row = place.row;
      gray = g;
      leftover = l;
      case = refl;
      is_same_gray = ap gray_in is;
      is_same_leftover = ap leftover_in is;
    }
