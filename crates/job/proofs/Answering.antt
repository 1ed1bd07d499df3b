-- The order of the checks of a job that is read or written, and what is answered.
-- Assumes nothing.
use mathlib.Core.Path.{◌≡◌, refl, sym, ap, ap₂, ◌∙◌}
use mathlib.Core.Bool.{true, false, not, cond, ◌||◌}
use mathlib.Core.List.{List, [], ◌∷◌}
use Prim.Native.Nat.{ℕ, ◌+◌, ◌*◌, ◌≤◌, ◌<◌}
use native.Mathlib.Nat.{mul-le-mul}
use native.Mathlib.Omega.{arith}
use lib.Dec.{ltb, eqb}
use lib.ListN.{length, get_or}
use borrow.Author.Tests.{lt-ltb, le-ltb, ltb-false}
use Rattle.spec.specs.declared.Filter.{Filter}
use Rattle.spec.specs.declared.refusal.Refusal.{Refusal}
use Rattle.spec.specs.declared.refusal.Refusal.TheVariants.{TooLong, OtherPixels, OtherOutput, BadFile}
use Rattle.spec.specs.Recipe.{Recipe, recipe}
use Rattle.spec.specs.Picture.{Picture}
use Rattle.spec.specs.Job.{version, read16, job_recipe, job_width, job_height, job_bytes, job_length}
use Rattle.spec.specs.Refusals.{check, first, either, Answer, accepted, refused, answer, number, too_long, bad_head, cut_short, other_total, other_output, other_pixels, size_checks, job_checks, write_checks}
use Rattle.laws.proofs.Lists.{length_part}
use Rattle.laws.proofs.Refusals.{Sized, lent_refused, lent_accepted, first_front, first_then, size_numbered, picture_sides, picture_pixels, picture_rest, by_output, after_output, as_stated, not_stated}
use Rattle.laws.proofs.Numbers.{neither}
use Rattle.laws.proofs.Boxes.{length_widths}
use Rattle.laws.proofs.Results.{number_not_zero, told_err, told_ok}
use Rattle.job.specs.declared.reading.Job.{Job}
use Rattle.job.specs.Answers.{job_told, job_read}
use Rattle.job.specs.Writing.{JobWritten}
use Rattle.job.specs.Private.{rest_checks, rest_read}

-- how many pixels there can be
pub area : (w h : ℕ) → Sized w h → w * h ≤ 1024 * 1024
area w h s = mul-le-mul s.width.1 s.height.1

-- ---- writing

-- the length goes by the counts
pub length_by_counts : (f : Filter) (w h : ℕ) → 11 + f.rows.count + f.columns.count + w * h ≡ job_length (recipe f) w h
unfolding job_length recipe
length_by_counts f w h = sym (ap₂ (λ a b. 11 + a + b + w * h) (length_widths f.rows) (length_widths f.columns))

-- by the recipe and the sides, by the pixels, by the output, or all is written
module _ (r : Recipe) (p : Picture) (out : List ℕ) where
  not_written : (e : Refusal) → first (write_checks r p (length out)) ≡ number e → JobWritten r p out (number e) out
  not_written e q = record { answer = sym q; bytes = sym (lent_refused _ _ out (number e) q (number_not_zero e)) }

  pub by_sides : (e : Refusal) → first (size_checks r p.width p.height) ≡ number e → JobWritten r p out (number e) out
  unfolding write_checks
  by_sides e q = not_written e (picture_sides r p _ (number e) q (number_not_zero e))

  module _ (z : first (size_checks r p.width p.height) ≡ 0) where
    pub by_pixels : (length p.pixels ≡ p.width * p.height → ⊥) → JobWritten r p out (number OtherPixels) out
    unfolding write_checks number
    by_pixels h = not_written OtherPixels (picture_pixels r p _ z h)

    module _ (e : length p.pixels ≡ p.width * p.height) where
      last : first (write_checks r p (length out)) ≡ first (check (other_output (length out) (job_length r p.width p.height)) 7 ∷ [])
      unfolding write_checks
      last = picture_rest r p _ z e

      pub by_length : (length out ≡ job_length r p.width p.height → ⊥) → JobWritten r p out (number OtherOutput) out
      unfolding number
      by_length h = not_written OtherOutput (last ∙ by_output [] (length out) _ h)

      pub all_written : length out ≡ job_length r p.width p.height → (new : List ℕ) → new ≡ job_bytes r p → JobWritten r p out 0 new
      unfolding first
      all_written l new m =
          let none = last ∙ after_output [] (length out) _ l in
          record { answer = sym none; bytes = m ∙ sym (lent_accepted _ _ out none) }

-- ---- reading

-- 1 and the length go by the two counts
by_counts : (bytes : List ℕ) → too_long (job_recipe bytes) ≡ (ltb 48 (get_or bytes 5 0) || ltb 48 (get_or bytes 6 0))
unfolding too_long job_recipe
by_counts bytes =
    ap₂ (λ a b. ltb 48 a || ltb 48 b) (length_part 7 (get_or bytes 5 0) bytes) (length_part (7 + get_or bytes 5 0) (get_or bytes 6 0) bytes)

pub job_length_lem : (bytes : List ℕ) (w h : ℕ) → job_length (job_recipe bytes) w h ≡ 11 + get_or bytes 5 0 + get_or bytes 6 0 + w * h
unfolding job_length job_recipe
job_length_lem bytes w h =
    ap₂ (λ a b. 11 + a + b + w * h) (length_part 7 (get_or bytes 5 0) bytes) (length_part (7 + get_or bytes 5 0) (get_or bytes 6 0) bytes)

-- a job that is refused
abbrev pub no_job : Refusal → Answer Job
no_job e = refused (number e)

module _ (bytes : List ℕ) where
  not_read : (e : Refusal) → first (job_checks bytes) ≡ number e → no_job e ≡ job_read bytes
  unfolding job_read
  not_read e q = told_err (λ (j : Job). j) (job_checks bytes) (job_told bytes) e q

  pub by_head : bad_head bytes ≡ true → no_job BadFile ≡ job_read bytes
  unfolding first check job_checks number
  by_head h = not_read BadFile (rw h refl)

  -- seven bytes, the mark and the version are there
  pub seven : bad_head bytes ≡ false → 7 ≤ length bytes
  unfolding bad_head
  seven e = ltb-false (length bytes) 7 (neither (ltb (length bytes) 7) _ (neither _ (not (eqb (read16 bytes 3) version)) e).0).0

  module _ (head : bad_head bytes ≡ false) where
    pub by_long : (ltb 48 (get_or bytes 5 0) || ltb 48 (get_or bytes 6 0)) ≡ true → no_job TooLong ≡ job_read bytes
    unfolding first check job_checks number
    by_long h = let long : too_long (job_recipe bytes) ≡ true = by_counts bytes ∙ h in not_read TooLong (rw (head, long) refl)

    module _ (few : (ltb 48 (get_or bytes 5 0) || ltb 48 (get_or bytes 6 0)) ≡ false) where
      short : too_long (job_recipe bytes) ≡ false
      short = by_counts bytes ∙ few

      pub by_cut : length bytes < 11 + get_or bytes 5 0 + get_or bytes 6 0 → no_job BadFile ≡ job_read bytes
      unfolding first check job_checks cut_short number
      by_cut h =
          let cut : cut_short bytes ≡ true = lt-ltb (length bytes) _ (omega (arith, job_length_lem bytes 0 0)) in
          not_read BadFile (rw (head, short, cut) refl)

      rest-number : cut_short bytes ≡ false → first (job_checks bytes) ≡ first (rest_checks bytes)
      unfolding first check job_checks rest_checks
      rest-number e = rw (head, short, e) refl

      -- lists and sides are all there: the checks that are left decide
      pub by_rest : 11 + get_or bytes 5 0 + get_or bytes 6 0 ≤ length bytes → rest_read bytes ≡ job_read bytes
      unfolding cut_short rest_read job_read answer
      by_rest h =
          let whole : cut_short bytes ≡ false = le-ltb (length bytes) _ (omega (arith, job_length_lem bytes 0 0)) in
          ap (λ n. either n (accepted (job_told bytes)) (refused n)) (sym (rest-number whole))

  -- the checks that are left: by the recipe and the sides, by the total length, or what the file says
  not_rest : (e : Refusal) → first (rest_checks bytes) ≡ number e → no_job e ≡ rest_read bytes
  unfolding rest_read
  not_rest e q = told_err (λ (j : Job). j) (rest_checks bytes) (job_told bytes) e q

  pub rest_sides : (e : Refusal) → first (size_checks (job_recipe bytes) (job_width bytes) (job_height bytes)) ≡ number e → no_job e ≡ rest_read bytes
  unfolding rest_checks
  rest_sides e q =
      not_rest e (first_front (size_checks (job_recipe bytes) (job_width bytes) (job_height bytes)) _ (number e) q (number_not_zero e))

  module _ (z : first (size_checks (job_recipe bytes) (job_width bytes) (job_height bytes)) ≡ 0) where
    total : first (rest_checks bytes) ≡ cond (other_total bytes) 14 0
    unfolding rest_checks
    total = first_then (size_checks (job_recipe bytes) (job_width bytes) (job_height bytes)) (other_total bytes) 14 (size_numbered _ _ _) z

    pub rest_total : (length bytes ≡ job_length (job_recipe bytes) (job_width bytes) (job_height bytes) → ⊥) → no_job BadFile ≡ rest_read bytes
    unfolding other_total other_pixels number
    rest_total h = not_rest BadFile (total ∙ ap (λ b. cond b 14 0) (not_stated (length bytes) _ h))

    pub rest_all : length bytes ≡ job_length (job_recipe bytes) (job_width bytes) (job_height bytes) → accepted (job_told bytes) ≡ rest_read bytes
    unfolding other_total other_pixels rest_read
    rest_all e =
        told_ok (λ (j : Job). j) (rest_checks bytes) (job_told bytes) (job_told bytes)
        (total ∙ ap (λ b. cond b 14 0) (as_stated (length bytes) _ e)) refl
