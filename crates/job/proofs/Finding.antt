-- What stands in a file whose lists and sides are all there, and what the call that sizes its picture says of it.
-- Assumes nothing.
use mathlib.Core.Path.{◌≡◌, sym, ap, ap₂, ◌∙◌}
use mathlib.Core.List.{List}
use Prim.Native.Nat.{ℕ, ◌+◌, ◌*◌, ◌≤◌}
use native.Mathlib.Nat.{le_trans, le_of_eq}
use native.Mathlib.Omega.{arith}
use lib.ListN.{get_or}
use Rattle.std.specs.Prelude.{Ok, Err}
use Rattle.spec.specs.declared.Cascade.{Cascade}
use Rattle.spec.specs.declared.Filter.{Filter}
use Rattle.spec.specs.declared.refusal.Refusal.{Refusal}
use Rattle.spec.specs.Words.{part}
use Rattle.spec.specs.Recipe.{recipe, held, held_filter}
use Rattle.spec.specs.Picture.{full_sides}
use Rattle.spec.specs.Job.{read16, job_recipe, job_width, job_height, job_offset, job_length}
use Rattle.spec.specs.Refusals.{Check, first, answer, number, size_checks}
use Rattle.laws.proofs.Lists.{length_part}
use Rattle.laws.proofs.Refusals.{is_sized}
use Rattle.laws.proofs.Results.{err_told, ok_told}
use Rattle.filter.specs.declared.sizes.Sides.{Sides}
use Rattle.filter.specs.Answers.{sides, size_told}
use Rattle.job.specs.Private.{Whole}
use Rattle.job.proofs.Holding.{held_recipe}
use Rattle.job.proofs.Answering.{area, job_length_lem}

-- the lists, the sides and the offset that the file has
pub record Found (bytes : List ℕ) (f : Filter) (w h offset : ℕ) : Type 0 where
  pub filter : f ≡ held_filter (job_recipe bytes)
  pub width : w ≡ job_width bytes
  pub height : h ≡ job_height bytes
  pub place : offset ≡ job_offset bytes
  pub lists : recipe (held_filter (job_recipe bytes)) ≡ job_recipe bytes

-- two lists that were read by their counts m and n, as a and b tell them, and two sides after these
pub found : {bytes : List ℕ} {m n a b w h : ℕ} {rows columns : Cascade} → Whole bytes m n → a ≡ m → b ≡ n
    → rows ≡ held (part 7 m bytes) → columns ≡ held (part (7 + a) n bytes)
    → w ≡ read16 bytes (7 + a + b) → h ≡ read16 bytes (7 + a + b + 2)
    → Found bytes (record { rows = rows; columns = columns }) w h (7 + a + b + 4)
unfolding held_filter job_recipe job_width job_height job_offset
found {bytes} {m} {n} {a} {b} is p q one two width height =
    let columnsAt : 7 + a ≡ 7 + get_or bytes 5 0 = omega (arith, is.row_count) in
    let sidesAt : 7 + a + b ≡ 7 + get_or bytes 5 0 + get_or bytes 6 0 = omega (arith, is.row_count, is.column_count) in
    let heightAt : 7 + a + b + 2 ≡ 9 + get_or bytes 5 0 + get_or bytes 6 0 = omega arith in
    let left = one ∙ ap (λ k. held (part 7 k bytes)) is.row_count in
    let right = two ∙ ap₂ (λ i k. held (part i k bytes)) columnsAt is.column_count in
    record {
      filter = λ i. record { rows = left i; columns = right i };
      width = width ∙ ap (read16 bytes) sidesAt;
      height = height ∙ ap (read16 bytes) heightAt;
      place = omega arith;
      lists =
          held_recipe (job_recipe bytes)
          (omega (arith, length_part 7 (get_or bytes 5 0) bytes, is.row_count, is.rows_short))
          (omega (arith, length_part (7 + get_or bytes 5 0) (get_or bytes 6 0) bytes, is.column_count, is.columns_short));
    }

module _ {bytes : List ℕ} {f : Filter} {w h offset : ℕ} (k : Found bytes f w h offset) where
  abbrev checks : List Check
  checks = size_checks (job_recipe bytes) (job_width bytes) (job_height bytes)

  -- the checks of the recipe and the sides that were found are those of the file
  checked : size_checks (recipe f) w h ≡ checks
  checked = λ i. size_checks ((ap recipe k.filter ∙ k.lists) i) (k.width i) (k.height i)

  pub sides_refused : (e : Refusal) → size_told (Err e) ≡ answer (size_checks (recipe f) w h) (full_sides (recipe f) w h) → first checks ≡ number e
  sides_refused e t = sym (ap first checked) ∙ err_told sides (size_checks (recipe f) w h) (full_sides (recipe f) w h) e t

  module _ (s : Sides) (t : size_told (Ok s) ≡ answer (size_checks (recipe f) w h) (full_sides (recipe f) w h)) where
    pub sides_accepted : first checks ≡ 0
    sides_accepted = sym (ap first checked) ∙ (ok_told sides (size_checks (recipe f) w h) (full_sides (recipe f) w h) s t).0

    pub small : w * h ≤ 1024 * 1024
    small = le_trans (le_of_eq (ap₂ ◌*◌ k.width k.height)) (area _ _ (is_sized _ _ _ sides_accepted).1)

  -- the length that the file should have
  pub stated : offset + w * h ≡ job_length (job_recipe bytes) (job_width bytes) (job_height bytes)
  unfolding job_offset
  stated = omega (arith, k.place, ap₂ ◌*◌ k.width k.height, job_length_lem bytes (job_width bytes) (job_height bytes))
