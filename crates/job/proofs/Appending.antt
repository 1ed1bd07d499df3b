-- A slice that is written from its front on, part after part, and the parts of a job.
-- Assumes nothing.
use mathlib.Core.Path.{◌≡◌, refl, sym, ap, ap₂, subst, ◌∙◌}
use mathlib.Core.List.{List, [], ◌∷◌, ◌++◌, append-nil, append_assoc}
use Prim.Native.Nat.{ℕ, ◌+◌, ◌≤◌}
use native.Mathlib.Omega.{arith}
use lib.ListN.{length, take, drop, length-append, length-drop, drop_of_length-le}
use lib.Seq.{length-take-le, take_at, drop-drop, drop-append-add}
use Rattle.spec.specs.declared.Filter.{Filter}
use Rattle.spec.specs.Recipe.{recipe, widths}
use Rattle.spec.specs.Picture.{picture}
use Rattle.spec.specs.Job.{mark, version, low16, job_bytes, job_length}
use Rattle.spec.specs.Refusals.{first, picture_checks}
use Rattle.laws.proofs.Boxes.{length_widths, boxes_all}
use Rattle.laws.proofs.Refusals.{is_accepted_picture}
use Rattle.filter.proofs.Measuring.{accepted_counts}
use Rattle.job.specs.Private.{Appended}
use Rattle.job.proofs.Answering.{length_by_counts}

-- the front of a slice is written, and it goes on at this place: the entries of done, then what it held
pub record Begins (done old : List ℕ) (at : ℕ) (l : List ℕ) : Type 0 where
  pub place : at ≡ length done
  pub size : length l ≡ length old
  pub is : l ≡ done ++ drop (length done) old

appended_length : (xs : List ℕ) (at : ℕ) (old : List ℕ) → at + length xs ≤ length old
    → length (take at old ++ (xs ++ drop (at + length xs) old)) ≡ length old
appended_length xs at old h =
    omega (
      arith,
      length-append (take at old) (xs ++ drop (at + length xs) old),
      length-append xs (drop (at + length xs) old),
      length-take-le at old (omega arith),
      length-drop (at + length xs) old,
    )

-- the first part, and one part more
pub begins_first : {xs old new : List ℕ} {next : ℕ} → Appended xs 0 old next new → length xs ≤ length old → Begins xs old next new
begins_first {xs} {old} a h =
    let zero : 0 + length xs ≡ length xs = omega arith in
    record {
      place = a.place ∙ zero;
      size = ap length a.is ∙ appended_length xs 0 old (omega arith);
      is = a.is ∙ ap (λ n. xs ++ drop n old) zero;
    }

-- where there is room for one part more, it fits, and it begins so with that part too
pub record Next (xs more old : List ℕ) (at : ℕ) (l : List ℕ) : Type 0 where
  pub fits : at + length xs ≤ length l
  pub then : {new : List ℕ} {next : ℕ} → Appended xs at l next new → Begins more old next new

pub begins_more : {done old l xs ys : List ℕ} {at : ℕ} → Begins done old at l → xs ≡ ys → length done + length ys ≤ length old
    → Next xs (done ++ ys) old at l
begins_more {done} {old} {l} {xs} {ys} {at} b e h =
    let both = length-append done xs in
    let inside : at + length xs ≤ length l = omega (arith, b.place, b.size, ap length e) in
    let front : take at l ≡ done = ap (take at) b.is ∙ take_at done (drop (length done) old) at (sym b.place) in
    let back : drop (at + length xs) l ≡ drop (length (done ++ xs)) old =
    ap₂ (λ n m. drop (n + length xs) m) b.place b.is
    ∙ drop-append-add done (drop (length done) old) (length xs)
    ∙ drop-drop (length xs) (length done) old
    ∙ ap (λ n. drop n old) (sym both) in
    record {
      fits = inside;
      then =
          λ {new} {next} (a : Appended xs at l next new).
          subst (λ zs. Begins (done ++ zs) old next new) e
          (record {
            place = a.place ∙ ap (λ n. n + length xs) b.place ∙ sym both;
            size = ap length a.is ∙ appended_length xs at l inside ∙ b.size;
            is = a.is ∙ ap₂ (λ u v. u ++ (xs ++ v)) front back ∙ sym (append_assoc done xs (drop (length (done ++ xs)) old));
          });
    }

-- all of it
pub begins_all : {done old l : List ℕ} {at : ℕ} → Begins done old at l → length old ≤ at → l ≡ done
begins_all {done} {old} b h = b.is ∙ ap (λ r. done ++ r) (drop_of_length-le old {i = length done} (omega (arith, b.place))) ∙ append-nil done

version_bytes : low16 1 ≡ 1 ∷ 0 ∷ []
unfolding low16
version_bytes = refl

-- the parts of a job: mark, version and counts; the lists; the sides; the pixels
module _ (f : Filter) (w h : ℕ) (pixels old : List ℕ) where
  abbrev pub head : List ℕ
  head = 0x42 ∷ 0x4F ∷ 0x52 ∷ 1 ∷ 0 ∷ f.rows.count ∷ f.columns.count ∷ []

  abbrev pub with_rows : List ℕ
  with_rows = head ++ widths f.rows

  abbrev pub with_columns : List ℕ
  with_columns = with_rows ++ widths f.columns

  abbrev pub with_width : List ℕ
  with_width = with_columns ++ low16 w

  abbrev pub with_height : List ℕ
  with_height = with_width ++ low16 h

  -- an output in which all of them have room
  pub record Room : Type 0 where
    pub rows : f.rows.count ≤ 48
    pub columns : f.columns.count ≤ 48
    pub width : w ≤ 1024
    pub height : h ≤ 1024
    pub all : 11 + f.rows.count + f.columns.count + length pixels ≡ length old

  pub room : first (picture_checks (recipe f) (picture w h pixels)) ≡ 0 → length old ≡ job_length (recipe f) w h → Room
  room e l =
      let p = is_accepted_picture (recipe f) (picture w h pixels) e in
      let counts = accepted_counts f p.recipe in
      record {
        rows = counts.0;
        columns = counts.1;
        width = p.sides.width.1;
        height = p.sides.height.1;
        all = ap (λ n. 11 + f.rows.count + f.columns.count + n) p.size ∙ length_by_counts f w h ∙ sym l;
      }

  module _ (k : Room) where
    long_rows : length with_rows ≡ 7 + f.rows.count
    long_rows = length-append head (widths f.rows) ∙ ap (λ n. 7 + n) (length_widths f.rows)

    long_columns : length with_columns ≡ 7 + f.rows.count + f.columns.count
    long_columns = length-append with_rows (widths f.columns) ∙ ap₂ ◌+◌ long_rows (length_widths f.columns)

    long_width : length with_width ≡ 9 + f.rows.count + f.columns.count
    unfolding low16
    long_width = omega (arith, length-append with_columns (low16 w), long_columns)

    long_height : length with_height ≡ 11 + f.rows.count + f.columns.count
    unfolding low16
    long_height = omega (arith, length-append with_width (low16 h), long_width)

    -- one part after the other, from the front of the output on
    pub at_rows : {l : List ℕ} {at : ℕ} → Appended head 0 old at l → Begins head old at l
    at_rows a = begins_first a (omega (arith, k.all))

    pub at_columns : {l xs : List ℕ} {at : ℕ} → Begins head old at l → xs ≡ take 48 (widths f.rows) → Next xs with_rows old at l
    at_columns {l} {xs} b e = begins_more b (boxes_all f.rows xs e k.rows) (omega (arith, k.all, length_widths f.rows))

    pub at_width : {l xs : List ℕ} {at : ℕ} → Begins with_rows old at l → xs ≡ take 48 (widths f.columns) → Next xs with_columns old at l
    at_width {l} {xs} b e =
        begins_more b (boxes_all f.columns xs e k.columns) (omega (arith, k.all, long_rows, length_widths f.columns))

    pub at_height : {l xs : List ℕ} {at : ℕ} → Begins with_columns old at l → xs ≡ low16 w → Next xs with_width old at l
    unfolding low16
    at_height b e = begins_more b e (omega (arith, k.all, long_columns))

    pub at_pixels : {l xs : List ℕ} {at : ℕ} → Begins with_width old at l → xs ≡ low16 h → Next xs with_height old at l
    unfolding low16
    at_pixels b e = begins_more b e (omega (arith, k.all, long_width))

    pub at_end : {l : List ℕ} {at : ℕ} → Begins with_height old at l → Next pixels (with_height ++ pixels) old at l
    at_end b = begins_more b refl (omega (arith, k.all, long_height))

    pub whole : {l : List ℕ} {at : ℕ} → Begins (with_height ++ pixels) old at l → l ≡ job_bytes (recipe f) (picture w h pixels)
    unfolding job_bytes mark version recipe
    whole b =
        begins_all b (omega (arith, b.place, k.all, long_height, length-append with_height pixels))
        ∙ simp append_assoc
        (let rest : List ℕ = widths f.rows ++ (widths f.columns ++ (low16 w ++ (low16 h ++ pixels))) in
        ap₂ (λ m n. 0x42 ∷ 0x4F ∷ 0x52 ∷ 1 ∷ 0 ∷ m ∷ n ∷ rest) (sym (length_widths f.rows)) (sym (length_widths f.columns))
        ∙ ap (λ v. 0x42 ∷ 0x4F ∷ 0x52 ∷ v ++ (length (widths f.rows) ∷ length (widths f.columns) ∷ rest)) (sym version_bytes))
