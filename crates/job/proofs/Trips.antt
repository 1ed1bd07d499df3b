-- Demand 2 on job files: a job read back after writing is the same job, and an accepted file written again has the same bytes.
-- Assumes nothing.
use mathlib.Core.Path.{◌≡◌, refl, sym, ap, ap₂, subst, ◌∙◌}
use mathlib.Core.Bool.{false, not, ◌||◌}
use mathlib.Core.List.{List, [], ◌∷◌, ◌++◌}
use Prim.Native.Nat.{ℕ, ◌+◌, ◌*◌, ◌/◌, ◌%◌, ◌≤◌}
use native.Mathlib.Nat.{mod-eq_of_lt, add-mul-mod_self_left, add-mul-div_left}
use native.Mathlib.Omega.{arith}
use lib.Dec.{ltb, eqb}
use lib.ListN.{length, get_or, take, drop, length-append, length-drop, take-append-drop}
use lib.Seq.{take_at, drop_at, drop-drop, drop-append-add, get_or-drop}
use borrow.Author.Tests.{le-ltb, eqb-true, not-false}
use Rattle.spec.specs.Words.{tab, part}
use Rattle.spec.specs.Recipe.{Recipe, recipe}
use Rattle.spec.specs.Picture.{Picture}
use Rattle.spec.specs.Job.{mark, version, low16, read16, job_bytes, job_length, job_recipe, job_width, job_height, job_offset, job_picture}
use Rattle.spec.specs.Refusals.{first, accepted, bad_head, cut_short, other_total, other_pixels, too_long, size_checks, picture_checks, job_checks, write_checks}
use Rattle.laws.proofs.Lists.{length_part, part_within}
use Rattle.laws.proofs.Numbers.{neither, both}
use Rattle.laws.proofs.Refusals.{Sized, lent_accepted, read_accepted, none_both, first_none, size_numbered, picture_numbered, is_sized, is_accepted_picture, first_rest, after_output, picture_passed, same_length_so}
use Rattle.job.specs.declared.reading.Job.{Job}
use Rattle.job.specs.Answers.{job_told, job_read}
use Rattle.job.specs.Writing.{JobWritten}
use Rattle.job.specs.RoundTrip.{Same, read_picture, FileBytes, ReadBack, WrittenAgain}
use Rattle.job.proofs.Holding.{held_recipe}
use Rattle.job.proofs.Answering.{job_length_lem, by_rest, rest_all}

-- ---- what is accepted is written

writes : (r : Recipe) (p : Picture) (out new : List ℕ) (number : ℕ) → first (picture_checks r p) ≡ 0 → length out ≡ job_length r p.width p.height
    → JobWritten r p out number new → (number ≡ 0) × (new ≡ job_bytes r p)
unfolding write_checks first
writes r p out new number z e w =
    let none : first (write_checks r p (length out)) ≡ 0 =
    first_rest (picture_checks r p) _ (picture_numbered r p) z ∙ after_output [] (length out) (job_length r p.width p.height) e in
    (w.answer ∙ none, w.bytes ∙ lent_accepted (write_checks r p (length out)) (job_bytes r p) out none)

-- ---- numbers of 16 bits

-- what is read at a place stands at the front of the rest
read16_front : (bytes : List ℕ) (n : ℕ) → read16 bytes n ≡ get_or (drop n bytes) 0 0 + 256 * get_or (drop n bytes) 1 0
unfolding read16
read16_front bytes n =
    let here : n + 0 ≡ n = omega arith in
    ap₂ (λ a b. a + 256 * b) (sym (get_or-drop n bytes 0 0 ∙ ap (λ k. get_or bytes k 0) here)) (sym (get_or-drop n bytes 1 0))

low16_read : (n : ℕ) → n ≤ 1024 → n % 256 + 256 * (n / 256 % 256) ≡ n
low16_read n h = omega arith

read_low16 : (a b : ℕ) → a ≤ 255 → b ≤ 255 → low16 (a + 256 * b) ≡ a ∷ b ∷ []
unfolding low16
read_low16 a b h g =
    let low : (a + 256 * b) % 256 ≡ a = add-mul-mod_self_left a 256 b ∙ mod-eq_of_lt (omega arith) in
    let zero : a / 256 + b ≡ b = omega arith in
    let high : (a + 256 * b) / 256 % 256 ≡ b = ap (λ n. n % 256) (add-mul-div_left a b (omega arith) ∙ zero) ∙ mod-eq_of_lt (omega arith) in
    ap₂ (λ x y. x ∷ y ∷ []) low high

-- ---- the bytes of a job, read

module _ (r : Recipe) (p : Picture) where
  -- the sides and the pixels; the lists and these; all bytes
  abbrev sides : List ℕ
  sides = p.width % 256 ∷ p.width / 256 % 256 ∷ p.height % 256 ∷ p.height / 256 % 256 ∷ p.pixels

  abbrev body : List ℕ
  body = r.rows ++ (r.columns ++ sides)

  abbrev head : List ℕ
  head = 0x42 ∷ 0x4F ∷ 0x52 ∷ 1 ∷ 0 ∷ length r.rows ∷ length r.columns ∷ []

  abbrev file : List ℕ
  file = head ++ body

  is_file : job_bytes r p ≡ file
  unfolding job_bytes mark version low16
  is_file = refl

  -- what stands from the lists, from the column list and from the sides on
  from_columns : drop (7 + length r.rows) file ≡ r.columns ++ sides
  from_columns = drop-append-add head body (length r.rows) ∙ drop_at r.rows (r.columns ++ sides) (length r.rows) refl

  from_sides : (k : ℕ) → drop (7 + length r.rows + length r.columns + k) file ≡ drop k sides
  from_sides k =
      sym (drop-drop k (7 + length r.rows + length r.columns) file)
      ∙ ap (drop k)
      (sym (drop-drop (length r.columns) (7 + length r.rows) file)
      ∙ ap (drop (length r.columns)) from_columns
      ∙ drop_at r.columns sides (length r.columns) refl)

  file_length : length file ≡ 11 + length r.rows + length r.columns + length p.pixels
  file_length = omega (arith, length-append r.rows (r.columns ++ sides), length-append r.columns sides)

  lists : job_recipe file ≡ r
  unfolding job_recipe
  lists =
      let rows = part_within 7 (length r.rows) file (omega (arith, file_length)) ∙ take_at r.rows (r.columns ++ sides) (length r.rows) refl in
      let columns =
      part_within (7 + length r.rows) (length r.columns) file (omega (arith, file_length))
      ∙ ap (take (length r.columns)) from_columns
      ∙ take_at r.columns sides (length r.columns) refl in
      λ i. record { rows = rows i; columns = columns i }

  module _ (s : Sized p.width p.height) where
    width : job_width file ≡ p.width
    unfolding job_width
    width =
        let at : 7 + length r.rows + length r.columns + 0 ≡ 7 + length r.rows + length r.columns = omega arith in
        read16_front file (7 + length r.rows + length r.columns)
        ∙ ap (λ l. get_or l 0 0 + 256 * get_or l 1 0) (ap (λ n. drop n file) (sym at) ∙ from_sides 0)
        ∙ low16_read p.width s.width.1

    height : job_height file ≡ p.height
    unfolding job_height
    height =
        let at : 7 + length r.rows + length r.columns + 2 ≡ 9 + length r.rows + length r.columns = omega arith in
        read16_front file (9 + length r.rows + length r.columns)
        ∙ ap (λ l. get_or l 0 0 + 256 * get_or l 1 0) (ap (λ n. drop n file) (sym at) ∙ from_sides 2)
        ∙ low16_read p.height s.height.1

    pixels : drop (job_offset file) file ≡ p.pixels
    unfolding job_offset
    pixels =
        let at : 7 + length r.rows + length r.columns + 4 ≡ 11 + length r.rows + length r.columns = omega arith in
        ap (λ n. drop n file) (sym at) ∙ from_sides 4

  -- mark and version are right
  good_head : bad_head file ≡ false
  unfolding bad_head mark version read16
  good_head = simp (le-ltb (length file) 7 (omega (arith, file_length)))

-- ---- a job read back after writing is the same job

-- the sides of a file as they are told, and so its length
job_total : (r : Recipe) (p : Picture) → Sized p.width p.height → length p.pixels ≡ p.width * p.height
    → length (file r p) ≡ job_length (job_recipe (file r p)) (job_width (file r p)) (job_height (file r p))
unfolding job_length
job_total r p s e =
    file_length r p
    ∙ ap (λ n. 11 + length r.rows + length r.columns + n) e
    ∙ sym ((λ i. job_length (lists r p i) (width r p s i) (height r p s i)))

-- where nothing refuses it, reading tells what it says
read_file : (r : Recipe) (p : Picture) → first (picture_checks r p) ≡ 0 → job_read (file r p) ≡ accepted (job_told (file r p))
unfolding picture_checks
read_file r p z =
    let k = is_accepted_picture r p z in
    let sized = (none_both (size_checks r p.width p.height) _ (size_numbered r p.width p.height) z).0 in
    let same : first (size_checks (job_recipe (file r p)) (job_width (file r p)) (job_height (file r p))) ≡ 0 =
    (λ i. first (size_checks (lists r p i) (width r p k.sides i) (height r p k.sides i))) ∙ sized in
    sym (rest_all (file r p) same (job_total r p k.sides k.size)
    ∙ by_rest (file r p) (good_head r p) (ap₂ ◌||◌ (le-ltb 48 (length r.rows) k.recipe.rows_short) (le-ltb 48 (length r.columns) k.recipe.columns_short)) (omega (arith, file_length r p)))

pub read_back : ReadBack
unfolding read_picture job_told
read_back r p z out new number e w =
    let k = is_accepted_picture r p z in
    let done = writes r p out new number z e w in
    let same : Same r p (file r p) (job_told (file r p)) =
    record {
      accepted = read_file r p z;
      lists =
          held_recipe (job_recipe (file r p))
          (subst (λ (q : Recipe). length q.rows ≤ 48) (sym (lists r p)) k.recipe.rows_short)
          (subst (λ (q : Recipe). length q.columns ≤ 48) (sym (lists r p)) k.recipe.columns_short)
          ∙ lists r p;
      picture = λ i. record { width = width r p k.sides i; height = height r p k.sides i; pixels = pixels r p k.sides i };
    } in (
      done.0,
      (job_told (file r p), subst (λ (l : List ℕ). Same r p l (job_told (file r p))) (sym (done.1 ∙ is_file r p)) same),
    )

-- ---- an accepted file written again has the same bytes

-- a list from a place on is a part and what stands after it
split : (from n : ℕ) (xs : List ℕ) → from + n ≤ length xs → drop from xs ≡ part from n xs ++ drop (from + n) xs
split from n xs h =
    sym (take-append-drop n (drop from xs)) ∙ ap₂ ◌++◌ (sym (part_within from n xs h)) (drop-drop n from xs)

-- two bytes are the number that is read there, low byte first
pair : (bytes : List ℕ) → FileBytes bytes → (k : ℕ) → part k 2 bytes ≡ low16 (read16 bytes k)
unfolding part tab read16
pair bytes b k =
    let here : k + 0 ≡ k = omega arith in
    ap (λ n. get_or bytes n 0 ∷ get_or bytes (k + 1) 0 ∷ []) here
    ∙ sym (read_low16 (get_or bytes k 0) (get_or bytes (k + 1) 0) (b k) (b (k + 1)))

-- mark and version are those of the definition
head_is : (bytes : List ℕ) → FileBytes bytes → bad_head bytes ≡ false → (part 0 3 bytes ≡ mark) × (part 3 2 bytes ≡ low16 version)
unfolding bad_head part tab mark version
head_is bytes b e =
    let version-wrong = neither _ (not (eqb (read16 bytes 3) 1)) e in
    let mark-wrong = neither (ltb (length bytes) 7) _ version-wrong.0 in
    let three = both _ (eqb (get_or bytes 2 0) 0x52) (not-false _ mark-wrong.1) in
    let two = both (eqb (get_or bytes 0 0) 0x42) (eqb (get_or bytes 1 0) 0x4F) three.0 in
    let b0 = eqb-true (get_or bytes 0 0) 0x42 two.0 in
    let b1 = eqb-true (get_or bytes 1 0) 0x4F two.1 in
    let b2 = eqb-true (get_or bytes 2 0) 0x52 three.1 in
    let v = eqb-true (read16 bytes 3) 1 (not-false _ version-wrong.1) in
    ((λ i. b0 i ∷ b1 i ∷ b2 i ∷ []), pair bytes b 3 ∙ ap low16 v)

-- a file to which no check applies
record Accepted (bytes : List ℕ) : Type 0 where
  head : bad_head bytes ≡ false
  sides : first (size_checks (job_recipe bytes) (job_width bytes) (job_height bytes)) ≡ 0
  total : length bytes ≡ 11 + get_or bytes 5 0 + get_or bytes 6 0 + job_width bytes * job_height bytes

is_accepted : (bytes : List ℕ) → first (job_checks bytes) ≡ 0 → Accepted bytes
unfolding job_checks other_total other_pixels
is_accepted bytes e =
    let one = first_none (bad_head bytes) 13 _ e in
    let two = first_none (too_long (job_recipe bytes)) 0 _ one.1 in
    let three = first_none (cut_short bytes) 13 _ two.1 in
    let four = none_both (size_checks (job_recipe bytes) (job_width bytes) (job_height bytes)) _ (size_numbered _ _ _) three.1 in
    let five = first_none (other_total bytes) 13 [] four.1 in
    record {
      head = one.0;
      sides = four.0;
      total = same_length_so (length bytes) _ five.0 ∙ job_length_lem bytes (job_width bytes) (job_height bytes);
    }

module _ (bytes : List ℕ) (b : FileBytes bytes) (k : Accepted bytes) where
  abbrev m : ℕ
  m = get_or bytes 5 0

  abbrev n : ℕ
  n = get_or bytes 6 0

  from_sides_on : drop (7 + m + n) bytes ≡ low16 (job_width bytes) ++ (low16 (job_height bytes) ++ drop (job_offset bytes) bytes)
  unfolding job_width job_height job_offset
  from_sides_on =
      let heightAt : 7 + m + n + 2 ≡ 9 + m + n = omega arith in
      let pixelsAt : 9 + m + n + 2 ≡ 11 + m + n = omega arith in
      split (7 + m + n) 2 bytes (omega (arith, k.total))
      ∙ ap₂ ◌++◌ (pair bytes b (7 + m + n))
      (ap (λ i. drop i bytes) heightAt
      ∙ split (9 + m + n) 2 bytes (omega (arith, k.total))
      ∙ ap₂ ◌++◌ (pair bytes b (9 + m + n)) (ap (λ i. drop i bytes) pixelsAt))

  same_bytes : job_bytes (job_recipe bytes) (job_picture bytes) ≡ bytes
  unfolding job_bytes job_recipe job_picture part tab
  same_bytes =
      let h = head_is bytes b k.head in
      let counts : part 5 2 bytes ≡ length (part 7 m bytes) ∷ length (part (7 + m) n bytes) ∷ [] =
      ap₂ (λ x y. x ∷ y ∷ []) (sym (length_part 7 m bytes)) (sym (length_part (7 + m) n bytes)) in
      sym
      (split 0 3 bytes (omega (arith, k.total))
      ∙ ap₂ ◌++◌ h.0
      (split 3 2 bytes (omega (arith, k.total))
      ∙ ap₂ ◌++◌ h.1
      (split 5 2 bytes (omega (arith, k.total))
      ∙ ap₂ ◌++◌ counts
      (split 7 m bytes (omega (arith, k.total))
      ∙ ap (λ l. part 7 m bytes ++ l)
      (split (7 + m) n bytes (omega (arith, k.total))
      ∙ ap (λ l. part (7 + m) n bytes ++ l) from_sides_on)))))

  -- the picture is accepted with the recipe
  picture_accepted : first (picture_checks (job_recipe bytes) (job_picture bytes)) ≡ 0
  unfolding job_picture job_offset
  picture_accepted = picture_passed (job_recipe bytes) (job_picture bytes) k.sides (omega (arith, k.total, length-drop (11 + m + n) bytes))

-- what reading tells where it accepts
told : (bytes : List ℕ) (j : Job) → job_read bytes ≡ accepted j → (first (job_checks bytes) ≡ 0) × (j ≡ job_told bytes)
unfolding job_read
told bytes j e = read_accepted (job_checks bytes) (job_told bytes) j (sym e)

pub written_again : WrittenAgain
unfolding read_picture job_told job_picture
written_again bytes b j z out new number e w =
    let is = told bytes j z in
    let k = is_accepted bytes is.0 in
    let short = (is_sized (job_recipe bytes) (job_width bytes) (job_height bytes) k.sides).0 in
    let lists : recipe j.filter ≡ job_recipe bytes =
    ap (λ (i : Job). recipe i.filter) is.1 ∙ held_recipe (job_recipe bytes) short.rows_short short.columns_short in
    let seen : read_picture j bytes ≡ job_picture bytes = ap (λ (i : Job). read_picture i bytes) is.1 in
    let long = e ∙ k.total ∙ sym (job_length_lem bytes (job_width bytes) (job_height bytes)) in
    let done =
    writes (job_recipe bytes) (job_picture bytes) out new number (picture_accepted bytes b k) long
    (subst (λ (p : Picture). JobWritten (job_recipe bytes) p out number new) seen
    (subst (λ (r : Recipe). JobWritten r (read_picture j bytes) out number new) lists w)) in
    (done.0, done.1 ∙ same_bytes bytes b k)
