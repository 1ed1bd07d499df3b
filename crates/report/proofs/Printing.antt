-- The claim about the program's text: the fillings are what document 01 has it print.
-- Assumes nothing.
use mathlib.Core.Path.{◌≡◌, refl, sym, ap, ap₂, subst, ◌∙◌}
use mathlib.Core.Bool.{Bool, true, false, cond, true≢false}
use mathlib.Core.List.{List, [], ◌∷◌, ◌++◌, append-nil, append_assoc, flatten}
use Prim.Native.Nat.{ℕ, zero, suc, ◌+◌, ◌-◌, ◌*◌, ◌≤◌, ◌<◌, min}
use native.Mathlib.Nat.{zero-add}
use native.Mathlib.Decide.{dec_lt}
use native.Mathlib.Omega.{arith}
use lib.Dec.{leb}
use lib.ListN.{length, get_or, take, drop, replicate, length-replicate, length-drop}
use lib.Seq.{get_or-drop}
use borrow.Author.Tests.{le-leb}
use Rattle.spec.specs.declared.Filter.{Filter}
use Rattle.spec.specs.Words.{tab}
use Rattle.spec.specs.Recipe.{Recipe, recipe, held_filter}
use Rattle.spec.specs.Picture.{Picture, picture, largest_gray, Within, exact, full_width_of, full_height_of, full_row}
use Rattle.spec.specs.Job.{job_recipe, job_width, job_height, job_offset, job_picture}
use Rattle.spec.specs.Refusals.{check, first, either, bad_state, other_pixels, size_checks, program_checks}
use Rattle.spec.specs.Program.{line, sums_printed, refusal_printed, printed}
use Rattle.laws.proofs.Lists.{length_tab, tab_agree}
use Rattle.laws.proofs.Refusals.{lent_refused, lent_accepted, is_sized, grown_most}
use Rattle.stream.specs.declared.calls.State.{State}
use Rattle.stream.specs.Calls.{state_of, zeros, Called, began, start}
use Rattle.job.proofs.Answering.{job_length_lem}
use Rattle.rows.specs.Streaming.{Streamed}
use Rattle.rows.specs.Advance.{picture_due, advance}
use Rattle.rows.proofs.Driving.{begun as has_begun}
use Rattle.rows.proofs.Advancing.{advance_refused, next}
use Rattle.report.specs.declared.opening.Opened.{Opened}
use Rattle.report.specs.Opening.{Opening, not_opened, job_started, job_opened, first_line}
use Rattle.report.specs.Filling.{Lines, row_lines, grown_width, rows_at_once, next_lines, heading, job_lines, begun, fill}
use Rattle.report.specs.Session.{fillings, until_refused, TextClaim}
use Rattle.report.proofs.Checks.{start_number, is_fine, program_job, program_small, starts}
use Rattle.report.proofs.Fronts.{take_front}
use Rattle.report.proofs.Rows.{joined, no_lines, lines_more, lines_stopped, bad_next}
use Rattle.report.proofs.Ending.{from_lines, fill_quiet, nothing_more, until_more}

-- rows one after the other, in two parts
flat_split : (F : ℕ → List ℕ) (a b : ℕ) → flatten (tab a F) ++ flatten (tab b (λ j. F (a + j))) ≡ flatten (tab (a + b) F)
unfolding tab flatten
flat_split F zero b =
    ap flatten (tab_agree b (λ j. F (0 + j)) F (λ j h. ap F (zero-add j))) ∙ ap (λ n. flatten (tab n F)) (sym (zero-add b))
flat_split F (suc a) b =
    let same : (j : ℕ) → suc a + j ≡ suc (a + j) = λ j. omega arith in
    let more : suc (a + b) ≡ suc a + b = omega arith in
    append_assoc (F 0) (flatten (tab a (λ k. F (suc k)))) _
    ∙ ap (λ l. F 0 ++ l)
    (ap (λ l. flatten (tab a (λ k. F (suc k))) ++ flatten l) (tab_agree b (λ j. F (suc a + j)) (λ j. F (suc (a + j))) (λ j h. ap F (same j)))
    ∙ flat_split (λ k. F (suc k)) a b)
    ∙ ap (λ n. flatten (tab n F)) more

-- all grown rows are out: refused
out_refused : (s : State) (pixels row cells : List ℕ) → full_height_of (recipe s.filter) s.height ≤ s.emitted
    → (advance s pixels row cells).number ≡ 0 → ⊥
unfolding picture_due state_of first check
out_refused s pixels row cells past z =
    let is = ap (λ (a : Called). a.number) (advance_refused s pixels row cells (first (picture_due (state_of s) (length pixels))) refl some) in
    some (is ∙ z)
  where
    go : (b c d : Bool) → c ≡ true → first (check b 9 ∷ check c 10 ∷ check d 6 ∷ []) ≡ 0 → ⊥
    go true c d e q = omega arith
    go false true d e q = omega arith
    go false false d e q = absurd (true≢false (sym e))

    some : first (picture_due (state_of s) (length pixels)) ≡ 0 → ⊥
    some =
        go (bad_state (state_of s)) (leb (full_height_of (recipe s.filter) s.height) s.emitted) (other_pixels (length pixels) (s.width * s.height))
        (le-leb (full_height_of (recipe s.filter) s.height) s.emitted past)

-- ---- driven over a picture

module _ (f : Filter) (w h : ℕ) (pixels : List ℕ) (size : length pixels ≡ w * h) (small : Within largest_gray (picture w h pixels)) where
  abbrev p : Picture
  p = picture w h pixels

  abbrev high : ℕ
  high = full_height_of (recipe f) h

  -- the line of a grown row
  abbrev lined : ℕ → List ℕ
  lined j = line (full_row (recipe f) p j)

  module _ (k : ℕ) (s : State) (cells : List ℕ) (st : Streamed f p k s cells) (row : List ℕ) (wide : length row ≡ full_width_of (recipe f) w) where
    abbrev stepped : Called
    stepped = advance s pixels row cells

    came : k < high → Streamed f p (k + 1) stepped.state stepped.cells × (stepped.out ≡ full_row (recipe f) p k)
    came due = let all = next f w h pixels size small k s cells st row due wide stepped refl in (all.1, all.2)

    accepted : k < high → stepped.number ≡ 0
    accepted due = (next f w h pixels size small k s cells st row due wide stepped refl).0

    ended : high ≤ k → stepped.number ≡ 0 → ⊥
    ended past = out_refused s pixels row cells (subst (λ (x : State). full_height_of (recipe x.filter) x.height ≤ x.emitted) (sym st.is) past)

  -- so many rows further: their lines, the state and the cells after them, and where there is a number all are out
  Further : ℕ → ℕ → Lines → Type 0
  Further k n a =
      (a.made ≡ flatten (tab n (λ j. lined (k + j)))) × Streamed f p (k + n) a.state a.cells × ((a.number ≡ 0 → ⊥) → high ≤ k + n)

  rows_further : (m k : ℕ) (s : State) (cells : List ℕ) → Streamed f p k s cells → (row : List ℕ) → length row ≡ full_width_of (recipe f) w
      → Further k (min m (high - k)) (row_lines m s pixels row cells)
  unfolding Further row_lines tab flatten full_row
  rows_further zero k s cells st row wide =
      let none : 0 ≡ min 0 (high - k) = omega arith in
      let here : k ≡ k + 0 = omega arith in
      subst (λ n. Further k n (no_lines 0 s cells)) none (refl, subst (λ n. Streamed f p n s cells) here st, λ g. absurd (g refl))
  rows_further (suc m) k s cells st row wide =
      elim (dec_lt k high) [
        | yes due ↦
            let a = advance s pixels row cells in
            let c = came k s cells st row wide due in
            let long = ap length c.1 ∙ length_tab (full_width_of (recipe f) w) (λ i. exact (recipe f) p i k) in
            let rest = rows_further m (k + 1) a.state a.cells c.0 a.out long in
            let n = min m (high - (k + 1)) in
            let more : suc n ≡ min (suc m) (high - k) = omega arith in
            let next : k + 1 + n ≡ k + suc n = omega arith in
            let here : k ≡ k + 0 = omega arith in
            let same : (j : ℕ) → k + 1 + j ≡ k + suc j = λ j. omega arith in
            subst (λ x. Further k x (row_lines (suc m) s pixels row cells)) more
            (subst (λ (x : Lines). Further k (suc n) x) (sym (lines_more s pixels row cells m (accepted k s cells st row wide due))) (
              ap₂ ◌++◌ (ap line c.1 ∙ ap lined here) (rest.0 ∙ ap flatten (tab_agree n (λ j. lined (k + 1 + j)) (λ j. lined (k + suc j)) (λ j u. ap lined (same j)))),
              subst (λ x. Streamed f p x (row_lines m a.state pixels a.out a.cells).state (row_lines m a.state pixels a.out a.cells).cells) next rest.1,
              λ g. omega (arith, rest.2 g),
            ))
        | no late ↦
            let none : 0 ≡ min (suc m) (high - k) = omega arith in
            let here : k ≡ k + 0 = omega arith in
            let past : high ≤ k = omega arith in
            subst (λ x. Further k x (row_lines (suc m) s pixels row cells)) none
            (subst (λ (x : Lines). Further k 0 x) (sym (lines_stopped s pixels row cells (ended k s cells st row wide past) m))
            (refl, subst (λ n. Streamed f p n s cells) here st, λ g. omega (arith, past)))
      ]

  -- a filling: one row or more, while there are any
  module _ (o : Opened) (job cells text : List ℕ) (begins : drop o.offset job ≡ pixels) (k : ℕ) (st : Streamed f p k o.state cells) where
    abbrev due-now : ℕ
    due-now = min (rows_at_once o.state) (high - k)

    wide_is : grown_width o.state ≡ full_width_of (recipe f) w
    unfolding grown_width
    wide_is = ap (λ (x : State). full_width_of (recipe x.filter) x.width) st.is

    some : 0 < rows_at_once o.state
    unfolding rows_at_once
    some = omega arith

    lines-further : Further k due-now (next_lines o.state (drop o.offset job) cells)
    unfolding next_lines
    lines-further =
        subst (λ l. Further k due-now (next_lines o.state l cells)) (sym begins)
        (rows_further (rows_at_once o.state) k o.state cells st (replicate (grown_width o.state) 0) (length-replicate {A = ℕ} (grown_width o.state) 0 ∙ wide_is))

    filled-text : take (fill o job cells text).count (fill o job cells text).text ≡ heading o ++ flatten (tab due-now (λ j. lined (k + j)))
    unfolding fill job_lines Further
    filled-text =
        let a = next_lines o.state (drop o.offset job) cells in
        take_front (heading o ++ a.made) text ∙ ap (λ l. heading o ++ l) lines-further.0

    filled-state : Streamed f p (k + due-now) (fill o job cells text).opened.state (fill o job cells text).cells
    unfolding fill job_lines begun Further
    filled-state = lines-further.1

    filled-last : ((fill o job cells text).number ≡ 0 → ⊥) → high ≤ k + due-now
    unfolding fill job_lines Further
    filled-last = lines-further.2

    -- and what is left after it
    one_more : (n : ℕ)
        → fillings n (fill o job cells text).opened job (fill o job cells text).cells (fill o job cells text).text
        ≡ flatten (tab (high - (k + due-now)) (λ j. lined (k + due-now + j)))
        → k ≤ high → fillings (suc n) o job cells text ≡ heading o ++ flatten (tab (high - k) (λ j. lined (k + j)))
    unfolding fillings
    one_more n rest inside =
        let F : ℕ → List ℕ = λ j. lined (k + j) in
        let left = high - (k + due-now) in
        let all : due-now + left ≡ high - k = omega arith in
        let same : (j : ℕ) → k + due-now + j ≡ k + (due-now + j) = λ j. omega arith in
        ap₂ ◌++◌ filled-text (rest ∙ ap flatten (tab_agree left (λ j. lined (k + due-now + j)) (λ j. F (due-now + j)) (λ j u. ap lined (same j))))
        ∙ append_assoc (heading o) (flatten (tab due-now F)) (flatten (tab left (λ j. F (due-now + j))))
        ∙ ap (λ l. heading o ++ l) (flat_split F due-now left ∙ ap (λ m. flatten (tab m F)) all)

  -- once the first line is out: the lines of the rows that are left, if there are as many calls
  rows_filled : (n k : ℕ) (o : Opened) (job cells text : List ℕ) → drop o.offset job ≡ pixels → Streamed f p k o.state cells → k ≤ high
      → high ≤ k + n → o.is_begun ≡ true → fillings n o job cells text ≡ flatten (tab (high - k) (λ j. lined (k + j)))
  unfolding fillings fill job_lines begun heading tab flatten
  rows_filled zero k o job cells text begins st inside enough b =
      let none : 0 ≡ high - k = omega arith in
      ap (λ n. flatten (tab n (λ j. lined (k + j)))) none
  rows_filled (suc n) k o job cells text begins st inside enough b =
      let a = fill o job cells text in
      let q = min (rows_at_once o.state) (high - k) in
      let further = filled-state o job cells text begins k st in
      let rest = rows_filled n (k + q) a.opened job a.cells a.text begins further (omega arith) (omega (arith, some o job cells text begins k st)) refl in
      one_more o job cells text begins k st n rest inside
      ∙ ap (λ c. cond c [] (first_line o) ++ flatten (tab (high - k) (λ j. lined (k + j)))) b

  -- up to the first call with a number: the same
  until_filled : (n k : ℕ) (o : Opened) (job cells text : List ℕ) → drop o.offset job ≡ pixels → Streamed f p k o.state cells → k ≤ high
      → until_refused n o job cells text ≡ fillings n o job cells text
  unfolding until_refused fillings fill job_lines begun tab flatten
  until_filled zero k o job cells text begins st inside = refl
  until_filled (suc n) k o job cells text begins st inside =
      let a = fill o job cells text in
      let q = min (rows_at_once o.state) (high - k) in
      let further = filled-state o job cells text begins k st in
      let within : k + q ≤ high = omega arith in
      until_more o job cells text n (λ z. until_filled n (k + q) a.opened job a.cells a.text begins further within)
      (λ g.
      let past : high ≤ k + q = filled-last o job cells text begins k st g in
      let none : high - (k + q) ≡ 0 = omega arith in
      rows_filled n (k + q) a.opened job a.cells a.text begins further within (omega arith) refl
      ∙ ap (λ m. flatten (tab m (λ j. lined (k + q + j)))) none)

  -- the first line and the lines of all rows
  all_filled : (n : ℕ) (o : Opened) (job cells text : List ℕ) → drop o.offset job ≡ pixels → Streamed f p 0 o.state cells → high ≤ n
      → fillings (suc n) o job cells text ≡ heading o ++ flatten (tab high lined)
  unfolding fill job_lines begun
  all_filled n o job cells text begins st enough =
      let a = fill o job cells text in
      let q = min (rows_at_once o.state) (high - 0) in
      let further = filled-state o job cells text begins 0 st in
      let whole : high - 0 ≡ high = omega arith in
      let rest = rows_filled n (0 + q) a.opened job a.cells a.text begins further (omega arith) (omega arith) refl in
      one_more o job cells text begins 0 st n rest (omega arith)
      ∙ ap (λ l. heading o ++ flatten l) (ap (λ m. tab m (λ j. lined (0 + j))) whole ∙ tab_agree high (λ j. lined (0 + j)) lined (λ j u. ap lined (zero-add j)))

-- ---- the whole

module _ (bytes cells text : List ℕ) where
  -- what so many calls fill once a job is opened
  abbrev finish : ℕ → Opening → List ℕ
  finish n a = fillings n a.opened bytes a.cells text

  abbrev until : ℕ → Opening → List ℕ
  until n a = until_refused n a.opened bytes a.cells text

  -- a refused job: its line, and nothing more
  module _ (m : ℕ) (e : first (program_checks bytes) ≡ suc m) where
    refused-is : job_opened bytes cells ≡ record { opened = not_opened (suc m); cells = cells }
    unfolding job_opened
    refused-is =
        lent_refused (program_checks bytes) (job_started bytes cells) _ (suc m) e (λ z. omega arith)
        ∙ ap (λ k. record { opened = not_opened k; cells = cells }) e

    no_rows : (held : List ℕ) → next_lines zeros (drop 0 bytes) held ≡ no_lines 9 zeros held
    no_rows held =
        bad_next zeros (drop 0 bytes) held (first (size_checks (recipe zeros.filter) 0 0)) refl
        (λ z. omega (arith, (is_sized (recipe zeros.filter) 0 0 z).1.width))

    its-line : refusal_printed (suc m) ≡ printed bytes
    unfolding printed either
    its-line = sym (ap (λ k. either k (sums_printed (job_recipe bytes) (job_picture bytes)) (refusal_printed k)) e)

    refused-printed : (n : ℕ) → 0 < n → finish n (job_opened bytes cells) ≡ printed bytes
    unfolding fillings fill job_lines heading first_line either begun
    refused-printed zero h = absurd (omega arith)
    refused-printed (suc n) h =
        let o = not_opened (suc m) in
        let next = begun o zeros in
        let t = refusal_printed (suc m) in
        ap (finish (suc n)) refused-is
        ∙ ap (λ (a : Lines). let b = from_lines o bytes cells text (joined t a) in take b.count b.text ++ fillings n b.opened bytes b.cells b.text) (no_rows cells)
        ∙ ap₂ ◌++◌ (take_front (t ++ []) text ∙ append-nil t) (nothing_more next bytes cells _ n 9 (fill_quiet next bytes cells _ 9 refl (no_rows cells)))
        ∙ append-nil t
        ∙ its-line

    refused-ended : (n : ℕ) → 0 < n → until n (job_opened bytes cells) ≡ printed bytes
    unfolding until_refused fill job_lines heading first_line either begun
    refused-ended zero h = absurd (omega arith)
    refused-ended (suc n) h =
        let o = not_opened (suc m) in
        let t = refusal_printed (suc m) in
        ap (until (suc n)) refused-is
        ∙ ap (λ (a : Lines). let b = from_lines o bytes cells text (joined t a) in take b.count b.text ++ either b.number (until_refused n b.opened bytes b.cells b.text) []) (no_rows cells)
        ∙ append-nil (take (length (t ++ [])) _)
        ∙ take_front (t ++ []) text
        ∙ append-nil t
        ∙ its-line

  -- an accepted one
  module _ (small : (k : ℕ) → get_or bytes k 0 ≤ 255) (many : length cells ≡ 8192) (e : first (program_checks bytes) ≡ 0) where
    f : Filter
    f = held_filter (job_recipe bytes)

    pixels : List ℕ
    pixels = drop (job_offset bytes) bytes

    size : length pixels ≡ job_width bytes * job_height bytes
    unfolding pixels job_offset
    size =
        let fine = is_fine bytes (program_job bytes e) in
        length-drop (job_offset bytes) bytes ∙ omega (arith, fine.total, job_length_lem bytes (job_width bytes) (job_height bytes))

    few : Within largest_gray (picture (job_width bytes) (job_height bytes) pixels)
    unfolding pixels
    few k = omega (arith, get_or-drop (job_offset bytes) bytes k 0, small (job_offset bytes + k))

    grown : full_height_of (job_recipe bytes) (job_height bytes) ≤ 1279
    grown =
        let fine = is_fine bytes (program_job bytes e) in
        let sized = is_sized (job_recipe bytes) (job_width bytes) (job_height bytes) fine.sizes in
        (grown_most (job_recipe bytes) (job_width bytes) (job_height bytes) sized.0 sized.1).1

    all-rows : (r : Recipe) → recipe f ≡ r → (n : ℕ) → full_height_of r (job_height bytes) ≤ n → (o : Opened) (held : List ℕ)
        → drop o.offset bytes ≡ pixels → Streamed f (picture (job_width bytes) (job_height bytes) pixels) 0 o.state held
        → fillings (suc n) o bytes held text
        ≡ heading o ++ flatten (tab (full_height_of r (job_height bytes)) (λ j. line (full_row r (picture (job_width bytes) (job_height bytes) pixels) j)))
    all-rows r q n enough o held begins st =
        let p = picture (job_width bytes) (job_height bytes) pixels in
        all_filled f (job_width bytes) (job_height bytes) pixels size few n o bytes held text begins st (subst (λ x. full_height_of x (job_height bytes) ≤ n) (sym q) enough)
        ∙ ap (λ x. heading o ++ flatten (tab (full_height_of x (job_height bytes)) (λ j. line (full_row x p j)))) q

    abbrev began-with : Opening
    began-with = job_started bytes cells

    accepted-is : job_opened bytes cells ≡ began-with
    unfolding job_opened
    accepted-is = lent_accepted (program_checks bytes) began-with _ e

    none_yet : Streamed f (picture (job_width bytes) (job_height bytes) pixels) 0 began-with.opened.state began-with.cells
    unfolding job_started f pixels began
    none_yet =
        let s = start f (job_width bytes) (job_height bytes) cells in
        let none = starts bytes (program_small bytes e) (program_job bytes e) cells many ∙ e in
        let number = start_number f (job_width bytes) (job_height bytes) cells ∙ none in
        has_begun f (picture (job_width bytes) (job_height bytes) pixels) cells s.state s.cells none
        (λ i. record { number = sym number i; state = s.state; cells = s.cells })

    accepted-printed : (n : ℕ) → began-with.opened.height < n → finish n (job_opened bytes cells) ≡ printed bytes
    unfolding job_started printed sums_printed job_picture heading first_line either f pixels
    accepted-printed zero h = absurd (omega arith)
    accepted-printed (suc n) h =
        let r = job_recipe bytes in
        let fine = is_fine bytes (program_job bytes e) in
        let enough : full_height_of r (job_height bytes) ≤ n = omega arith in
        ap (finish (suc n)) accepted-is
        ∙ all-rows r fine.lists n enough began-with.opened began-with.cells refl none_yet
        ∙ sym (ap (λ k. either k (sums_printed r (job_picture bytes)) (refusal_printed k)) e)

    accepted-ended : (n : ℕ) → began-with.opened.height < n → until n (job_opened bytes cells) ≡ printed bytes
    unfolding job_started f pixels
    accepted-ended n h =
        ap (until n) accepted-is
        ∙ until_filled f (job_width bytes) (job_height bytes) pixels size few n 0 began-with.opened bytes began-with.cells text refl none_yet (omega arith)
        ∙ sym (ap (finish n) accepted-is)
        ∙ accepted-printed n h

pub session_printed : TextClaim
unfolding job_started
session_printed bytes cells text small many =
    record {
      whole = λ n h. (go (first (program_checks bytes)) refl n h).0;
      ended = λ n h. (go (first (program_checks bytes)) refl n h).1;
      few = few-rows (first (program_checks bytes)) refl;
    }
  where
    go : (m : ℕ) → first (program_checks bytes) ≡ m → (n : ℕ) → (job_opened bytes cells).opened.height < n
        → (finish bytes cells text n (job_opened bytes cells) ≡ printed bytes) × (until bytes cells text n (job_opened bytes cells) ≡ printed bytes)
    go zero e n h =
        let enough = subst (λ (a : Opening). a.opened.height < n) (accepted-is bytes cells text small many e) h in
        (accepted-printed bytes cells text small many e n enough, accepted-ended bytes cells text small many e n enough)
    go (suc m) e n h = (refused-printed bytes cells text m e n (omega arith), refused-ended bytes cells text m e n (omega arith))

    few-rows : (m : ℕ) → first (program_checks bytes) ≡ m → (job_opened bytes cells).opened.height < 1280
    few-rows zero e =
        subst (λ (a : Opening). a.opened.height < 1280) (sym (accepted-is bytes cells text small many e)) (omega (arith, grown bytes cells text small many e))
    few-rows (suc m) e = subst (λ (a : Opening). a.opened.height < 1280) (sym (refused-is bytes cells text m e)) (omega arith)
