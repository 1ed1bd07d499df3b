-- The program's checks, one after the other, and what an opened job is.
-- Assumes nothing.
use mathlib.Core.Path.{◌≡◌, refl, sym, ap, ap₂, subst, ◌∙◌}
use mathlib.Core.Bool.{false, cond}
use mathlib.Core.List.{List, [], ◌∷◌, ◌++◌}
use Prim.Native.Nat.{ℕ, zero, suc, ◌+◌, ◌≤◌, ◌<◌}
use native.Mathlib.Omega.{arith}
use lib.Dec.{ltb}
use lib.ListN.{length, drop, replicate, length-append, length-replicate, length-drop}
use borrow.Author.Tests.{lt-ltb, le-ltb, ltb-false}
use Rattle.std.specs.Prelude.{Ok, Err}
use Rattle.spec.specs.declared.Filter.{Filter}
use Rattle.spec.specs.declared.refusal.Refusal.{Refusal}
use Rattle.spec.specs.declared.refusal.Refusal.TheVariants.{BadFile}
use Rattle.spec.specs.Recipe.{recipe, held_filter}
use Rattle.spec.specs.Picture.{full_width_of, full_height_of}
use Rattle.spec.specs.Stream.{stream_cells}
use Rattle.spec.specs.Job.{job_recipe, job_width, job_height, job_offset, job_length}
use Rattle.spec.specs.Refusals.{Check, check, first, either, lent, answer, told, number, recipe_checks, too_long, too_few_cells, bad_head, cut_short, other_total, other_pixels, over_program, size_checks, start_checks, job_checks, program_checks}
use Rattle.laws.proofs.Numbers.{neither}
use Rattle.laws.proofs.Refusals.{Numbered, Sized, lent_refused, lent_accepted, first_front, first_then, first_none, none_both, numbered_more, size_numbered, recipe_numbered, is_sized, same_length_so}
use Rattle.laws.proofs.Results.{number_not_zero, err_told, ok_told}
use Rattle.filter.specs.declared.checks.Measures.{Measures}
use Rattle.filter.specs.Measured.{measured}
use Rattle.filter.proofs.Measuring.{Known, known, measured_err}
use Rattle.stream.specs.declared.calls.State.{State}
use Rattle.stream.specs.Calls.{Began, began, zeros, started, start}
use Rattle.job.specs.declared.reading.Job.{Job}
use Rattle.job.specs.Answers.{job_told, job_read}
use Rattle.job.proofs.Holding.{held_recipe}
use Rattle.report.specs.Opening.{Opening, opening, not_opened, job_started, job_opened}

-- the number of a start is that of its checks, and on a refusal the cells are what they were
pub start_number : (f : Filter) (w h : ℕ) (cells : List ℕ) → (start f w h cells).number ≡ first (start_checks (recipe f) w h (length cells))
unfolding start lent started either
start_number f w h cells = go (first (start_checks (recipe f) w h (length cells)))
  where
    go : (k : ℕ) → (either k (started f w h cells) (record { number = k; state = zeros; cells = cells })).number ≡ k
    go zero = refl
    go (suc k) = refl

start_refused : (f : Filter) (w h : ℕ) (cells : List ℕ) → ((start f w h cells).number ≡ 0 → ⊥) → (start f w h cells).cells ≡ cells
unfolding start
start_refused f w h cells k =
    let cs = start_checks (recipe f) w h (length cells) in
    ap (λ (b : Began). b.cells) (lent_refused cs (started f w h cells) _ (first cs) refl (λ z. k (start_number f w h cells ∙ z)))

module _ (bytes : List ℕ) where
  -- ---- the checks of a job

  job_numbered : Numbered (job_checks bytes)
  unfolding job_checks check
  job_numbered =
      let sizes = size_numbered (job_recipe bytes) (job_width bytes) (job_height bytes) in
      (omega arith, (omega arith, (omega arith, numbered_more (size_checks (job_recipe bytes) (job_width bytes) (job_height bytes)) (other_total bytes) 13 sizes)))

  -- what is known of a job that is accepted
  pub record Fine : Type 0 where
    pub sizes : first (size_checks (job_recipe bytes) (job_width bytes) (job_height bytes)) ≡ 0
    pub total : length bytes ≡ job_length (job_recipe bytes) (job_width bytes) (job_height bytes)
    pub lists : recipe (held_filter (job_recipe bytes)) ≡ job_recipe bytes

  pub is_fine : first (job_checks bytes) ≡ 0 → Fine
  unfolding job_checks other_total other_pixels too_long
  is_fine e =
      let r = job_recipe bytes in
      let one = first_none (bad_head bytes) 13 _ e in
      let two = first_none (too_long r) 0 _ one.1 in
      let three = first_none (cut_short bytes) 13 _ two.1 in
      let both = none_both (size_checks r (job_width bytes) (job_height bytes)) _ (size_numbered r (job_width bytes) (job_height bytes)) three.1 in
      let last = first_none (other_total bytes) 13 _ both.1 in
      let short = neither (ltb 48 (length r.rows)) (ltb 48 (length r.columns)) two.0 in
      record {
        sizes = both.0;
        total = same_length_so (length bytes) _ last.0;
        lists = held_recipe r (ltb-false 48 (length r.rows) short.0) (ltb-false 48 (length r.columns) short.1);
      }

  -- ---- the program's checks

  -- the checks after that of the size
  after : List Check
  after = job_checks bytes ++ check (too_few_cells 8192 (stream_cells (job_recipe bytes) (job_width bytes))) 8 ∷ []

  pub by_size : 65536 < length bytes → first (program_checks bytes) ≡ number BadFile
  unfolding first check program_checks over_program after number
  by_size h = ap (λ b. cond b 14 (first after)) (lt-ltb 65536 (length bytes) h)

  module _ (small : length bytes ≤ 65536) where
    in_size : first (program_checks bytes) ≡ first after
    unfolding first check program_checks over_program after
    in_size = ap (λ b. cond b 14 (first after)) (le-ltb 65536 (length bytes) small)

    pub by_job : (n : ℕ) → first (job_checks bytes) ≡ n → (n ≡ 0 → ⊥) → first (program_checks bytes) ≡ n
    unfolding after
    by_job n e h = in_size ∙ first_front (job_checks bytes) _ n e h

    by_cells : first (job_checks bytes) ≡ 0 → first (program_checks bytes) ≡ cond (too_few_cells 8192 (stream_cells (job_recipe bytes) (job_width bytes))) 8 0
    unfolding after
    by_cells e = in_size ∙ first_then (job_checks bytes) _ 8 job_numbered e

  -- where none of them holds, none of the job's does
  pub program_job : first (program_checks bytes) ≡ 0 → first (job_checks bytes) ≡ 0
  unfolding program_checks
  program_job e = (none_both (job_checks bytes) _ job_numbered (first_none (over_program bytes) 13 _ e).1).0

  pub program_small : first (program_checks bytes) ≡ 0 → length bytes ≤ 65536
  unfolding program_checks over_program
  program_small e = ltb-false 65536 (length bytes) (first_none (over_program bytes) 13 _ e).0

  -- once a job is read, the start of the one pass decides
  pub starts : length bytes ≤ 65536 → first (job_checks bytes) ≡ 0 → (cells : List ℕ) → length cells ≡ 8192
      → first (start_checks (recipe (held_filter (job_recipe bytes))) (job_width bytes) (job_height bytes) (length cells)) ≡ first (program_checks bytes)
  unfolding start_checks
  starts small e cells n =
      let r = job_recipe bytes in
      let fine = is_fine e in
      ap₂ (λ q m. first (start_checks q (job_width bytes) (job_height bytes) m)) fine.lists n
      ∙ first_then (size_checks r (job_width bytes) (job_height bytes)) (too_few_cells 8192 (stream_cells r (job_width bytes))) 8 (size_numbered r (job_width bytes) (job_height bytes)) fine.sizes
      ∙ sym (by_cells small e)

  -- ---- opening

  module _ (cells : List ℕ) where
    pub refused_lem : (e : Refusal) → first (program_checks bytes) ≡ number e → opening (not_opened (number e)) cells ≡ job_opened bytes cells
    unfolding opening job_opened
    refused_lem e q =
        ap (λ k. opening (not_opened k) cells) (sym q) ∙ sym (lent_refused (program_checks bytes) (job_started bytes cells) _ (number e) q (number_not_zero e))

    pub by_reading : length bytes ≤ 65536 → (e : Refusal) → told (λ (j : Job). j) (Err e) ≡ job_read bytes
        → opening (not_opened (number e)) cells ≡ job_opened bytes cells
    unfolding job_read
    by_reading small e t =
        refused_lem e (by_job small (number e) (err_told (λ (j : Job). j) (job_checks bytes) (job_told bytes) e t) (number_not_zero e))

    -- a job that is read and not refused
    module _ (small : length bytes ≤ 65536) (n : length cells ≡ 8192) (j : Job) (t : told (λ (x : Job). x) (Ok j) ≡ job_read bytes) where
      read_so : (first (job_checks bytes) ≡ 0) × (j ≡ job_told bytes)
      unfolding job_read
      read_so = ok_told (λ (x : Job). x) (job_checks bytes) (job_told bytes) j t

      fine : Fine
      fine = is_fine read_so.0

      same_filter : j.filter ≡ held_filter (job_recipe bytes)
      unfolding job_told
      same_filter = ap (λ (x : Job). x.filter) read_so.1

      same_width : j.width ≡ job_width bytes
      unfolding job_told
      same_width = ap (λ (x : Job). x.width) read_so.1

      same_height : j.height ≡ job_height bytes
      unfolding job_told
      same_height = ap (λ (x : Job). x.height) read_so.1

      same_offset : j.offset ≡ job_offset bytes
      unfolding job_told
      same_offset = ap (λ (x : Job). x.offset) read_so.1

      sides : Sized j.width j.height
      unfolding job_told
      sides =
          subst (λ (x : Job). Sized x.width x.height) (sym read_so.1) (is_sized (job_recipe bytes) (job_width bytes) (job_height bytes) fine.sizes).1

      same_recipe : recipe j.filter ≡ job_recipe bytes
      same_recipe = ap recipe same_filter ∙ fine.lists

      measured_so : (m : Measures) → told (λ (x : Measures). x) (Ok m) ≡ answer (recipe_checks (recipe j.filter)) (measured (recipe j.filter))
          → Known (job_recipe bytes) m
      measured_so m s = subst (λ r. Known r m) same_recipe (known (recipe j.filter) m s)

      -- its recipe is measured as accepted
      pub measured_always : (e : Refusal) → told (λ (x : Measures). x) (Err e) ≡ answer (recipe_checks (recipe j.filter)) (measured (recipe j.filter)) → ⊥
      unfolding size_checks
      measured_always e s =
          number_not_zero e
          (sym (measured_err (recipe j.filter) e s) ∙ ap (λ r. first (recipe_checks r)) same_recipe ∙ (none_both _ _ (recipe_numbered (job_recipe bytes)) fine.sizes).0)

      -- the grown sides are small
      pub grown_few : (m : Measures) → told (λ (x : Measures). x) (Ok m) ≡ answer (recipe_checks (recipe j.filter)) (measured (recipe j.filter))
          → (j.width + m.row_order ≤ 1279) × (j.height + m.column_order ≤ 1279)
      grown_few m s =
          let k = measured_so m s in
          (omega (arith, k.row_reach, k.accepted.row_reach, sides.width), omega (arith, k.column_reach, k.accepted.column_reach, sides.height))

      module _ (held : List ℕ) where
        begun_so : (b : Began) → b ≡ start j.filter j.width j.height cells → b ≡ start (held_filter (job_recipe bytes)) (job_width bytes) (job_height bytes) cells
        unfolding job_told
        begun_so b e = e ∙ ap (λ (x : Job). start x.filter x.width x.height cells) read_so.1

        begun_number : (b : Began) → b ≡ start j.filter j.width j.height cells → first (program_checks bytes) ≡ b.number
        begun_number b e =
            sym (starts small read_so.0 cells n)
            ∙ sym (start_number (held_filter (job_recipe bytes)) (job_width bytes) (job_height bytes) cells)
            ∙ sym (ap (λ (x : Began). x.number) (begun_so b e))

        pub by_start : (e : Refusal) → began (Err e) held ≡ start j.filter j.width j.height cells
            → opening (not_opened (number e)) held ≡ job_opened bytes cells
        unfolding began
        by_start e q =
            let b = begun_so (began (Err e) held) q in
            let same : held ≡ cells =
            ap (λ (x : Began). x.cells) b
            ∙ start_refused (held_filter (job_recipe bytes)) (job_width bytes) (job_height bytes) cells
            (λ z. number_not_zero e (ap (λ (x : Began). x.number) b ∙ z)) in
            ap (opening (not_opened (number e))) same ∙ refused_lem e (begun_number (began (Err e) held) q)

        pub all_opened : (s : State) → began (Ok s) held ≡ start j.filter j.width j.height cells
            → (m : Measures) → told (λ (x : Measures). x) (Ok m) ≡ answer (recipe_checks (recipe j.filter)) (measured (recipe j.filter))
            → opening (record { refusal = 0; state = s; offset = j.offset; width = j.width + m.row_order; height = j.height + m.column_order; gain = m.gain; is_begun = false }) held
            ≡ job_opened bytes cells
        unfolding opening job_opened job_started began full_width_of full_height_of
        all_opened s q m t =
            let k = measured_so m t in
            let b = begun_so (began (Ok s) held) q in
            (λ i. record {
              opened =
                  record {
                    refusal = 0;
                    state = ap (λ (x : Began). x.state) b i;
                    offset = same_offset i;
                    width = same_width i + k.row_reach i;
                    height = same_height i + k.column_reach i;
                    gain = k.weight i;
                    is_begun = false;
                  };
              cells = ap (λ (x : Began). x.cells) b i;
            })
            ∙ sym (lent_accepted (program_checks bytes) (job_started bytes cells) _ (begun_number (began (Ok s) held) q))

-- the cells are as many as before
started_length : (f : Filter) (w h : ℕ) (cells : List ℕ) → first (start_checks (recipe f) w h (length cells)) ≡ 0 → length (start f w h cells).cells ≡ length cells
unfolding start started start_checks too_few_cells
started_length f w h cells e =
    let r = recipe f in
    let needed = stream_cells r w in
    let checks = size_checks r w h in
    let eight = (none_both checks _ (size_numbered r w h) e).1 in
    let enough : needed ≤ length cells = ltb-false (length cells) needed (first_none (too_few_cells (length cells) needed) 7 _ eight).0 in
    ap (λ (b : Began). length b.cells) (lent_accepted (start_checks r w h (length cells)) (started f w h cells) _ e)
    ∙ omega (arith, length-append (replicate {A = ℕ} needed 0) (drop needed cells), length-replicate {A = ℕ} needed 0, length-drop needed cells)

pub opened_length : (bytes cells : List ℕ) → length cells ≡ 8192 → length (job_opened bytes cells).cells ≡ 8192
unfolding job_opened job_started
opened_length bytes cells many = go (first (program_checks bytes)) refl
  where
    go : (n : ℕ) → first (program_checks bytes) ≡ n → length (job_opened bytes cells).cells ≡ 8192
    go zero e =
        ap (λ (a : Opening). length a.cells) (lent_accepted (program_checks bytes) (job_started bytes cells) _ e)
        ∙ started_length (held_filter (job_recipe bytes)) (job_width bytes) (job_height bytes) cells (starts bytes (program_small bytes e) (program_job bytes e) cells many ∙ e)
        ∙ many
    go (suc n) e =
        ap (λ (a : Opening). length a.cells) (lent_refused (program_checks bytes) (job_started bytes cells) _ (suc n) e (λ z. omega arith)) ∙ many
