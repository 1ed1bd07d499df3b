-- Each turn writes the front of what is still to be printed.
use Rattle.std.proofs.Common.{◌≡◌, ◌↔◌, ◌≤◌, ◌<◌, ◌+◌, ◌-◌, ℕ, suc, List, [], ◌++◌, true, false, Option, Some, None, IsNone, is_some, true≢false, length, take, drop, get_or, replicate, refl, sym, ap, subst, ◌∙◌, rules, arith, length-append, length-drop, length-take-le}
use Rattle.std.proofs.Math.ListN.{length-replicate}
use Rattle.std.proofs.lemmas.List.{drop-drop}
use Rattle.std.proofs.Math.Seq.{take-add, take-append-le, drop-append_seam}
use Rattle.std.specs.Io.KnownBytes.{Appends}
use Rattle.std.proofs.KnownBytes.{Appends-trans, Appends-nil}
use Rattle.spec.specs.declared.refusal.Refusal.{Refusal}
use Rattle.spec.specs.Refusals.{either}
use Rattle.spec.specs.Program.{printed}
use Rattle.laws.proofs.Results.{number_not_zero}
use Rattle.report.specs.declared.opening.Opened.{Opened}
use Rattle.report.specs.declared.filling.Filled.{Filled}
use Rattle.report.specs.Opening.{Opening, opening}
use Rattle.report.specs.Filling.{Filling, ended, filled, fill}
use Rattle.report.specs.Session.{until_refused}
use Rattle.report.proofs.Fronts.{either_second}
use Rattle.report.proofs.Ending.{fill_kept}
use Rattle.report.proofs.Printing.{session_printed}
use Rattle.console.proofs.print_report.Goals as goal
use Rattle.console.proofs.print_report.Goals.{then-is_some-via-then-is_some, then-is_some-via-else-is_some+then-is_some-2}

-- one call more
one_more : (o : Opened) (job cells text : List ℕ) (n : ℕ) (r : Filled) (held new : List ℕ) → filled r held new ≡ fill o job cells text
    → until_refused (suc n) o job cells text ≡ take r.count new ++ either (ended r.end) (until_refused n r.opened job held new) []
unfolding until_refused filled
one_more o job cells text n r held new e =
    ap (λ (a : Filling). take a.count a.text ++ either a.number (until_refused n a.opened job a.cells a.text) []) (sym e)

-- the text keeps its length
same_length : (o : Opened) (job cells text : List ℕ) (r : Filled) (held new : List ℕ) → filled r held new ≡ fill o job cells text
    → r.count ≤ length text → length new ≡ length text
unfolding filled
same_length o job cells text r held new e few =
    ap (λ (x : Filling). length x.text) e ∙ fill_kept o job cells text (subst (λ n. n ≤ length text) (ap (λ (x : Filling). x.count) e) few)

-- where some of a text is out, and what is left of it is a part and the rest after that
module _ (whole part rest : List ℕ) (count : ℕ) (split : drop count whole ≡ part ++ rest) where
  out : (m : ℕ) → m ≤ length part → take count whole ++ take m part ≡ take (count + m) whole
  out m h = ap (λ l. take count whole ++ l) (sym (ap (take m) split ∙ take-append-le m part rest h)) ∙ sym (take-add count m whole)

  left : drop (count + length part) whole ≡ rest
  left = sym (drop-drop (length part) count whole) ∙ ap (drop (length part)) split ∙ drop-append_seam part rest

  sum : count ≤ length whole → count + (length part + length rest) ≡ length whole
  sum h = omega (arith, sym (length-drop count whole) ∙ ap length split ∙ length-append part rest)

-- what a turn finds: the part that was filled, and what comes after it
record Turn (whole : List ℕ) (count : ℕ) (part after : List ℕ) (n : ℕ) : Type 0 where
  size : length part ≡ n
  split : drop count whole ≡ part ++ after
  sum : count + (n + length after) ≡ length whole

turn : (whole : List ℕ) (count k : ℕ) (o : Opened) (job cells text : List ℕ) (r : Filled) (held new : List ℕ)
    → k < 1280 → length text ≡ 65536 → r.count ≤ 65536 → filled r held new ≡ fill o job cells text
    → count ≤ length whole → drop count whole ≡ until_refused (1280 - k) o job cells text
    → Turn whole count (take r.count new) (either (ended r.end) (until_refused (1280 - (k + 1)) r.opened job held new) []) r.count
turn whole count k o job cells text r held new below long few e within rest =
    let n = 1280 - (k + 1) in
    let after = either (ended r.end) (until_refused n r.opened job held new) [] in
    let one : 1280 - k ≡ suc n = omega arith in
    let same = same_length o job cells text r held new e (omega arith) in
    let size = length-take-le r.count new (omega (arith, same)) in
    let split = rest ∙ ap (λ m. until_refused m o job cells text) one ∙ one_more o job cells text n r held new e in
    record {
      size = size;
      split = split;
      sum = omega (arith, size, sum whole (take r.count new) after count split within);
    }

-- the last filling: with one that has a number nothing is left
nothing_left : {A : Type 0} (e : Option Refusal) (xs : List A) → is_some e ≡ true → length (either (ended e) xs []) ≡ 0
nothing_left None xs h = absurd (cc)
nothing_left (Some e) xs h = ap length (either_second _ xs [] (number_not_zero e))

still_left : {A : Type 0} (e : Option Refusal) (xs : List A) → is_some e ≡ false → either (ended e) xs [] ≡ xs
unfolding either
still_left None xs h = refl
still_left (Some e) xs h = absurd (cc)

-- a part is written whole or not, and with it all where nothing is left
all_written : {E : Type 0} (error : Option E) (count m n rest all : ℕ) → (IsNone error ↔ (m ≡ n)) → m ≤ n → count + (n + rest) ≡ all
    → (IsNone error → rest ≡ 0) → IsNone error ↔ (count + m ≡ all)
all_written error count m n rest all whole h s z =
    (λ none. omega (arith, whole.0 none, z none), λ q. whole.1 (omega arith))

pub loop-init : goal.loop-init
unfolding opening
loop-init g c =
    let job = c.args.job.now in
    let cells : List ℕ = replicate 8192 0 in
    let text : List ℕ = replicate 65536 0 in
    let bytes : (k : ℕ) → get_or job k 0 ≤ 255 = λ k. omega (arith, c.type_inv.job k) in
    let claim = session_printed job cells text bytes (length-replicate {A = ℕ} 8192 0) in
    let opened = ap (λ (x : Opening). until_refused 1280 x.opened job x.cells text) c.«open-at».ensures in
    record {
      cells = search rules;
      text = length-replicate {A = ℕ} 65536 0;
      few = omega arith;
      within = omega arith;
      rest = sym (opened ∙ claim.ended 1280 claim.few);
      sent = Appends-nil _;
    }

pub overflow_add-count : goal.overflow_add-count
overflow_add-count g c =
    let t = turn (printed c.args.job.now) c.loop.count _ _ _ _ _ _ _ _ c.loop-test.true c.loop.invariant.text c.fill-filled.ensures.count_bound c.fill-filled.ensures.text_after c.loop.invariant.within c.loop.invariant.rest in
    omega (arith, t.size)

pub returns-then-is_some-clause-bound : goal.returns-then-is_some-clause-bound
returns-then-is_some-clause-bound g c =
    let t = turn (printed c.args.job.now) c.loop.count _ _ _ _ _ _ _ _ c.loop-test.true c.loop.invariant.text c.fill-filled.ensures.count_bound c.fill-filled.ensures.text_after c.loop.invariant.within c.loop.invariant.rest in
    omega (arith, t.size, t.sum)

pub returns-then-is_some-clause-all : goal.returns-then-is_some-clause-all
returns-then-is_some-clause-all g c =
    let t = turn (printed c.args.job.now) c.loop.count _ _ _ _ _ _ _ _ c.loop-test.true c.loop.invariant.text c.fill-filled.ensures.count_bound c.fill-filled.ensures.text_after c.loop.invariant.within c.loop.invariant.rest in
    all_written c.write-part.result.error _ _ _ _ _ c.write-part.ensures.all c.write-part.ensures.bound t.sum
    (elim c.then-is_some.branch [
      | then-is_some-via-then-is_some w ↦ λ z. absurd (true≢false (sym w.if-is_some.true ∙ c.is_some.ensures ∙ z))
      | then-is_some-via-else-is_some+then-is_some-2 w ↦ λ z. nothing_left _ _ (sym w.is_some-else-is_some.ensures ∙ w.if-is_some-2.true)
    ])

pub returns-then-is_some-clause-sent : goal.returns-then-is_some-clause-sent
returns-then-is_some-clause-sent g c =
    let t = turn (printed c.args.job.now) c.loop.count _ _ _ _ _ _ _ _ c.loop-test.true c.loop.invariant.text c.fill-filled.ensures.count_bound c.fill-filled.ensures.text_after c.loop.invariant.within c.loop.invariant.rest in
    subst (Appends _ _) (out _ _ _ _ t.split _ (omega (arith, c.write-part.ensures.bound, t.size))) (Appends-trans _ _ _ _ _ c.loop.invariant.sent c.write-part.ensures.sent)

pub loop-preserved : goal.loop-preserved
loop-preserved g c =
    let t = turn (printed c.args.job.now) c.loop.count _ _ _ _ _ _ _ _ c.loop-test.true c.loop.invariant.text c.fill-filled.ensures.count_bound c.fill-filled.ensures.text_after c.loop.invariant.within c.loop.invariant.rest in
    let went = c.write-part.ensures.all.0 (sym c.is_some.ensures ∙ c.if-is_some.false) in
    let on = still_left c.fill-filled.result.end _ (sym c.is_some-else-is_some.ensures ∙ c.if-is_some-2.false) in
    record {
      cells = search rules;
      text = search rules;
      few = omega (arith, t.size, went, c.fill-filled.ensures.count_bound);
      within = omega (arith, t.size, t.sum, went);
      rest = ap (λ n. drop (c.loop.count + n) (printed c.args.job.now)) (went ∙ sym t.size) ∙ left _ _ _ _ t.split ∙ on;
      sent = subst (Appends _ _) (out _ _ _ _ t.split _ (omega (arith, c.write-part.ensures.bound, t.size))) (Appends-trans _ _ _ _ _ c.loop.invariant.sent c.write-part.ensures.sent);
    }

pub returns-clause-all : goal.returns-clause-all
unfolding until_refused
returns-clause-all g c =
    let none : 1280 - c.loop.counter ≡ 0 = omega (arith, c.loop-test.false) in
    let empty = ap length (c.loop.invariant.rest ∙ ap (λ n. until_refused n c.loop.at c.args.job.now c.loop.cells c.loop.text) none) in
    (λ _. omega (arith, c.loop.invariant.within, sym (length-drop c.loop.count (printed c.args.job.now)) ∙ empty), λ _. refl)
