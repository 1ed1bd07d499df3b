-- `report::filling::put_all` meets its contract: the first line, and then the lines of grown rows in the rest of the text.
-- Assumes nothing.
use mathlib.Core.Path.{◌≡◌, sym, ap, ◌∙◌}
use mathlib.Core.List.{List}
use Prim.Native.Nat.{ℕ, ◌-◌, ◌≤◌, min}
use native.Mathlib.Decide.{dec_lt}
use native.Mathlib.Omega.{arith}
use borrow.Author.Rules.{rules}
use lib.ListN.{length, take, drop, length-drop, drop_of_length-le}
use lib.Seq.{take_all}
use Rattle.report.specs.Filling.{next_lines, heading, job_lines}
use Rattle.report.proofs.Fronts.{front_within}
use Rattle.report.proofs.Rows.{joined, put_same, put_behind}
use Rattle.report.proofs.filling.put_all.Goals as goal

-- the pixels, where the job has any
part_past : (offset n : ℕ) (job : List ℕ) → n ≡ min offset (length job) → take (length job - n) (drop n job) ≡ drop offset job
part_past offset n job e =
    take_all (length job - n) (drop n job) (omega (arith, length-drop n job))
    ∙ elim (dec_lt (length job) offset) [
      | yes h ↦
          let all : length job ≤ n = omega (arith, e) in
          let past : length job ≤ offset = omega arith in
          drop_of_length-le job all ∙ sym (drop_of_length-le job past)
      | no h ↦
          let same : n ≡ offset = omega (arith, e) in
          ap (λ k. drop k job) same
    ]

pub overflow_add-result : goal.overflow_add-result
overflow_add-result c =
    let puts = c.put_rows-rows in
    let most = front_within _ _ _ _ puts.ensures.end puts.ensures.text in
    let long : length puts.new.text ≤ 65536 = search rules in
    omega (arith, most, long, c.begin-from.ensures.1)

pub returns : goal.returns
unfolding job_lines
returns c =
    let o = c.args.opened in
    let begins = c.begin-from.ensures in
    put_same (ap (λ l. joined (heading o) (next_lines o.state l c.args.cells.now)) (part_past o.offset _ c.args.job.now c.min-offset.ensures))
    (put_behind (heading o) c.args.text.now _ _ begins.0 begins.2 _ _ _ _ c.put_rows-rows.ensures)
