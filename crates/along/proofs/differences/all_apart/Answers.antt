-- What `search` does not find of `differences::all_apart`.
use Rattle.std.proofs.Common.{◌≡◌, ℕ, List, Bool, true, false, cond, get_or, sym, ap, ◌∙◌, arith, drop-cons}
use Rattle.along.specs.Along.{wide}
use Rattle.along.specs.Private.{differences}
use Rattle.along.proofs.Boxes.{wide_boxes_next, wide_boxes_all}
use Rattle.along.proofs.differences.all_apart.Goals as goal
use Rattle.along.proofs.differences.all_apart.Goals.{then-is_wide, else-is_wide}

chosen : (n : ℕ) (xs : List ℕ) (b : Bool) → wide n ≡ b → cond b (differences n xs) xs ≡ cond (wide n) (differences n xs) xs
chosen n xs b e = sym (ap (λ b. cond b (differences n xs) xs) e)

pub loop-n-preserved : goal.loop-n-preserved
loop-n-preserved c =
    let turn = c.loop-n in
    let boxes = c.args.boxes.now in
    let n = get_or boxes turn.n-index 0 in
    let did : c.if-is_wide.row ≡ cond (wide n) (differences n turn.row) turn.row =
    elim c.if-is_wide.branch [
      | then-is_wide w ↦
          w.row-is
          ∙ w.apart.ensures
          ∙ ap (λ m. differences m turn.row) w.from.ensures
          ∙ chosen n turn.row true (sym c.is_wide.ensures ∙ w.if-is_wide.true)
      | else-is_wide w ↦ w.row-is ∙ chosen n turn.row false (sym c.is_wide.ensures ∙ w.if-is_wide.false)
    ] in
    wide_boxes_next boxes turn.n-index n turn.row _ _ (drop-cons boxes turn.n-index 0 (omega arith)) did turn.invariant

pub returns : goal.returns
returns c =
    let turn = c.loop-n in
    wide_boxes_all c.args.boxes.now turn.n-index turn.row _ (omega arith) turn.invariant
