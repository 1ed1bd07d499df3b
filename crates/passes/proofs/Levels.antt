-- The ladder width by width, on a sequence in rows of W places: after each width what is held are the sums of the widths so far.
-- Assumes nothing.
use mathlib.Core.Path.{◌≡◌, sym, ap, subst, ◌∙◌}
use mathlib.Core.List.{List}
use Prim.Native.Nat.{ℕ, zero, suc, ◌+◌, ◌-◌, ◌≤◌, ◌<◌}
use native.Mathlib.Nat.{le_trans, le_of_eq, zero-add, suc-add}
use native.Mathlib.Omega.{arith}
use Rattle.spec.specs.Recipe.{Recipe, gain}
use Rattle.spec.specs.Ladder.{Axes}
use Rattle.laws.proofs.Kernels.{at}
use Rattle.laws.proofs.Cascades.{cascaded, cascaded_grows}
use Rattle.laws.proofs.Exact.{rows_pos, columns_pos}
use Rattle.laws.proofs.Refusals.{Accepted}
use Rattle.laws.proofs.Flat.{filtered}
use Rattle.laws.proofs.Joining.{filtered_agree, filtered_joined}
use Rattle.laws.proofs.Ladder.{rung_at, rungs_before, next_rung, step_accepted, fewer_accepted}
use Rattle.passes.specs.declared.buffers.Buffer.{Buffer}
use Rattle.passes.specs.Steps.{Below, Small}
use Rattle.passes.specs.Turned.{turned_all}
use Rattle.passes.proofs.Turning.{turned_joined}

-- a recipe makes no value smaller
filtered_grows : (r : Recipe) (W : ℕ) (f : ℕ → ℕ) (k : ℕ) → 0 < gain r → f k ≤ filtered r W f k
unfolding filtered
filtered_grows r W f k g =
    le_trans (cascaded_grows 1 r.rows f k (rows_pos r g)) (cascaded_grows W r.columns (cascaded 1 r.rows f) k (columns_pos r g))

module _ (a : Axes) (W : ℕ) (f : ℕ → ℕ) where
  -- one width more
  next : (i k : ℕ) → i < 10 → filtered (rung_at a i) W (filtered (rungs_before a i) W f) k ≡ filtered (rungs_before a (suc i)) W f k
  next i k h = filtered_joined (rungs_before a i) (rung_at a i) W f k ∙ ap (λ r. filtered r W f k) (sym (next_rung a i h))

  -- where the sums of accepted widths fit, so do those of fewer of them
  fewer_small : (size d i : ℕ) → d + i ≤ 10 → Accepted (rungs_before a (d + i)) → Small size (filtered (rungs_before a (d + i)) W f)
      → Small size (filtered (rungs_before a i) W f)
  fewer_small size zero i h k small = subst (λ n. Small size (filtered (rungs_before a n) W f)) (zero-add i) small
  fewer_small size (suc d) i h k small =
      let e = suc-add d i in
      let up : d + i < 10 = omega arith in
      let both = step_accepted a (d + i) up (subst (λ n. Accepted (rungs_before a n)) e k) in
      fewer_small size d i (omega arith) both.0
      (λ j l.
      le_trans (filtered_grows (rung_at a (d + i)) W (filtered (rungs_before a (d + i)) W f) j both.1.not_zero)
      (le_trans (le_of_eq (next (d + i) j up ∙ ap (λ n. filtered (rungs_before a n) W f j) (sym e))) (small j l)))

  -- the next width, on what is held: then there is one width more
  module _ (size i : ℕ) (room : i < 10) (now : List ℕ) (sums : Below size (filtered (rungs_before a i) W f) now) where
    onward : (k : ℕ) → k < size → filtered (rung_at a i) W (at now) k ≡ filtered (rungs_before a (suc i)) W f k
    onward k h = filtered_agree (rung_at a i) W (at now) (filtered (rungs_before a i) W f) k (λ j l. sums j (omega arith)) ∙ next i k room

    pub rung_done : (new : List ℕ) → Below size (filtered (rung_at a i) W (at now)) new → Below size (filtered (rungs_before a (suc i)) W f) new
    rung_done new b k h = b k h ∙ onward k h

  -- As many widths as are accepted, over places where their sums fit.
  module _ (size count : ℕ) (most : count ≤ 10) (accepted : Accepted (rungs_before a count)) (small : Small size (filtered (rungs_before a count) W f)) where
    pub up_accepted : (i : ℕ) → i ≤ count → Accepted (rungs_before a i)
    up_accepted i h =
        let e : count ≡ count - i + i = omega arith in
        fewer_accepted a (count - i) i (omega arith) (subst (λ n. Accepted (rungs_before a n)) e accepted)

    pub up_small : (i : ℕ) → i ≤ count → Small size (filtered (rungs_before a i) W f)
    up_small i h =
        let e : count ≡ count - i + i = omega arith in
        fewer_small size (count - i) i (omega arith) (subst (λ n. Accepted (rungs_before a n)) e accepted)
        (subst (λ n. Small size (filtered (rungs_before a n) W f)) e small)

    -- the next width is accepted, and its sums fit
    module _ (i : ℕ) (more : i < count) where
      pub rung_accepted : Accepted (rung_at a i)
      rung_accepted = (step_accepted a i (omega arith) (up_accepted (suc i) more)).1

      pub rung_small : (now : List ℕ) → Below size (filtered (rungs_before a i) W f) now → Small size (filtered (rung_at a i) W (at now))
      rung_small now sums k h = le_trans (le_of_eq (onward size i (omega arith) now sums k h)) (up_small (suc i) more k h)

-- the buffer that is held
pub rung_turned : (a : Axes) (i : ℕ) → i < 10 → (begin now : Buffer) → now ≡ turned_all (rungs_before a i) begin
    → turned_all (rung_at a i) now ≡ turned_all (rungs_before a (suc i)) begin
rung_turned a i h begin now e =
    ap (turned_all (rung_at a i)) e ∙ turned_joined (rungs_before a i) (rung_at a i) begin ∙ ap (λ r. turned_all r begin) (sym (next_rung a i h))
