-- One pass of a recipe, from the first row that is taken on: that the next grown row is due, what is known once it has come, and what is
-- taken of it.
-- Assumes nothing.
use mathlib.Core.Path.{◌≡◌, refl, sym, ap, subst, ◌∙◌}
use mathlib.Core.List.{List}
use Prim.Native.Nat.{ℕ, ◌+◌, ◌*◌, ◌/◌, ◌≤◌, ◌<◌}
use native.Mathlib.Nat.{zero-add}
use native.Mathlib.Omega.{arith}
use lib.ListN.{length, get_or, take, drop}
use Rattle.spec.specs.Recipe.{Recipe, recipe, order, gain}
use Rattle.spec.specs.Picture.{Picture, Within, largest_gray, full_width_of, full_height_of, full_row}
use Rattle.spec.specs.Gray.{same_row, same_sum}
use Rattle.laws.proofs.Refusals.{grown_most}
use Rattle.gray.specs.Division.{Bounded}
use Rattle.stream.specs.declared.calls.State.{State}
use Rattle.rows.specs.Streaming.{Streamed, Due, Came, picture_of}
use Rattle.rows.specs.Taking.{Taken}
use Rattle.rows.proofs.Driving.{is_due, has_come}
use Rattle.rows.proofs.Taking.{long, taken_length, taken_at, taken_bounded}
use Rattle.difference.specs.declared.Pass.{Pass}

-- A pass l, which was a before the first row that is taken, stands before the one that is taken for picture row j.
pub record Standing (a l : Pass) (pixels : List ℕ) (j : ℕ) : Type 0 where
  pub left : l.left ≡ a.left
  pub weight : l.weight ≡ a.weight
  pub wide : length l.row.now ≡ length a.row.now
  pub streamed : Streamed a.state.filter (picture_of a.state pixels) (same_row (recipe a.state.filter) j) l.state l.cells.now

-- Sums of a recipe that are taken for picture row j, and its weight.
pub record Row (r : Recipe) (p : Picture) (j weight : ℕ) (sums : List ℕ) : Type 0 where
  pub heavy : weight ≡ gain r
  pub size : length sums ≡ p.width
  pub at : (i : ℕ) → i < p.width → get_or sums i 0 ≡ same_sum r p i j
  pub bounded : Bounded largest_gray weight sums

module _ (a : Pass) (pixels : List ℕ) (taken : Taken a.state a.left pixels a.row.now a.cells.now) where
  abbrev r : Recipe
  r = recipe a.state.filter

  abbrev p : Picture
  p = picture_of a.state pixels

  pub stands_first : Standing a a pixels 0
  unfolding same_row
  stands_first =
      record {
        left = refl;
        weight = refl;
        wide = refl;
        streamed = subst (λ k. Streamed a.state.filter p k a.state a.cells.now) (sym (zero-add (order r.columns / 2))) taken.streamed;
      }

  -- what is taken lies inside the grown row, which is not wide
  pub inside : a.left + a.state.width ≤ full_width_of r a.state.width
  unfolding full_width_of
  inside = omega (arith, taken.half)

  pub narrow : full_width_of r a.state.width ≤ 1279
  narrow = (grown_most _ _ _ taken.picture.recipe taken.picture.sides).0

  module _ (j : ℕ) (l : Pass) (st : Standing a l pixels j) where
    pub next_due : j < a.state.height → Due l.state pixels l.row.now l.cells.now
    unfolding full_height_of same_row
    next_due below = is_due _ _ _ _ _ _ _ st.streamed _ taken.picture.size (omega (arith, below)) (st.wide ∙ taken.wide)

    -- the row has come, and the pass is n
    module _ (n : Pass) (came : Came l.state n.state pixels n.row.now n.cells.now) (left : n.left ≡ l.left) (weight : n.weight ≡ l.weight) where
      come : Streamed a.state.filter p (same_row r j + 1) n.state n.cells.now × (n.row.now ≡ full_row r p (same_row r j))
      come = has_come _ _ _ _ _ _ _ st.streamed _ _ _ came

      width : n.state.width ≡ a.state.width
      width = ap (λ (s : State). s.width) come.0.is

      pub row_long : length n.row.now ≡ full_width_of r a.state.width
      row_long = long r p j n.row.now come.1

      pub row_room : n.left + n.state.width ≤ length n.row.now
      row_room = omega (arith, left, st.left, width, row_long, inside)

      pub stands_next : Standing a n pixels (j + 1)
      unfolding same_row
      stands_next =
          let follows : same_row r j + 1 ≡ same_row r (j + 1) = omega arith in
          record {
            left = left ∙ st.left;
            weight = weight ∙ st.weight;
            wide = row_long ∙ sym taken.wide;
            streamed = subst (λ k. Streamed a.state.filter p k n.state n.cells.now) follows come.0;
          }

      -- what is taken of it
      pub row_taken : a.weight ≡ gain r → Within largest_gray p → (own : ℕ) (sums : List ℕ) → own ≡ n.weight → sums ≡ take n.state.width (drop n.left n.row.now)
          → Row r p j own sums
      row_taken heavy bytes own sums e f =
          let half = left ∙ st.left ∙ taken.half in
          let gain_is = e ∙ weight ∙ st.weight ∙ heavy in
          record {
            heavy = gain_is;
            size = ap length f ∙ taken_length r p j n.row.now come.1 n.left n.state.width half width;
            at = λ i h. ap (λ m. get_or m i 0) f ∙ taken_at r p j n.row.now come.1 n.left n.state.width half width i h;
            bounded = λ i.
                subst (λ m. get_or m i 0 ≤ largest_gray * own) (sym f)
                (subst (λ g. get_or (take n.state.width (drop n.left n.row.now)) i 0 ≤ largest_gray * g) (sym gain_is)
                (taken_bounded r p j n.row.now come.1 n.left n.state.width half width largest_gray bytes i));
          }
