-- Two recipes and a picture that a difference accepts: what each recipe's one pass may ask, and what both have once they stand before the
-- first row that is taken.
-- Assumes nothing.
use mathlib.Core.Path.{◌≡◌, sym, ap, ap₂, subst, ◌∙◌}
use mathlib.Core.List.{List}
use Prim.Native.Nat.{ℕ, ◌+◌, ◌*◌, ◌/◌, ◌^◌, ◌≤◌, ◌<◌}
use native.Mathlib.Nat.{mul-pos}
use native.Mathlib.Omega.{arith}
use lib.IntN.{ℤ}
use lib.ListN.{length}
use Rattle.spec.specs.Recipe.{recipe, gain}
use Rattle.spec.specs.Picture.{picture, full_height_of}
use Rattle.spec.specs.Gray.{places, difference}
use Rattle.spec.specs.Refusals.{first, start_checks}
use Rattle.laws.proofs.Refusals.{AcceptedPicture, is_accepted_picture}
use Rattle.stream.specs.declared.calls.State.{State}
use Rattle.rows.specs.Streaming.{Streamed, picture_of}
use Rattle.difference.specs.declared.Operand.{Operand}
use Rattle.difference.specs.declared.Pass.{Pass}
use Rattle.gray.specs.declared.rounding.Divisor.{Divisor}
use Rattle.gray.specs.Division.{divisor}
use Rattle.difference.specs.Pairs.{BothAccepted, BothTaken}
use Rattle.rows.proofs.Taking.{is_taken, start_accepted, Grown, grown}

-- The one pass of a recipe, started and with the rows above the first that is taken passed over.
pub record Begun (a : Operand) (w h : ℕ) (pixels : List ℕ) (s : Pass) : Type 0 where
  pub streamed : Streamed a.filter (picture w h pixels) (a.known.column_order / 2) s.state s.cells.now
  pub left : s.left ≡ a.known.row_order / 2
  pub weight : s.weight ≡ a.known.gain
  pub wide : length s.row.now ≡ w + a.known.row_order

module _ (a b : Operand) (w h : ℕ) (pixels : List ℕ) (front all : ℕ) (ok : BothAccepted a b (picture w h pixels) front all) where
  -- the picture is accepted with each recipe
  pub first_accepted_lem : AcceptedPicture (recipe a.filter) (picture w h pixels)
  first_accepted_lem = is_accepted_picture (recipe a.filter) (picture w h pixels) ok.first

  pub second_accepted_lem : AcceptedPicture (recipe b.filter) (picture w h pixels)
  second_accepted_lem = is_accepted_picture (recipe b.filter) (picture w h pixels) ok.second

  -- and these are its grown sizes
  pub first_grown : Grown (recipe a.filter) (picture w h pixels) a.known
  first_grown = grown (recipe a.filter) (picture w h pixels) a.known ok.first_known first_accepted_lem.sides

  pub second_grown : Grown (recipe b.filter) (picture w h pixels) b.known
  second_grown = grown (recipe b.filter) (picture w h pixels) b.known ok.second_known second_accepted_lem.sides

  -- the first recipe's cells lie inside
  pub front_inside : front ≤ all
  front_inside = omega (arith, ok.middle, ok.cells)

  -- a start of each recipe, on its own cells, is accepted, and the rows above are not more than there are
  pub first_starts : (n : ℕ) → n ≡ front → first (start_checks (recipe a.filter) w h n) ≡ 0
  first_starts n e = start_accepted (recipe a.filter) (picture w h pixels) n ok.first (omega (arith, ok.middle))

  pub second_starts : (n : ℕ) → n + front ≡ all → first (start_checks (recipe b.filter) w h n) ≡ 0
  second_starts n e = start_accepted (recipe b.filter) (picture w h pixels) n ok.second (omega (arith, ok.middle, ok.cells))

  pub first_above : a.known.column_order / 2 ≤ full_height_of (recipe a.filter) h
  unfolding full_height_of
  first_above = omega (arith, ok.first_known.column_reach)

  pub second_above : b.known.column_order / 2 ≤ full_height_of (recipe b.filter) h
  unfolding full_height_of
  second_above = omega (arith, ok.second_known.column_reach)

  -- the product of the weights
  product_is : a.known.gain * b.known.gain ≡ gain (recipe a.filter) * gain (recipe b.filter)
  product_is = ap₂ ◌*◌ ok.first_known.weight ok.second_known.weight

  product_positive : 0 < a.known.gain * b.known.gain
  product_positive = omega (arith, product_is, mul-pos ok.first_known.accepted.not_zero ok.second_known.accepted.not_zero)

  pub product_small : a.known.gain * b.known.gain ≤ 2 ^ 44
  product_small = omega (arith, product_is, ok.light)

  -- both one passes, started and with the rows above passed over
  module _ (s t : Pass) (st : Begun a w h pixels s) (tt : Begun b w h pixels t) where
    pub both_taken : (by : Divisor) → by ≡ divisor (a.known.gain * b.known.gain) → BothTaken s t by pixels
    both_taken by is =
        let k = ok.first_known in
        let l = ok.second_known in
        record {
          first =
              is_taken a.filter w h pixels _ s.state s.cells.now st.streamed s.left s.row.now first_accepted_lem (ap (λ n. n / 2) k.column_reach)
              (st.left ∙ ap (λ n. n / 2) k.row_reach) (st.wide ∙ first_grown.wide);
          second =
              is_taken b.filter w h pixels _ t.state t.cells.now tt.streamed t.left t.row.now second_accepted_lem (ap (λ n. n / 2) l.column_reach)
              (tt.left ∙ ap (λ n. n / 2) l.row_reach) (tt.wide ∙ second_grown.wide);
          same_width = ap (λ (x : State). x.width) tt.streamed.is ∙ sym (ap (λ (x : State). x.width) st.streamed.is);
          same_height = ap (λ (x : State). x.height) tt.streamed.is ∙ sym (ap (λ (x : State). x.height) st.streamed.is);
          a_gain = st.weight ∙ k.weight ∙ ap (λ (x : State). gain (recipe x.filter)) (sym st.streamed.is);
          b_gain = tt.weight ∙ l.weight ∙ ap (λ (x : State). gain (recipe x.filter)) (sym tt.streamed.is);
          divides =
              record {
                not_zero = subst (λ n. 0 < n) (sym (ap₂ ◌*◌ st.weight tt.weight)) product_positive;
                light = subst (λ n. n ≤ 2 ^ 44) (sym (ap₂ ◌*◌ st.weight tt.weight)) product_small;
                is = is ∙ ap divisor (sym (ap₂ ◌*◌ st.weight tt.weight));
              };
        }

    -- the size and the differences, by the states
    pub size_by_state : w * h ≡ s.state.width * s.state.height
    size_by_state = ap (λ (x : State). x.width * x.height) (sym st.streamed.is)

    pub made_by_state : (out : List ℤ)
        → out ≡ places (picture_of s.state pixels) (difference (recipe s.state.filter) (recipe t.state.filter) (picture_of s.state pixels))
        → out ≡ places (picture w h pixels) (difference (recipe a.filter) (recipe b.filter) (picture w h pixels))
    made_by_state out e =
        e
        ∙ ap₂ (λ (x y : State). places (picture_of x pixels) (difference (recipe x.filter) (recipe y.filter) (picture_of x pixels))) st.streamed.is tt.streamed.is
