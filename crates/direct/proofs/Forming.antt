-- What forming all exact sums answers: the order of its checks, and what is known once none of them holds.
-- Assumes nothing.
use mathlib.Core.Path.{◌≡◌, refl, sym, ap, ap₂, ◌∙◌}
use mathlib.Core.Bool.{Bool, true, false, cond, ◌||◌}
use mathlib.Core.List.{List}
use Prim.Native.Nat.{ℕ, ◌+◌, ◌-◌, ◌*◌, ◌≤◌, ◌<◌}
use native.Mathlib.Nat.{le_trans, mul_comm, mul-le-mul}
use native.Mathlib.Omega.{arith}
use lib.ListN.{length}
use Rattle.std.specs.Prelude.{Result, Ok, Err}
use Rattle.spec.specs.declared.Filter.{Filter}
use Rattle.spec.specs.declared.refusal.Refusal.{Refusal}
use Rattle.spec.specs.Recipe.{Recipe, recipe, widths, kernel, order, weight, gain}
use Rattle.spec.specs.Picture.{Picture, exact, full_width_of, full_height_of, full_sides, full}
use Rattle.spec.specs.Refusals.{first, answer, number, alone, other_pixels, other_output, full_size, recipe_checks, picture_checks, kernel_checks, direct_checks}
use Rattle.laws.proofs.Numbers.{neither}
use Rattle.laws.proofs.Convolution.{ones}
use Rattle.laws.proofs.Kernels.{kernel_sum, length_kernel}
use Rattle.laws.proofs.Alone.{Light, light_alone, rows_light, columns_light}
use Rattle.laws.proofs.Inside.{axis}
use Rattle.laws.proofs.Refusals.{Accepted, AcceptedPicture, as_stated, first_none, first_front, first_then, none_both, recipe_numbered, picture_numbered, is_accepted_picture, same_length_so, lent_refused, lent_accepted}
use Rattle.laws.proofs.Results.{number_not_zero, err_told}
use Rattle.filter.specs.declared.sizes.Sides.{Sides}
use Rattle.filter.specs.Answers.{sides, size_told}
use Rattle.filter.specs.Coefficients.{KernelFilled}
use Rattle.direct.specs.Formed.{checks, Formed}
use Rattle.direct.specs.Windows.{through, window, windows, mass, Ready}
use Rattle.direct.specs.declared.points.Point.{Point}
use Rattle.direct.proofs.Sizing.{Grown}
use Rattle.direct.proofs.Weighing.{through_axis, window_exact, windows_full}

-- on a refusal nothing is written; otherwise all is
module _ (r : Recipe) (p : Picture) (rows columns out : List ℕ) where
  pub formed_refused : (n : ℕ) → first (checks r p rows columns out) ≡ n → (n ≡ 0 → ⊥)
      → Formed r p rows columns out n rows columns out
  formed_refused n e h =
      record {
        answer = sym e;
        row_slice = sym (lent_refused _ _ rows n e h);
        column_slice = sym (lent_refused _ _ columns n e h);
        out_slice = sym (lent_refused _ _ out n e h);
      }

  pub formed_all : (rs cs sums : List ℕ) → first (checks r p rows columns out) ≡ 0
      → rs ≡ kernel r.rows → cs ≡ kernel r.columns → sums ≡ full r p → Formed r p rows columns out 0 rs cs sums
  formed_all rs cs sums e a b s =
      record {
        answer = sym e;
        row_slice = a ∙ sym (lent_accepted _ _ rows e);
        column_slice = b ∙ sym (lent_accepted _ _ columns e);
        out_slice = s ∙ sym (lent_accepted _ _ out e);
      }

-- the lengths that are asked for, by the grown sides
abbrev pub AsLong : Picture → Sides → ℕ → ℕ → ℕ → Type 0
AsLong p s rows columns out = (rows ≡ s.width - p.width + 1) × (columns ≡ s.height - p.height + 1) × (out ≡ s.width * s.height)

-- a test that does not fail
not_false : (b : Bool) → (b ≡ false → ⊥) → b ≡ true
not_false true h = refl
not_false false h = absurd (h refl)

module _ (r : Recipe) (p : Picture) (rows columns out : ℕ) where
  -- 1 to 6
  pub sides_refused : (e : Refusal) → size_told (Err e) ≡ answer (picture_checks r p) (full_sides r p.width p.height)
      → number e ≡ first (direct_checks r p rows columns out)
  unfolding direct_checks
  sides_refused e told =
      let one = err_told sides (picture_checks r p) (full_sides r p.width p.height) e told in
      sym (first_front (picture_checks r p) _ (number e) one (number_not_zero e))

  -- 7, for the slices in their order
  abbrev others : Bool
  others = other_output rows (order r.rows + 1) || other_output columns (order r.columns + 1) || other_output out (full_size r p)

  module _ (s : Sides) (g : Grown r p s) where
    seven : first (direct_checks r p rows columns out) ≡ cond others 7 0
    unfolding direct_checks
    seven = first_then (picture_checks r p) others 7 (picture_numbered r p) g.none

    whole : s.width * s.height ≡ full_size r p
    unfolding full_size full_width_of full_height_of
    whole = ap₂ ◌*◌ g.width g.height

    as_long : others ≡ false → AsLong p s rows columns out
    unfolding other_output other_pixels
    as_long none =
        let last = neither (other_output rows (order r.rows + 1) || other_output columns (order r.columns + 1)) (other_output out (full_size r p)) none in
        let both = neither (other_output rows (order r.rows + 1)) (other_output columns (order r.columns + 1)) last.0 in (
          omega (arith, same_length_so rows (order r.rows + 1) both.0, g.width),
          omega (arith, same_length_so columns (order r.columns + 1) both.1, g.height),
          same_length_so out (full_size r p) last.1 ∙ sym whole,
        )

    pub lengths_refused : (AsLong p s rows columns out → ⊥) → 7 ≡ first (direct_checks r p rows columns out)
    lengths_refused h = sym (seven ∙ ap (λ b. cond b 7 0) (not_false others (λ none. h (as_long none))))

    pub lengths_accepted : AsLong p s rows columns out → 0 ≡ first (direct_checks r p rows columns out)
    unfolding other_output other_pixels
    lengths_accepted h =
        let a : other_pixels rows (order r.rows + 1) ≡ false = as_stated rows (order r.rows + 1) (omega (arith, h.0, g.width)) in
        let b : other_pixels columns (order r.columns + 1) ≡ false = as_stated columns (order r.columns + 1) (omega (arith, h.1, g.height)) in
        let c : other_pixels out (full_size r p) ≡ false = as_stated out (full_size r p) (h.2 ∙ whole) in
        let all : others ≡ false = ap₂ ◌||◌ (ap₂ ◌||◌ a b) c in
        sym (seven ∙ ap (λ (x : Bool). cond x 7 0) all)

-- what is known of a call to which none of 1 to 7 applies
pub record Called (r : Recipe) (p : Picture) (rows columns out : ℕ) : Type 0 where
  pub none : first (direct_checks r p rows columns out) ≡ 0
  pub picture : AcceptedPicture r p
  pub row_size : rows ≡ order r.rows + 1
  pub column_size : columns ≡ order r.columns + 1
  pub out_size : out ≡ full_size r p

pub is_called : (r : Recipe) (p : Picture) (rows columns out : ℕ) → 0 ≡ first (direct_checks r p rows columns out) → Called r p rows columns out
unfolding direct_checks other_pixels other_output
is_called r p rows columns out e =
    let both = none_both (picture_checks r p) _ (picture_numbered r p) (sym e) in
    let seven = (first_none _ 6 _ both.1).0 in
    let a = other_output rows (order r.rows + 1) in
    let b = other_output columns (order r.columns + 1) in
    let c = other_output out (full_size r p) in
    let last = neither (a || b) c seven in
    let both_lists = neither a b last.0 in
    record {
      none = sym e;
      picture = is_accepted_picture r p both.0;
      row_size = same_length_so rows (order r.rows + 1) both_lists.0;
      column_size = same_length_so columns (order r.columns + 1) both_lists.1;
      out_size = same_length_so out (full_size r p) last.1;
    }

-- filling in the coefficients of a list that is accepted as a recipe of its own
light_none : (ns : List ℕ) (out : ℕ) → Light ns → out ≡ order ns + 1 → first (kernel_checks ns out) ≡ 0
unfolding kernel_checks other_output other_pixels
light_none ns out l s =
    first_then (recipe_checks (alone ns)) _ 7 (recipe_numbered (alone ns)) (light_alone ns l)
    ∙ ap (λ b. cond b 7 0) (as_stated out (order ns + 1) s)

module _ (ns old new : List ℕ) (n : ℕ) (l : Light ns) (s : length old ≡ order ns + 1) (f : KernelFilled ns old n new) where
  filled_whole : new ≡ kernel ns
  filled_whole = f.slice ∙ lent_accepted _ (kernel ns) old (light_none ns (length old) l s)

  filled_zero : n ≡ 0
  filled_zero = f.answer ∙ light_none ns (length old) l s

module _ (r : Recipe) (k : Accepted r) where
  across_pos : 0 < weight r.rows
  across_pos = (rows_light r k).not_zero

  down_pos : 0 < weight r.columns
  down_pos = (columns_light r k).not_zero

-- so that neither list of an accepted recipe is refused
pub rows_not_refused : (f : Filter) (rows rs : List ℕ) (e : Refusal) → Accepted (recipe f) → length rows ≡ order (recipe f).rows + 1
    → KernelFilled (widths f.rows) rows (number e) rs → ⊥
unfolding recipe
rows_not_refused f rows rs e k s filled = number_not_zero e (filled_zero (widths f.rows) rows rs (number e) (rows_light (recipe f) k) s filled)

pub columns_not_refused : (f : Filter) (columns cs : List ℕ) (e : Refusal) → Accepted (recipe f) → length columns ≡ order (recipe f).columns + 1
    → KernelFilled (widths f.columns) columns (number e) cs → ⊥
unfolding recipe
columns_not_refused f columns cs e k s filled =
    number_not_zero e (filled_zero (widths f.columns) columns cs (number e) (columns_light (recipe f) k) s filled)

-- slices that hold R and C, for a picture of which no sum is too large
pub record Filled (r : Recipe) (p : Picture) (rs cs : List ℕ) : Type 0 where
  pub rows : rs ≡ kernel r.rows
  pub columns : cs ≡ kernel r.columns
  pub row_long : length rs ≡ order r.rows + 1
  pub column_long : length cs ≡ order r.columns + 1
  pub ready : Ready rs cs p

module _ (r : Recipe) (p : Picture) (k : AcceptedPicture r p) (rs cs : List ℕ) (a : rs ≡ kernel r.rows) (b : cs ≡ kernel r.columns) where
  row_length : length rs ≡ order r.rows + 1
  row_length = ap length a ∙ length_kernel r.rows (across_pos r k.recipe)

  column_length : length cs ≡ order r.columns + 1
  column_length = ap length b ∙ length_kernel r.columns (down_pos r k.recipe)

  row_mass_lem : mass rs ≤ weight r.rows
  unfolding mass
  row_mass_lem = rw a (kernel_sum r.rows (length (kernel r.rows)))

  column_mass_lem : mass cs ≤ weight r.columns
  unfolding mass
  column_mass_lem = rw b (kernel_sum r.columns (length (kernel r.columns)))

  hold : Filled r p rs cs
  unfolding gain
  hold =
      record {
        rows = a;
        columns = b;
        row_long = row_length;
        column_long = column_length;
        ready =
            record {
              size = k.size;
              wide = k.sides.width;
              high = k.sides.height;
              rows = (omega (arith, row_length), omega (arith, row_length, k.recipe.row_reach));
              columns = (omega (arith, column_length), omega (arith, column_length, k.recipe.column_reach));
              row_mass = le_trans row_mass_lem (rows_light r k.recipe).light;
              column_mass = le_trans column_mass_lem (columns_light r k.recipe).light;
              light = le_trans (mul-le-mul row_mass_lem column_mass_lem) k.recipe.light;
            };
      }

-- so they are once both lists of an accepted recipe are filled in
pub is_filled : (f : Filter) (p : Picture) (rows columns rs cs : List ℕ) (m n : ℕ) → AcceptedPicture (recipe f) p
    → length rows ≡ order (recipe f).rows + 1 → length columns ≡ order (recipe f).columns + 1
    → KernelFilled (widths f.rows) rows m rs → KernelFilled (widths f.columns) columns n cs → Filled (recipe f) p rs cs
unfolding recipe
is_filled f p rows columns rs cs m n k s t a b =
    hold (recipe f) p k rs cs
    (filled_whole (widths f.rows) rows rs m (rows_light (recipe f) k.recipe) s a)
    (filled_whole (widths f.columns) columns cs n (columns_light (recipe f) k.recipe) t b)

-- What is formed from them.
abbrev found : ℕ → ℕ → Result Point Refusal
found s w = Ok (record { sum = s; weight = w })

module _ (r : Recipe) (p : Picture) (k : AcceptedPicture r p) (rs cs : List ℕ) (h : Filled r p rs cs) where
  pub held_size : (out : ℕ) → out ≡ full_size r p → out ≡ (p.height + length cs - 1) * (p.width + length rs - 1)
  unfolding full_size full_width_of full_height_of
  held_size out e =
      let w : p.width + length rs - 1 ≡ p.width + order r.rows = omega (arith, h.row_long) in
      let d : p.height + length cs - 1 ≡ p.height + order r.columns = omega (arith, h.column_long) in
      e ∙ mul_comm (p.width + order r.rows) (p.height + order r.columns) ∙ sym (ap₂ ◌*◌ d w)

  pub held_full : (sums : List ℕ) → sums ≡ windows rs cs p → sums ≡ full r p
  held_full sums e = e ∙ ap₂ (λ x y. windows x y p) h.rows h.columns ∙ windows_full r p k.recipe.not_zero

  -- the sum and the weight of a window
  pub held_point : (s w i j : ℕ) → s ≡ window rs cs p i j → w ≡ through rs (ones p.width) i * through cs (ones p.height) j
      → found s w ≡ found (exact r p i j) (axis r.rows p.width i * axis r.columns p.height j)
  held_point s w i j e d =
      ap₂ found
      (e ∙ ap₂ (λ a b. window a b p i j) h.rows h.columns ∙ window_exact r p k.recipe.not_zero i j)
      (d
      ∙ ap₂ ◌*◌
      (ap (λ l. through l (ones p.width) i) h.rows ∙ through_axis r.rows (across_pos r k.recipe) p.width i)
      (ap (λ l. through l (ones p.height) j) h.columns ∙ through_axis r.columns (down_pos r k.recipe) p.height j))
