-- The first condition that holds, in a list of conditions and in a part of it, and what is known of a recipe that is accepted.
-- Assumes nothing.
use mathlib.Core.Path.{◌≡◌, refl, sym, ap, ap₂, ◌∙◌}
use mathlib.Core.Bool.{Bool, true, false, not, cond, ◌||◌, true≢false}
use mathlib.Core.List.{List, [], ◌∷◌, ◌++◌}
use Prim.Native.Nat.{ℕ, zero, suc, ◌*◌, ◌^◌, ◌≤◌, ◌<◌}
use native.Mathlib.Nat.{pos_of_ne-zero}
use native.Mathlib.Omega.{arith}
use lib.Dec.{eqb, ltb}
use lib.ListN.{length, take, drop}
use borrow.Author.Tests.{lt-ltb, le-ltb, eq-eqb, ne_eqb, ltb-false, eqb-false, eqb-true}
use Rattle.spec.specs.Recipe.{Recipe, order, weight, gain}
use Rattle.spec.specs.Picture.{Picture, full_width_of, full_height_of}
use Rattle.spec.specs.Refusals.{Check, check, first, either, accepted, refused, answer, lent, bad_side, bad_sides, other_pixels, other_output, too_few_cells, Written, too_long, zero_width, too_far, too_heavy, recipe_checks, size_checks, picture_checks}
use Rattle.laws.proofs.Lists.{product_zero}
use Rattle.laws.proofs.Numbers.{zero_factor, neither}

-- every condition of a list has a number that is not 0
abbrev pub Numbered : List Check → Type 0
Numbered [] = Unit {0}
Numbered (c ∷ cs) = (0 < c.number) × Numbered cs

-- a refusal by the front of a list is one by the whole; where the front does not refuse, the rest decides
pub first_front : (cs ds : List Check) (n : ℕ) → first cs ≡ n → (n ≡ 0 → ⊥) → first (cs ++ ds) ≡ n
unfolding first
first_front [] ds n e h = absurd (h (sym e))
first_front (c ∷ cs) ds n e h = go c.holds e (λ p. first_front cs ds n p h)
  where
    go : (b : Bool) → cond b c.number (first cs) ≡ n → (first cs ≡ n → first (cs ++ ds) ≡ n) → cond b c.number (first (cs ++ ds)) ≡ n
    go true p next = p
    go false p next = next p

pub first_rest : (cs ds : List Check) → Numbered cs → first cs ≡ 0 → first (cs ++ ds) ≡ first ds
unfolding first
first_rest [] ds k e = refl
first_rest (c ∷ cs) ds k e = go c.holds e (first_rest cs ds k.1)
  where
    go : (b : Bool) → cond b c.number (first cs) ≡ 0 → (first cs ≡ 0 → first (cs ++ ds) ≡ first ds)
        → cond b c.number (first (cs ++ ds)) ≡ first ds
    go true p next = absurd (omega (arith, k.0))
    go false p next = next p

pub none_both : (cs ds : List Check) → Numbered cs → first (cs ++ ds) ≡ 0 → (first cs ≡ 0) × (first ds ≡ 0)
unfolding first
none_both [] ds k e = (refl, e)
none_both (c ∷ cs) ds k e = go c.holds e (none_both cs ds k.1)
  where
    go : (b : Bool) → cond b c.number (first (cs ++ ds)) ≡ 0 → (first (cs ++ ds) ≡ 0 → (first cs ≡ 0) × (first ds ≡ 0))
        → (cond b c.number (first cs) ≡ 0) × (first ds ≡ 0)
    go true p next = absurd (omega (arith, k.0))
    go false p next = next p

-- the answer and what a lent slice contains, on a refusal and on acceptance
pub answer_refused : {A : Type 0} (cs : List Check) (a : A) (n : ℕ) → first cs ≡ n → (n ≡ 0 → ⊥) → answer cs a ≡ refused n
unfolding answer either
answer_refused cs a zero e h = absurd (h refl)
answer_refused cs a (suc n) e h = rw e refl

pub answer_accepted : {A : Type 0} (cs : List Check) (a : A) → first cs ≡ 0 → answer cs a ≡ accepted a
unfolding answer either
answer_accepted cs a e = rw e refl

pub lent_refused : {A : Type 0} (cs : List Check) (new old : A) (n : ℕ) → first cs ≡ n → (n ≡ 0 → ⊥) → lent cs new old ≡ old
unfolding lent either
lent_refused cs new old zero e h = absurd (h refl)
lent_refused cs new old (suc n) e h = rw e refl

pub lent_accepted : {A : Type 0} (cs : List Check) (new old : A) → first cs ≡ 0 → lent cs new old ≡ new
unfolding lent either
lent_accepted cs new old e = rw e refl

-- what an answer that is a refusal, or a value, says of the checks
pub read_refused : {A : Type 0} (cs : List Check) (v : A) (n : ℕ) → refused n ≡ answer cs v → (first cs ≡ n) × (n ≡ 0 → ⊥)
unfolding answer either
read_refused {A} cs v n e = go (first cs) e
  where
    go : (k : ℕ) → refused n ≡ either k (accepted v) (refused k) → (k ≡ n) × (n ≡ 0 → ⊥)
    go zero p = let z : ◌≡◌ {A = ℕ} 0 1 = cc in absurd (omega arith)
    go (suc k) p = let q : suc k ≡ n = cc in (q, λ z. omega arith)

pub read_accepted : {A : Type 0} (cs : List Check) (v a : A) → accepted a ≡ answer cs v → (first cs ≡ 0) × (a ≡ v)
unfolding answer either
read_accepted {A} cs v a e = go (first cs) e
  where
    go : (k : ℕ) → accepted a ≡ either k (accepted v) (refused k) → (k ≡ 0) × (a ≡ v)
    go zero p = (refl, cc)
    go (suc k) p = let z : ◌≡◌ {A = ℕ} 0 1 = cc in absurd (omega arith)

-- none of a list of conditions holds
pub first_none : (b : Bool) (n : ℕ) (cs : List Check) → first (check b (suc n) ∷ cs) ≡ 0 → (b ≡ false) × (first cs ≡ 0)
unfolding first check
first_none true n cs e = absurd (omega arith)
first_none false n cs e = (refl, e)

-- a recipe to which none of 1 to 4 applies
pub record Accepted (r : Recipe) : Type 0 where
  pub rows_short : length r.rows ≤ 48
  pub columns_short : length r.columns ≤ 48
  pub not_zero : 0 < gain r
  pub row_reach : order r.rows ≤ 255
  pub column_reach : order r.columns ≤ 255
  pub light : gain r ≤ 2 ^ 44

pub is_accepted : (r : Recipe) → first (recipe_checks r) ≡ 0 → Accepted r
unfolding recipe_checks too_long zero_width too_far too_heavy weight gain
is_accepted r e =
    let one = first_none (too_long r) 0 _ e in
    let two = first_none (zero_width r) 1 _ one.1 in
    let three = first_none (too_far r) 2 _ two.1 in
    let four = first_none (too_heavy r) 3 _ three.1 in
    let lengths = neither (ltb 48 (length r.rows)) (ltb 48 (length r.columns)) one.0 in
    let reaches = neither (ltb 255 (order r.rows)) (ltb 255 (order r.columns)) three.0 in
    let zeros : eqb (weight r.rows * weight r.columns) 0 ≡ false =
    sym (ap₂ ◌||◌ (product_zero r.rows) (product_zero r.columns) ∙ zero_factor (weight r.rows) (weight r.columns)) ∙ two.0 in
    record {
      rows_short = ltb-false 48 (length r.rows) lengths.0;
      columns_short = ltb-false 48 (length r.columns) lengths.1;
      not_zero = pos_of_ne-zero (eqb-false (weight r.rows * weight r.columns) 0 zeros);
      row_reach = ltb-false 255 (order r.rows) reaches.0;
      column_reach = ltb-false 255 (order r.columns) reaches.1;
      light = ltb-false (2 ^ 44) (gain r) four.0;
    }

pub accepted_none : (r : Recipe) → Accepted r → first (recipe_checks r) ≡ 0
unfolding first check recipe_checks too_long zero_width too_far too_heavy weight gain
accepted_none r k =
    let zeros = ap₂ ◌||◌ (product_zero r.rows) (product_zero r.columns) ∙ zero_factor (weight r.rows) (weight r.columns)
    ∙ ne_eqb (weight r.rows * weight r.columns) 0 (λ e. omega (arith, k.not_zero)) in
    rw (
      le-ltb 48 (length r.rows) k.rows_short,
      le-ltb 48 (length r.columns) k.columns_short,
      zeros,
      le-ltb 255 (order r.rows) k.row_reach,
      le-ltb 255 (order r.columns) k.column_reach,
      le-ltb (2 ^ 44) (gain r) k.light,
    ) refl

pub recipe_numbered : (r : Recipe) → Numbered (recipe_checks r)
unfolding recipe_checks check
recipe_numbered r = (omega arith, (omega arith, (omega arith, (omega arith, tt))))

-- one condition more, after a list of which none holds
pub first_then : (cs : List Check) (b : Bool) (n : ℕ) → Numbered cs → first cs ≡ 0 → first (cs ++ check b n ∷ []) ≡ cond b n 0
unfolding first check
first_then cs b n k e = first_rest cs (check b n ∷ []) k e

-- a side that is not refused
pub good_side : (n : ℕ) → bad_side n ≡ false → (0 < n) × (n ≤ 1024)
unfolding bad_side
good_side n e =
    let h = neither (eqb n 0) (ltb 1024 n) e in
    (pos_of_ne-zero (eqb-false n 0 h.0), ltb-false 1024 n h.1)

pub numbered_more : (cs : List Check) (b : Bool) (n : ℕ) → Numbered cs → Numbered (cs ++ check b (suc n) ∷ [])
unfolding check
numbered_more [] b n k = (omega arith, tt)
numbered_more (c ∷ cs) b n k = (k.0, numbered_more cs b n k.1)

pub size_numbered : (r : Recipe) (w h : ℕ) → Numbered (size_checks r w h)
unfolding size_checks
size_numbered r w h = numbered_more (recipe_checks r) (bad_sides w h) 4 (recipe_numbered r)

pub picture_numbered : (r : Recipe) (p : Picture) → Numbered (picture_checks r p)
unfolding picture_checks
picture_numbered r p =
    numbered_more (size_checks r p.width p.height) (other_pixels (length p.pixels) (p.width * p.height)) 5
    (size_numbered r p.width p.height)

-- sides to which 5 does not apply
pub record Sized (w h : ℕ) : Type 0 where
  pub width : (0 < w) × (w ≤ 1024)
  pub height : (0 < h) × (h ≤ 1024)

pub is_sized : (r : Recipe) (w h : ℕ) → first (size_checks r w h) ≡ 0 → Accepted r × Sized w h
unfolding size_checks bad_sides
is_sized r w h e =
    let both = none_both (recipe_checks r) _ (recipe_numbered r) e in
    let five = neither (bad_side w) (bad_side h) (first_none (bad_sides w h) 4 _ both.1).0 in
    (is_accepted r both.0, record { width = good_side w five.0; height = good_side h five.1 })

-- how wide and how high a grown picture can be
pub grown_most : (r : Recipe) (w h : ℕ) → Accepted r → Sized w h → (full_width_of r w ≤ 1279) × (full_height_of r h ≤ 1279)
unfolding full_width_of full_height_of
grown_most r w h k s = (omega (arith, k.row_reach, s.width), omega (arith, k.column_reach, s.height))

-- lengths that are as stated, and that are not; 6 and 7 ask the same
pub as_stated : (m n : ℕ) → m ≡ n → other_pixels m n ≡ false
unfolding other_pixels
as_stated m n e = ap not (eq-eqb m n e)

pub not_stated : (m n : ℕ) → (m ≡ n → ⊥) → other_pixels m n ≡ true
unfolding other_pixels
not_stated m n h = ap not (ne_eqb m n h)

pub same_length_so : (m n : ℕ) → other_pixels m n ≡ false → m ≡ n
unfolding other_pixels
same_length_so m n e = eqb-true m n (go (eqb m n) e)
  where
    go : (b : Bool) → not b ≡ false → b ≡ true
    go true p = refl
    go false p = absurd (true≢false p)

-- a recipe and a picture to which none of 1 to 6 applies
pub record AcceptedPicture (r : Recipe) (p : Picture) : Type 0 where
  pub recipe : Accepted r
  pub sides : Sized p.width p.height
  pub size : length p.pixels ≡ p.width * p.height

pub is_accepted_picture : (r : Recipe) (p : Picture) → first (picture_checks r p) ≡ 0 → AcceptedPicture r p
unfolding picture_checks
is_accepted_picture r p e =
    let both = none_both (size_checks r p.width p.height) _ (size_numbered r p.width p.height) e in
    let five = is_sized r p.width p.height both.0 in
    let six = (first_none (other_pixels (length p.pixels) (p.width * p.height)) 5 _ both.1).0 in
    record { recipe = five.0; sides = five.1; size = same_length_so (length p.pixels) (p.width * p.height) six }

-- The checks of a call on a picture, and others after them: by the recipe and the sides, by the pixels, or by the others.
module _ (r : Recipe) (p : Picture) where
  pub picture_sides : (ds : List Check) (n : ℕ) → first (size_checks r p.width p.height) ≡ n → (n ≡ 0 → ⊥) → first (picture_checks r p ++ ds) ≡ n
  unfolding picture_checks
  picture_sides ds n e h = first_front (picture_checks r p) ds n (first_front (size_checks r p.width p.height) _ n e h) h

  six : first (size_checks r p.width p.height) ≡ 0
      → first (picture_checks r p) ≡ cond (other_pixels (length p.pixels) (p.width * p.height)) 6 0
  unfolding picture_checks
  six z = first_then (size_checks r p.width p.height) _ 6 (size_numbered r p.width p.height) z

  pub picture_pixels : (ds : List Check) → first (size_checks r p.width p.height) ≡ 0 → (length p.pixels ≡ p.width * p.height → ⊥)
      → first (picture_checks r p ++ ds) ≡ 6
  picture_pixels ds z h =
      first_front (picture_checks r p) ds 6 (six z ∙ ap (λ b. cond b 6 0) (not_stated (length p.pixels) (p.width * p.height) h)) (λ e. omega arith)

  pub picture_passed : first (size_checks r p.width p.height) ≡ 0 → length p.pixels ≡ p.width * p.height → first (picture_checks r p) ≡ 0
  picture_passed z e = six z ∙ ap (λ b. cond b 6 0) (as_stated (length p.pixels) (p.width * p.height) e)

  pub picture_rest : (ds : List Check) → first (size_checks r p.width p.height) ≡ 0 → length p.pixels ≡ p.width * p.height
      → first (picture_checks r p ++ ds) ≡ first ds
  picture_rest ds z e = first_rest (picture_checks r p) ds (picture_numbered r p) (picture_passed z e)

-- a picture that is accepted with one recipe is accepted with every accepted recipe
pub picture_other : (a b : Recipe) (p : Picture) → first (recipe_checks a) ≡ 0 → first (picture_checks b p) ≡ 0 → first (picture_checks a p) ≡ 0
unfolding picture_checks size_checks
picture_other a b p z e =
    let six = none_both (size_checks b p.width p.height) _ (size_numbered b p.width p.height) e in
    let five = none_both (recipe_checks b) _ (recipe_numbered b) six.0 in
    let sides = first_then (recipe_checks a) _ 5 (recipe_numbered a) z ∙ ap (λ c. cond c 5 0) (first_none _ 4 _ five.1).0 in
    picture_passed a p sides (is_accepted_picture b p e).size

-- a call that makes something: on a refusal nothing is written; otherwise all is
module _ {A : Type 0} (cs : List Check) (made : A) (needed : ℕ) (out : A) (cells : List ℕ) where
  pub written_not : (n : ℕ) → first cs ≡ n → (n ≡ 0 → ⊥) → Written cs made needed out cells n out cells
  written_not n e h = record { answer = sym e; output = sym (lent_refused cs _ out n e h); work = sym (lent_refused cs _ cells n e h); count = refl }

  pub written_all : first cs ≡ 0 → (new_out : A) (new_cells : List ℕ) → new_out ≡ made → new_cells ≡ take needed new_cells ++ drop needed cells
      → length new_cells ≡ length cells → Written cs made needed out cells 0 new_out new_cells
  written_all e new_out new_cells m w n =
      record { answer = sym e; output = m ∙ sym (lent_accepted cs made out e); work = w ∙ sym (lent_accepted cs _ cells e); count = n }

-- 7 and 8, with other checks after them
module _ (ds : List Check) where
  pub by_output : (out stated : ℕ) → (out ≡ stated → ⊥) → first (check (other_output out stated) 7 ∷ ds) ≡ 7
  unfolding first check other_output other_pixels
  by_output out stated h = ap (λ b. cond b 7 (first ds)) (not_stated out stated h)

  pub after_output : (out stated : ℕ) → out ≡ stated → first (check (other_output out stated) 7 ∷ ds) ≡ first ds
  unfolding first check other_output other_pixels
  after_output out stated e = ap (λ b. cond b 7 (first ds)) (as_stated out stated e)

  -- for two outputs of one stated length, in their order
  pub by_outputs : (out second stated : ℕ) → (out ≡ stated → ⊥) → first (check (other_output out stated || other_output second stated) 7 ∷ ds) ≡ 7
  unfolding first check other_output other_pixels
  by_outputs out second stated h = ap (λ b. cond (b || other_output second stated) 7 (first ds)) (not_stated out stated h)

  pub by_second_output : (out second stated : ℕ) → out ≡ stated → (second ≡ stated → ⊥)
      → first (check (other_output out stated || other_output second stated) 7 ∷ ds) ≡ 7
  unfolding first check other_output other_pixels
  by_second_output out second stated e h = ap₂ (λ a b. cond (a || b) 7 (first ds)) (as_stated out stated e) (not_stated second stated h)

  pub after_outputs : (out second stated : ℕ) → out ≡ stated → second ≡ stated
      → first (check (other_output out stated || other_output second stated) 7 ∷ ds) ≡ first ds
  unfolding first check other_output other_pixels
  after_outputs out second stated e f = ap₂ (λ a b. cond (a || b) 7 (first ds)) (as_stated out stated e) (as_stated second stated f)

  pub by_cells : (cells needed : ℕ) → cells < needed → first (check (too_few_cells cells needed) 8 ∷ ds) ≡ 8
  unfolding first check too_few_cells
  by_cells cells needed h = ap (λ b. cond b 8 (first ds)) (lt-ltb cells needed h)

  pub after_cells : (cells needed : ℕ) → needed ≤ cells → first (check (too_few_cells cells needed) 8 ∷ ds) ≡ first ds
  unfolding first check too_few_cells
  after_cells cells needed h = ap (λ b. cond b 8 (first ds)) (le-ltb cells needed h)
