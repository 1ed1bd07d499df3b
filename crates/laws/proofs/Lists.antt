-- Lists made by a rule, totals and products over the front of a list, and where a test holds in a list.
-- Assumes nothing.
use mathlib.Core.Path.{◌≡◌, refl, sym, ap, ap₂, ◌∙◌}
use mathlib.Core.Bool.{Bool, false, ◌||◌, or_assoc, or-false}
use mathlib.Core.List.{List, [], ◌∷◌, ◌++◌, map}
use Prim.Native.Nat.{ℕ, zero, suc, ◌+◌, ◌*◌, ◌≤◌, ◌<◌, suc-le-suc}
use native.Mathlib.Nat.{zero-add, le_of_suc-le-suc, not-suc-le-zero, zero-lt-suc, mul-zero, mul-one, mul-add, mul_comm, mul_assoc, le_refl, le_trans, le_of_eq, le-mul_of_pos_right, mul-le-mul}
use native.Mathlib.Numerals.{add-one}
use native.Mathlib.Omega.{arith}
use lib.Dec.{eqb}
use lib.ListN.{length, get_or, take, drop, replicate, length-drop, get_or-eq_default}
use lib.Seq.{ext_get_or, get_or-take, get_or-drop, length-take-le, take-suc}
use Rattle.laws.proofs.Numbers.{zero_factor, neither}
use Rattle.spec.specs.Words.{tab, part, total, product, somewhere}

module _ {A : Type 0} where
  pub length_tab : (n : ℕ) (f : ℕ → A) → length (tab n f) ≡ n
  unfolding tab
  length_tab zero f = refl
  length_tab (suc n) f = ap suc (length_tab n (λ k. f (suc k)))

  -- what stands in a list made by a rule, and past its end
  pub get_d_tab : (n : ℕ) (f : ℕ → A) (k : ℕ) (d : A) → k < n → get_or (tab n f) k d ≡ f k
  unfolding tab
  get_d_tab zero f k d h = absurd (not-suc-le-zero h)
  get_d_tab (suc n) f zero d h = refl
  get_d_tab (suc n) f (suc k) d h = get_d_tab n (λ j. f (suc j)) k d (le_of_suc-le-suc h)

  pub get_d_tab_past : (n : ℕ) (f : ℕ → A) (k : ℕ) (d : A) → n ≤ k → get_or (tab n f) k d ≡ d
  get_d_tab_past n f k d h = get_or-eq_default (tab n f) d (rw length_tab h)

  -- two rules that agree make the same list
  pub tab_agree : (n : ℕ) (f g : ℕ → A) → ((k : ℕ) → k < n → f k ≡ g k) → tab n f ≡ tab n g
  unfolding tab
  tab_agree zero f g e = refl
  tab_agree (suc n) f g e = ap₂ ◌∷◌ (e 0 (zero-lt-suc n)) (tab_agree n (λ k. f (suc k)) (λ k. g (suc k)) (λ k h. e (suc k) (suc-le-suc h)))

  -- one entry more
  pub tab_more : (n : ℕ) (f : ℕ → A) → tab (suc n) f ≡ tab n f ++ f n ∷ []
  unfolding tab
  tab_more zero f = refl
  tab_more (suc n) f = ap (λ l. f 0 ∷ l) (tab_more n (λ k. f (suc k)))

  -- a list is made by the rule that reads it, and each entry under a function by the rule that reads it and applies that
  pub tab_get_d : (d : A) (xs : List A) → tab (length xs) (λ k. get_or xs k d) ≡ xs
  unfolding tab
  tab_get_d d [] = refl
  tab_get_d d (x ∷ xs) = ap (λ l. x ∷ l) (tab_get_d d xs)

  pub tab_map : {B : Type 0} (f : A → B) (d : A) (xs : List A) → tab (length xs) (λ k. f (get_or xs k d)) ≡ map f xs
  unfolding tab
  tab_map f d [] = refl
  tab_map f d (x ∷ xs) = ap (λ l. f x ∷ l) (tab_map f d xs)

  -- the same entry everywhere
  pub tab_replicate : (n : ℕ) (x : A) → tab n (λ k. x) ≡ replicate n x
  unfolding tab
  tab_replicate zero x = refl
  tab_replicate (suc n) x = ap (λ l. x ∷ l) (tab_replicate n x)

-- entries of a list from a place on
pub part_within : (from n : ℕ) (xs : List ℕ) → from + n ≤ length xs → part from n xs ≡ take n (drop from xs)
unfolding part
part_within from n xs h =
    let size : length (take n (drop from xs)) ≡ n = length-take-le n (drop from xs) (omega (arith, length-drop from xs)) in
    ext_get_or 0 (tab n (λ k. get_or xs (from + k) 0)) (take n (drop from xs))
    (length_tab n (λ k. get_or xs (from + k) 0) ∙ sym size)
    (λ k l.
    let m : k < n = rw length_tab at l in
    get_d_tab n (λ i. get_or xs (from + i) 0) k 0 m ∙ sym (get_or-take n (drop from xs) k 0 m ∙ get_or-drop from xs k 0))

-- the first entries of a list
pub part_take : (n : ℕ) (xs : List ℕ) → n ≤ length xs → part 0 n xs ≡ take n xs
part_take n xs h = part_within 0 n xs (omega arith)

pub length_part : (from n : ℕ) (xs : List ℕ) → length (part from n xs) ≡ n
unfolding part
length_part from n xs = length_tab n (λ k. get_or xs (from + k) 0)

module _ (f : ℕ → ℕ) where
  pub total_append : (xs ys : List ℕ) → total f (xs ++ ys) ≡ total f xs + total f ys
  unfolding total
  total_append [] ys = sym (zero-add (total f ys))
  total_append (x ∷ xs) ys = omega (arith, total_append xs ys)

  -- one entry more
  pub total_more : (xs : List ℕ) (i : ℕ) → i < length xs → total f (take (i + 1) xs) ≡ total f (take i xs) + f (get_or xs i 0)
  unfolding total
  total_more xs i h = rw (add-one i, take-suc xs i 0 h) (omega (arith, total_append (take i xs) (get_or xs i 0 ∷ [])))

pub total_scale : (f : ℕ → ℕ) (c : ℕ) (xs : List ℕ) → total (λ n. c * f n) xs ≡ c * total f xs
unfolding total
total_scale f c [] = sym (mul-zero c)
total_scale f c (x ∷ xs) = ap (λ t. c * f x + t) (total_scale f c xs) ∙ sym (mul-add c (f x) (total f xs))

-- a total of terms that are at most so much
pub total_most : (f : ℕ → ℕ) (most : ℕ) → ((n : ℕ) → f n ≤ most) → (xs : List ℕ) → total f xs ≤ most * length xs
unfolding total
total_most f most h [] = omega arith
total_most f most h (x ∷ xs) = omega (arith, h x, total_most f most h xs, mul-add most 1 (length xs), mul-one most)

pub product_append : (xs ys : List ℕ) → product (xs ++ ys) ≡ product xs * product ys
unfolding product
product_append [] ys = omega arith
product_append (x ∷ xs) ys = ap (λ p. x * p) (product_append xs ys) ∙ sym (mul_assoc x (product xs) (product ys))

pub product_more : (xs : List ℕ) (i : ℕ) → i < length xs → product (take (i + 1) xs) ≡ product (take i xs) * get_or xs i 0
unfolding product
product_more xs i h =
    rw (add-one i, take-suc xs i 0 h)
    (product_append (take i xs) (get_or xs i 0 ∷ []) ∙ ap (λ p. product (take i xs) * p) (mul-one (get_or xs i 0)))

-- where a test holds: in one entry more of a list, and nowhere
module _ {A : Type 0} (p : A → Bool) where
  somewhere_append : (xs ys : List A) → somewhere p (xs ++ ys) ≡ (somewhere p xs || somewhere p ys)
  unfolding somewhere
  somewhere_append [] ys = refl
  somewhere_append (x ∷ xs) ys = ap (λ b. p x || b) (somewhere_append xs ys) ∙ sym (or_assoc (p x) (somewhere p xs) (somewhere p ys))

  pub somewhere_more : (d : A) (xs : List A) (i : ℕ) → i < length xs → somewhere p (take (i + 1) xs) ≡ (somewhere p (take i xs) || p (get_or xs i d))
  unfolding somewhere
  somewhere_more d xs i h =
      rw (add-one i, take-suc xs i d h)
      (somewhere_append (take i xs) (get_or xs i d ∷ []) ∙ ap (λ b. somewhere p (take i xs) || b) (or-false (p (get_or xs i d))))

  pub nowhere : (d : A) (xs : List A) → somewhere p xs ≡ false → (i : ℕ) → i < length xs → p (get_or xs i d) ≡ false
  unfolding somewhere
  nowhere d [] e i h = absurd (not-suc-le-zero h)
  nowhere d (x ∷ xs) e zero h = (neither (p x) (somewhere p xs) e).0
  nowhere d (x ∷ xs) e (suc i) h = nowhere d xs (neither (p x) (somewhere p xs) e).1 i (le_of_suc-le-suc h)

-- a product is 0 exactly where an entry is
pub product_zero : (xs : List ℕ) → somewhere (λ n. eqb n 0) xs ≡ eqb (product xs) 0
unfolding product somewhere
product_zero [] = refl
product_zero (x ∷ xs) = ap (λ b. eqb x 0 || b) (product_zero xs) ∙ zero_factor x (product xs)

-- a factor of a product that is not 0
pub factor_pos : (a b : ℕ) → 0 < a * b → 0 < b
factor_pos a zero h = omega (arith, mul-zero a)
factor_pos a (suc b) h = omega arith

-- the first entry and the rest of a list whose product is not 0
pub first_pos : (x : ℕ) (xs : List ℕ) → 0 < product (x ∷ xs) → 0 < x
unfolding product
first_pos x xs h = factor_pos (product xs) x (rw (mul_comm (product xs) x) h)

pub rest_pos : (x : ℕ) (xs : List ℕ) → 0 < product (x ∷ xs) → 0 < product xs
unfolding product
rest_pos x xs h = factor_pos x (product xs) h

-- the product of the front of a list is no more than the whole, where no entry is 0
pub product_front : (i : ℕ) (xs : List ℕ) → 0 < product xs → product (take i xs) ≤ product xs
unfolding product
product_front zero xs h = h
product_front (suc i) [] h = le_refl 1
product_front (suc i) (x ∷ xs) h = mul-le-mul (le_refl x) (product_front i xs (rest_pos x xs h))

-- the product of the back of a list is no more than the whole, where no entry is 0
pub product_back : (i : ℕ) (xs : List ℕ) → 0 < product xs → product (drop i xs) ≤ product xs
unfolding product
product_back zero xs h = le_refl (product xs)
product_back (suc i) [] h = le_refl 1
product_back (suc i) (x ∷ xs) h =
    le_trans (product_back i xs (rest_pos x xs h))
    (le_trans (le-mul_of_pos_right (product xs) (first_pos x xs h)) (le_of_eq (mul_comm (product xs) x)))
