-- The general words that the definitions of document 01 are written in.
use Rattle.std.specs.Prelude.{Bool, true, false, ◌&&◌, ◌||◌, cond, List, [], ◌∷◌, ℕ, zero, suc, ◌+◌, ◌*◌, min, max, eqb, get_or}

-- f 0 + f 1 + .. + f (n - 1)
unfoldable pub sum : ℕ → (ℕ → ℕ) → ℕ
sum zero f = 0
sum (suc n) f = sum n f + f n

-- the list f 0, f 1, .., f (n - 1)
unfoldable pub tab {ℓ} : {A : Type ℓ} → ℕ → (ℕ → A) → List A
tab zero f = []
tab (suc n) f = f 0 ∷ tab n (λ k. f (suc k))

-- n entries of a list from a place on, 0 past its end
unfoldable pub part : ℕ → ℕ → List ℕ → List ℕ
part from n xs = tab n (λ k. get_or xs (from + k) 0)

-- f, added up over a list
unfoldable pub total : (ℕ → ℕ) → List ℕ → ℕ
total f [] = 0
total f (x ∷ xs) = f x + total f xs

-- the product of a list
unfoldable pub product : List ℕ → ℕ
product [] = 1
product (x ∷ xs) = x * product xs

-- whether a test holds somewhere in a list, and whether it holds everywhere
unfoldable pub somewhere {ℓ} : {A : Type ℓ} → (A → Bool) → List A → Bool
somewhere p [] = false
somewhere p (x ∷ xs) = p x || somewhere p xs

unfoldable pub everywhere {ℓ} : {A : Type ℓ} → (A → Bool) → List A → Bool
everywhere p [] = true
everywhere p (x ∷ xs) = p x && everywhere p xs

-- the entries of a list at which a test holds
unfoldable pub keep : (ℕ → Bool) → List ℕ → List ℕ
keep p [] = []
keep p (x ∷ xs) = cond (p x) (x ∷ keep p xs) (keep p xs)

-- how often a number occurs in a list
unfoldable pub occurs : ℕ → List ℕ → ℕ
occurs n xs = total (λ x. cond (eqb x n) 1 0) xs

-- the least and the greatest entry of a list
unfoldable pub least : List ℕ → ℕ
least [] = 0
least (x ∷ []) = x
least (x ∷ y ∷ ys) = min x (least (y ∷ ys))

unfoldable pub greatest : List ℕ → ℕ
greatest [] = 0
greatest (x ∷ xs) = max x (greatest xs)
