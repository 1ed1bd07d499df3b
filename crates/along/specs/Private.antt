-- Words for the contracts of private functions; no exported contract uses them: what each sweep makes of a row.
use Rattle.std.specs.Prelude.{ℕ, zero, suc, ◌+◌, ◌-◌, ◌%◌, ◌^◌, cond, List, [], ◌∷◌, length, nat_le}
use Rattle.spec.specs.Words.{tab, total}
use Rattle.laws.proofs.Kernels.{at}
use Rattle.laws.proofs.Sequences.{running}
use Rattle.laws.proofs.Cascades.{spread}
use Rattle.along.specs.Along.{wide}

-- a step so many times
unfoldable pub repeat : {A : Type 0} → ℕ → (A → A) → A → A
repeat zero f x = x
repeat (suc c) f x = repeat c f (f x)

-- what a stage makes of a row: of each value by what it is there, and what it is after that
unfoldable pub swept : {S A : Type 0} → (S → A → A) → (S → A → S) → S → List A → List A
swept made after s [] = []
swept made after s (x ∷ xs) = made s x ∷ swept made after (after s x) xs

-- what a stage is after a row
unfoldable pub carried : {S A : Type 0} → (S → A → S) → S → List A → S
carried after s [] = s
carried after s (x ∷ xs) = carried after (after s x) xs

-- a box of width 2, modulo m
unfoldable pub paired : ℕ → List ℕ → List ℕ
paired m xs = tab (length xs) (λ k. spread 1 2 (at xs) k % m)

-- running totals
unfoldable pub totalled : List ℕ → List ℕ
totalled xs = tab (length xs) (λ k. running (at xs) k % 2 ^ 64)

-- a difference modulo 2^64
unfoldable pub minus : ℕ → ℕ → ℕ
minus a b = (a + (2 ^ 64 - b)) % 2 ^ 64

-- from each value the one n places earlier taken away
unfoldable pub less_earlier : ℕ → List ℕ → ℕ → ℕ
less_earlier n xs k = cond (nat_le n k) (minus (at xs k) (at xs (k - n))) (at xs k)

unfoldable pub differences : ℕ → List ℕ → List ℕ
differences n xs = tab (length xs) (less_earlier n xs)

-- differences for each wide width of a list
unfoldable pub wide_boxes : List ℕ → List ℕ → List ℕ
wide_boxes [] xs = xs
wide_boxes (n ∷ ns) xs = wide_boxes ns (cond (wide n) (differences n xs) xs)

-- how many widths of a list are wide
unfoldable pub wides : List ℕ → ℕ
wides ns = total (λ n. cond (wide n) 1 0) ns
