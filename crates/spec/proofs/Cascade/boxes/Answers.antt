use Rattle.std.proofs.Common.{rules, arith, ◌≡◌, take, ℕ, ◌≤◌, length, min, zero, suc, List, [], ◌∷◌, refl, sym, ap, get_or, ◌∙◌}
use native.Mathlib.Nat.{zero-add}
use Rattle.spec.specs.Words.{tab, part}
use Rattle.spec.specs.Recipe.{widths}
use Rattle.spec.proofs.Cascade.boxes.Goals as goal

-- the first of a list made by a rule
take_tab : (m n : ℕ) (f : ℕ → ℕ) → take m (tab n f) ≡ tab (min n m) f
unfolding tab
take_tab zero n f = fewer 0 (min n 0) (omega arith)
  where
    fewer : (a b : ℕ) → a ≡ b → tab a f ≡ tab b f
    fewer a b e = ap (λ k. tab k f) e
take_tab (suc m) zero f = ap (λ k. tab k f) (none (omega arith))
  where
    none : min 0 (suc m) ≡ 0 → 0 ≡ min 0 (suc m)
    none e = sym e
take_tab (suc m) (suc n) f = ap (λ xs. f 0 ∷ xs) (take_tab m n (λ k. f (suc k))) ∙ ap (λ k. tab k f) (sym both)
  where
    both : min (suc n) (suc m) ≡ suc (min n m)
    both = omega arith

-- the first entries of a list, by the rule that reads it
tab_entries : (n : ℕ) (xs : List ℕ) → n ≤ length xs → tab n (λ k. get_or xs k 0) ≡ take n xs
unfolding tab
tab_entries zero xs h = refl
tab_entries (suc n) [] h = absurd (omega arith)
tab_entries (suc n) (x ∷ xs) h = ap (λ ys. x ∷ ys) (tab_entries n xs (omega arith))

pub returns : goal.returns
unfolding widths part
returns c =
    let n = c.args.self.now.count in
    let ws = c.args.self.now.widths in
    ap (λ m. take m ws) (c.min-end.ensures ∙ ap (λ m. min m 48) c.from.ensures)
    ∙ sym (tab_entries (min n 48) ws (search rules))
    ∙ sym (take_tab 48 n (λ k. get_or ws k 0))
    ∙ (λ i. take 48 (tab n (λ k. get_or ws (sym (zero-add k) i) 0)))
