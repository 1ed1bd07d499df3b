-- Demand 3: when two recipes are equal.
use Rattle.std.specs.Prelude.{◌≡◌, Bool, not, ◌&&◌, List, ◌++◌, ℕ, eqb}
use Rattle.spec.specs.Words.{everywhere, keep, occurs}
use Rattle.spec.specs.Recipe.{Recipe}

-- a list with widths of 1 struck out
unfoldable pub struck : List ℕ → List ℕ
struck ns = keep (λ n. not (eqb n 1)) ns

-- with widths of 1 struck out, every width occurs as often in the one list as in the other
unfoldable pub same_counts : List ℕ → List ℕ → Bool
same_counts ns ms = everywhere (λ n. eqb (occurs n (struck ns)) (occurs n (struck ms))) (struck ns ++ struck ms)

-- Equal recipes: so in the row lists, and so in the column lists.
unfoldable pub equivalent : Recipe → Recipe → Bool
equivalent a b = same_counts a.rows b.rows && same_counts a.columns b.columns

-- The same as a statement: in each list every width occurs as often in the one recipe as in the other.
pub record SameCounts (a b : Recipe) : Type 0 where
  pub rows : (n : ℕ) → occurs n (struck a.rows) ≡ occurs n (struck b.rows)
  pub columns : (n : ℕ) → occurs n (struck a.columns) ≡ occurs n (struck b.columns)
