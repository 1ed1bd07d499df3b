-- Document 01, "Recipe and exact sum", its first part: the recipe, its coefficients, reaches and weight.
use Rattle.std.specs.Prelude.{List, [], ◌∷◌, ◌++◌, ℕ, suc, ◌+◌, ◌-◌, ◌*◌, length, get_or, replicate}
use Rattle.spec.specs.declared.Cascade.{Cascade}
use Rattle.spec.specs.declared.Filter.{Filter}
use Rattle.spec.specs.Words.{sum, tab, part, total, product}

-- Recipe: a row list and a column list of box widths.
pub record Recipe : Type 0 where
  pub rows : List ℕ
  pub columns : List ℕ

-- the list that a cascade holds: as many widths as its count says
unfoldable pub widths : Cascade → List ℕ
widths c = part 0 c.count c.widths

-- the recipe that a filter holds
unfoldable pub recipe : Filter → Recipe
recipe f = record { rows = widths f.rows; columns = widths f.columns }

-- a list and a recipe as a cascade and a filter hold them: zeros past the count
unfoldable pub held : List ℕ → Cascade
held ns = record { count = length ns; widths = part 0 48 ns }

unfoldable pub held_filter : Recipe → Filter
held_filter r = record { rows = held r.rows; columns = held r.columns }

-- a cascade and a filter of zeros, as they stand beside the number of a refusal
abbrev pub no_widths : Cascade
no_widths = record { count = 0; widths = replicate 48 0 }

abbrev pub no_filter : Filter
no_filter = record { rows = no_widths; columns = no_widths }

-- Box of width n: n coefficients 1, at 0 to n - 1.
unfoldable pub box : ℕ → List ℕ
box n = replicate n 1

-- two lists of coefficients convolved: at k the sum of p[a] times q[k - a] over a of 0 to k
unfoldable pub convolve : List ℕ → List ℕ → List ℕ
convolve p q = tab (length p + length q - 1) (λ k. sum (suc k) (λ a. get_or p a 0 * get_or q (k - a) 0))

-- Coefficients of a list, R or C: those of its boxes convolved; the empty list gives the single 1.
unfoldable pub kernel : List ℕ → List ℕ
kernel [] = 1 ∷ []
kernel (n ∷ ns) = convolve (box n) (kernel ns)

-- reach of a box
unfoldable pub box_order : ℕ → ℕ
box_order n = n - 1

-- Reach of a list: the sum of (n - 1).
unfoldable pub order : List ℕ → ℕ
order ns = total box_order ns

-- weight of a list: the product of its widths
unfoldable pub weight : List ℕ → ℕ
weight ns = product ns

-- Weight: the product of all widths in both lists.
unfoldable pub gain : Recipe → ℕ
gain r = weight r.rows * weight r.columns

-- Document 02: a recipe with another's lists added on the end.
unfoldable pub joined : Recipe → Recipe → Recipe
joined a b = record { rows = a.rows ++ b.rows; columns = a.columns ++ b.columns }
