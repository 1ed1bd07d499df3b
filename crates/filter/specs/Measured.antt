-- What measuring a recipe answers.
use Rattle.spec.specs.Recipe.{Recipe, order, gain}
use Rattle.filter.specs.declared.checks.Measures.{Measures}

-- the weight and both reaches
abbrev pub measured : Recipe → Measures
measured r = record { gain = gain r; row_order = order r.rows; column_order = order r.columns }
