-- The name of a generated instance. (This project's own.)
use Rattle.std.specs.Prelude.{ℕ, List, ◌++◌, codes}
use Rattle.std.specs.Fmt.{decimal}
use Rattle.generator.specs.declared.kinds.Kind.{Kind}
use Rattle.generator.specs.declared.kinds.Kind.TheVariants.{Scatter, Grid, Ring, Wide}

abbrev pub kind_word : Kind → List ℕ
kind_word Scatter = codes "scatter"
kind_word Grid = codes "grid"
kind_word Ring = codes "ring"
kind_word Wide = codes "wide"

-- its kind, its count and its seed, with a dash between
abbrev pub made_name : Kind → (n seed : ℕ) → List ℕ
made_name kind n seed = kind_word kind ++ codes "-" ++ decimal n ++ codes "-" ++ decimal seed
