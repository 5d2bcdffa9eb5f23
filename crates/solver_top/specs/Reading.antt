-- For private clauses: what is told of an input that gave no value.
use Rattle.std.specs.Prelude.{ℕ, List}
use Rattle.solver_top.specs.declared.refusals.Unread.{Unread}
use Rattle.solver_top.specs.declared.refusals.Unread.TheVariants.{Refused, NoMemory}
use Rattle.solver_top.specs.Bundles.{HasRefusal}

-- the refusal is the first one of the input; want of memory says nothing
abbrev pub TellsBundle : List ℕ → Unread → Type 0
TellsBundle input (Refused refusal) = HasRefusal input refusal
TellsBundle input NoMemory = Unit {0}
