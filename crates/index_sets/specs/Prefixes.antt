-- Which list begins which. `IsPrefix xs ys`: there is a list that makes ys where it stands after xs.
use Rattle.std.specs.Prelude.{nat_lt, if◌then◌else◌, List, length}
pub use mathlib.Core.List.{IsPrefix}

-- the longer of the two, and the first where they are as long
abbrev pub longer : {T : Type 0} → (xs ys : List T) → List T
longer xs ys = if nat_lt (length xs) (length ys) then ys else xs
