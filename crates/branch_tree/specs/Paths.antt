-- For private clauses.
-- The path of branches above a node, and what is still wanted after it.
use Rattle.std.specs.Prelude.{List, [], ◌∷◌, Bool, cond}
use Rattle.plane.specs.declared.segment.Pair.{Pair}
use Rattle.tree_defs.specs.Leaves.{Sets}
use Rattle.tree_defs.specs.Trees.{root, taking, barring}
use Rattle.branch_tree.specs.declared.path.Step.{Step}

-- the sets below a step
abbrev pub child : Sets → Step → Sets
child s x = cond x.barred (barring s x.pair) (taking s x.pair)

-- the sets at the end of the path that begins at s
abbrev pub sets_of : Sets → List Step → Sets
sets_of s [] = s
sets_of s (x ∷ xs) = sets_of (child s x) xs

-- what is wanted after the end of the path: the second children of its branches, the last first
abbrev pub pending : Sets → List Sets → List Step → List Sets
pending s later [] = later
pending s later (x ∷ xs) = pending (child s x) (cond x.barred later (barring s x.pair ∷ later)) xs

-- what is wanted, with the node at the end of the path
abbrev pub wanted : List Step → List Sets
wanted path = sets_of root path ∷ pending root [] path

abbrev pub side : Bool → Sets → List Pair
side b s = cond b s.barred s.taken
