-- The faults of instances and solutions in the words that are printed. (This project's own.)
use Rattle.std.specs.Prelude.{ℕ, List, ◌++◌, codes}
use Rattle.std.specs.Fmt.{decimal}
use Rattle.plane.specs.declared.segment.Pair.{Pair}
use Rattle.plane.specs.declared.coordinates.BadPoints.{BadPoints}
use Rattle.plane.specs.declared.coordinates.BadPoints.TheVariants as bad
use Rattle.instance_io.specs.declared.instances.InstanceFault.{InstanceFault}
use Rattle.instance_io.specs.declared.instances.InstanceFault.TheVariants as fault
use Rattle.solution_io.specs.declared.fault.SolutionFault.{SolutionFault}
use Rattle.solution_io.specs.declared.fault.SolutionFault.TheVariants as solution

-- a word with its space, and a number
abbrev pub numbered : List ℕ → ℕ → List ℕ
numbered word n = word ++ decimal n

abbrev pub pair_text : Pair → List ℕ
pair_text e = decimal e.lo ++ (codes "-" ++ decimal e.hi)

abbrev pub points_fault_text : BadPoints → List ℕ
points_fault_text (bad.TooFew n) = numbered (codes "TooFew ") n
points_fault_text (bad.TooMany n) = numbered (codes "TooMany ") n
points_fault_text (bad.TooFar i) = numbered (codes "TooFar ") i
points_fault_text (bad.SamePlace i j) = codes "SamePlace " ++ (decimal i ++ (codes " " ++ decimal j))
points_fault_text bad.OneLine = codes "OneLine"

-- the fault of an instance; want of memory is never printed
abbrev pub instance_fault_text : InstanceFault → List ℕ
instance_fault_text fault.NotJson = codes "NotJson"
instance_fault_text fault.NoName = codes "NoName"
instance_fault_text (fault.LongName l) = numbered (codes "LongName ") l
instance_fault_text fault.NoPoints = codes "NoPoints"
instance_fault_text (fault.BadPoint k) = numbered (codes "BadPoint ") k
instance_fault_text (fault.NotWhole k) = numbered (codes "NotWhole ") k
instance_fault_text (fault.MixedIndex k) = numbered (codes "MixedIndex ") k
instance_fault_text (fault.BadIndex k) = numbered (codes "BadIndex ") k
instance_fault_text (fault.Bad b) = points_fault_text b
instance_fault_text fault.BadCosts = codes "BadCosts"
instance_fault_text (fault.TooManyCosts k) = numbered (codes "TooManyCosts ") k
instance_fault_text (fault.BadCost k) = numbered (codes "BadCost ") k
instance_fault_text fault.NoMemory = codes "NoMemory"

-- the fault of a solution; want of memory is never printed
abbrev pub solution_fault_text : SolutionFault → List ℕ
solution_fault_text solution.NotJson = codes "NotJson"
solution_fault_text solution.NoEdges = codes "NoEdges"
solution_fault_text (solution.TooManyEdges c) = codes "TooManyEdges " ++ decimal c
solution_fault_text (solution.BadEdge k) = codes "BadEdge " ++ decimal k
solution_fault_text solution.NoMemory = codes "NoMemory"
