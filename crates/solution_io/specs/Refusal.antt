-- How the reading of a solution is answered.
use Rattle.std.specs.Prelude.{◌≡◌, ◌≢◌, ◌↔◌, ℕ, List, map, Result, Ok, Err, Vec}
use Rattle.std.specs.declared.alloc.Global.{Global}
use Rattle.plane.specs.declared.segment.Pair.{Pair}
use Rattle.instance_io.specs.Refusal.{ends}
use Rattle.text_defs.specs.Solutions.{Fault, not_json, no_edges, too_many_edges, bad_edge}
use Rattle.solution_io.specs.declared.fault.SolutionFault.{SolutionFault}
use Rattle.solution_io.specs.declared.fault.SolutionFault.TheVariants.{NotJson, NoEdges, TooManyEdges, BadEdge, NoMemory}

-- the fault of a reading; want of memory says nothing
abbrev pub HasFault : Result (List (ℕ × ℕ)) Fault → SolutionFault → Type 0
HasFault reading NotJson = reading ≡ Err not_json
HasFault reading NoEdges = reading ≡ Err no_edges
HasFault reading (TooManyEdges c) = reading ≡ Err (too_many_edges c)
HasFault reading (BadEdge k) = reading ≡ Err (bad_edge k)
HasFault reading NoMemory = Unit {0}

-- What a reading is answered with: the pairs in their order, or the fault.
abbrev pub IsRead : Result (List (ℕ × ℕ)) Fault → Result (Vec Pair Global) SolutionFault → Type 0
IsRead reading (Ok pairs) = reading ≡ Ok (map ends pairs.items)
IsRead reading (Err fault) = HasFault reading fault

-- for a private clause: the fault of so many edges
abbrev pub IsTooMany : ℕ → SolutionFault → Type 0
IsTooMany count fault = HasFault (Err (too_many_edges count)) fault

-- each fault comes exactly where the reading has it, want of memory aside
abbrev pub IsExact : Result (List (ℕ × ℕ)) Fault → Result (Vec Pair Global) SolutionFault → Type 0
IsExact reading result = result ≢ Err NoMemory → (fault : SolutionFault) → fault ≢ NoMemory → (result ≡ Err fault) ↔ HasFault reading fault
