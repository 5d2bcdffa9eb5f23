-- What a bundle is read as, and why it is refused. (This project's own, after the challenge's files.)
use Rattle.std.specs.Prelude.{◌≡◌, ◌≢◌, ℕ, List, map, length, codes, ◌++◌, Result, Ok, Err}
use Rattle.serde_json.specs.Data.{Data}
use Rattle.plane.specs.declared.coordinates.Point.{Point}
use Rattle.plane.specs.declared.segment.Pair.{Pair}
use Rattle.plane.specs.Accepted.{AreAccepted}
use Rattle.cost_defs.specs.Costs.{Costed}
use Rattle.text_defs.specs.Bundles as bundle
use Rattle.text_defs.specs.Instances.{instance_in}
use Rattle.text_defs.specs.Solutions.{edges_in}
use Rattle.instance_io.specs.declared.instances.InstanceFault.{InstanceFault}
use Rattle.instance_io.specs.declared.instances.InstanceFault.TheVariants as fault
use Rattle.instance_io.specs.Refusal.{Gives, HasFault}
use Rattle.solution_io.specs.declared.fault.SolutionFault.{SolutionFault}
use Rattle.solution_io.specs.declared.fault.SolutionFault.TheVariants as solution
use Rattle.instance_io.specs.Refusal.{ends}
use Rattle.solution_io.specs.Refusal.{HasFault as HasEdgesFault}
use Rattle.fault_texts.specs.Texts.{instance_fault_text, solution_fault_text}
use Rattle.solver_top.specs.declared.refusals.BundleFault.{BundleFault}
use Rattle.solver_top.specs.declared.refusals.BundleFault.TheVariants.{NotJson, NoInstance, NoSolution}
use Rattle.solver_top.specs.declared.refusals.Refusal.{Refusal}
use Rattle.solver_top.specs.declared.refusals.Refusal.TheVariants.{Bundle, Instance, Solution}

-- the parts of a bundle, as values
abbrev pub HasParts : List ℕ → (instance solution : Data) → Type 0
HasParts input instance solution = bundle.parts_from input ≡ Ok (instance, solution)

-- a value is an instance with these points
abbrev pub HasPoints : Data → List Point → Type 0
HasPoints d S = (name : List ℕ) × (D : List Costed) × Gives (instance_in d) name S D × AreAccepted S

-- the input is a bundle of an instance with these points and a solution with these pairs
abbrev pub HasBundle : List ℕ → List Point → List Pair → Type 0
HasBundle input S K = (instance : Data) × (solution : Data) × HasParts input instance solution
    × HasPoints instance S × (edges_in (length S) solution ≡ Ok (map ends K))

abbrev pub HasBundleFault : Result (Data × Data) bundle.Fault → BundleFault → Type 0
HasBundleFault reading NotJson = reading ≡ Err bundle.not_json
HasBundleFault reading NoInstance = reading ≡ Err bundle.no_instance
HasBundleFault reading NoSolution = reading ≡ Err bundle.no_solution

-- want of memory is no refusal
abbrev pub IsNamed : InstanceFault → Type 0
IsNamed f = f ≢ fault.NoMemory

abbrev pub IsNamedSolution : SolutionFault → Type 0
IsNamedSolution f = f ≢ solution.NoMemory

-- the first refusal of the bundle of an input: its own, its instance's, its solution's
abbrev pub HasRefusal : List ℕ → Refusal → Type 0
HasRefusal input (Bundle f) = HasBundleFault (bundle.parts_from input) f
HasRefusal input (Instance f) =
    (instance : Data) × (solution : Data) × HasParts input instance solution × IsNamed f × HasFault (instance_in instance) f
HasRefusal input (Solution f) = (instance : Data) × (solution : Data) × HasParts input instance solution
    × ((S : List Point) × HasPoints instance S × IsNamedSolution f × HasEdgesFault (edges_in (length S) solution) f)

abbrev pub bundle_fault_text : BundleFault → List ℕ
bundle_fault_text NotJson = codes "NotJson"
bundle_fault_text NoInstance = codes "NoInstance"
bundle_fault_text NoSolution = codes "NoSolution"

abbrev pub refusal_line : Refusal → List ℕ
refusal_line (Bundle f) = codes "refused bundle " ++ (bundle_fault_text f ++ codes "\n")
refusal_line (Instance f) = codes "refused instance " ++ (instance_fault_text f ++ codes "\n")
refusal_line (Solution f) = codes "refused solution " ++ (solution_fault_text f ++ codes "\n")
