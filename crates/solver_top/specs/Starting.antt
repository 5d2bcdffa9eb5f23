-- What `start` answers to an input. (This project's own.)
use Rattle.std.specs.Prelude.{◌≡◌, ℕ, List, ◌++◌, map, codes}
use Rattle.plane.specs.declared.coordinates.Point.{Point}
use Rattle.plane.specs.declared.segment.Pair.{Pair}
use Rattle.plane.specs.Accepted.{AreAccepted}
use Rattle.cost_defs.specs.Costs.{Costed}
use Rattle.triangulate.specs.Start.{IsSortedStart}
use Rattle.text_defs.specs.Instances.{instance_from}
use Rattle.text_defs.specs.Texts.{solution_text}
use Rattle.instance_io.specs.declared.instances.InstanceFault.{InstanceFault}
use Rattle.instance_io.specs.Refusal.{ends, Gives, HasFault}
use Rattle.solver_top.specs.declared.status.Verdict.{Verdict}
use Rattle.solver_top.specs.declared.status.Verdict.TheVariants.{Done, No, Usage, Refused}
use Rattle.solver_top.specs.declared.refusals.Refusal.TheVariants.{Instance}
use Rattle.solver_top.specs.Bundles.{IsNamed, refusal_line}

-- the refusal of an instance, printed
abbrev pub IsRefusedInstance : List ℕ → List ℕ → Type 0
IsRefusedInstance input text = (fault : InstanceFault) × IsNamed fault × HasFault (instance_from input) fault
    × (text ≡ refusal_line (Instance fault))

-- the sweep triangulation of the instance that an input is: exactly the sweep pairs, ascending, under the instance's name
abbrev pub IsStarted : List ℕ → Verdict → List ℕ → Type 0
IsStarted input Done text = (name : List ℕ) × (S : List Point) × (D : List Costed) × (T : List Pair)
    × Gives (instance_from input) name S D × AreAccepted S × IsSortedStart S T × (text ≡ solution_text name (map ends T) ++ codes "\n")
IsStarted input No text = ⊥
IsStarted input Usage text = ⊥
IsStarted input Refused text = IsRefusedInstance input text
