-- For private clauses.
-- The faults of the parts of a value.
use Rattle.std.specs.Prelude.{◌≡◌, Bool, true, ℕ, List, option_map, unwrap_or, if◌then◌else◌, Option, Some, None, Result, Ok, Err, slice_index_or, false}
use Rattle.serde_json.specs.Data.{Data}
use Rattle.text_defs.specs.Instances.{Fault, not_json, no_name, long_name, no_points, bad_point, not_whole, mixed_index, bad_index, index_in, has_both}
use Rattle.text_defs.specs.Costs.{CostFault, bad_costs, too_many_costs, bad_cost}
use Rattle.instance_io.specs.declared.instances.InstanceFault.{InstanceFault}
use Rattle.instance_io.specs.declared.instances.InstanceFault.TheVariants.{NotJson, NoName, LongName, NoPoints, BadPoint, NotWhole, MixedIndex, BadIndex, Bad, BadCosts, TooManyCosts, BadCost, NoMemory}

-- the fault of a step of a reading, where it has one
abbrev pub error : {A F : Type 0} → Result A F → Option F
error (Ok x) = None
error (Err fault) = Some fault

-- the fault that is found is the one told; want of memory says nothing
abbrev pub Tells : InstanceFault → Option Fault → Type 0
Tells NotJson found = found ≡ Some not_json
Tells NoName found = found ≡ Some no_name
Tells (LongName l) found = found ≡ Some (long_name l)
Tells NoPoints found = found ≡ Some no_points
Tells (BadPoint k) found = found ≡ Some (bad_point k)
Tells (NotWhole k) found = found ≡ Some (not_whole k)
Tells (MixedIndex k) found = found ≡ Some (mixed_index k)
Tells (BadIndex k) found = found ≡ Some (bad_index k)
Tells (Bad b) found = ⊥
Tells BadCosts found = ⊥
Tells (TooManyCosts k) found = ⊥
Tells (BadCost k) found = ⊥
Tells NoMemory found = Unit {0}

-- the same, of the faults of costs
abbrev pub TellsCosts : InstanceFault → Option CostFault → Type 0
TellsCosts NotJson found = ⊥
TellsCosts NoName found = ⊥
TellsCosts (LongName l) found = ⊥
TellsCosts NoPoints found = ⊥
TellsCosts (BadPoint k) found = ⊥
TellsCosts (NotWhole k) found = ⊥
TellsCosts (MixedIndex k) found = ⊥
TellsCosts (BadIndex k) found = ⊥
TellsCosts (Bad b) found = ⊥
TellsCosts BadCosts found = found ≡ Some bad_costs
TellsCosts (TooManyCosts k) found = found ≡ Some (too_many_costs k)
TellsCosts (BadCost k) found = found ≡ Some (bad_cost k)
TellsCosts NoMemory found = Unit {0}

-- the fault of so many items of costs; want of memory says nothing
abbrev pub AreTooManyCosts : ℕ → InstanceFault → Type 0
AreTooManyCosts count fault = TellsCosts fault (Some (too_many_costs count))

-- whether an item has no index among n, or one that was seen
abbrev pub is_seen : List Bool → ℕ → Data → Bool
is_seen seen n d = unwrap_or (option_map (λ i. slice_index_or seen i false) (index_in n d)) true

-- what an item lacks that is no point
abbrev pub lack_of : Data → ℕ → InstanceFault
lack_of d k = if has_both d then NotWhole k else BadPoint k

-- the fault of a name of this length; want of memory says nothing
abbrev pub IsLongName : ℕ → InstanceFault → Type 0
IsLongName length fault = Tells fault (Some (long_name length))
