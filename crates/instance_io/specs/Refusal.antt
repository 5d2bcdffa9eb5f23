-- When a text is refused, and what it gives where it isn't.
use Rattle.std.specs.Prelude.{◌≡◌, ◌≢◌, ◌<◌, ◌↔◌, ℕ, List, map, ℤ, Option, None, Result, Ok, Err}
use Rattle.serde_json.specs.Data.{Data}
use Rattle.plane.specs.declared.coordinates.Point.{Point}
use Rattle.plane.specs.declared.segment.Pair.{Pair}
use Rattle.plane.specs.Accepted.{AreAccepted, IsFault}
use Rattle.cost_defs.specs.Costs.{Costed, cost, AreCosts}
use Rattle.text_defs.specs.Costs.{CostItem, CostFault, bad_costs, too_many_costs, bad_cost, item_cost}
use Rattle.text_defs.specs.Instances.{Fault, not_json, no_name, long_name, no_points, bad_point, not_whole, mixed_index, bad_index, Parts}
use Rattle.instance_io.specs.declared.instances.Instance.{Instance}
use Rattle.instance_io.specs.declared.instances.InstanceFault.{InstanceFault}
use Rattle.instance_io.specs.declared.instances.InstanceFault.TheVariants.{NotJson, NoName, LongName, NoPoints, BadPoint, NotWhole, MixedIndex, BadIndex, Bad, BadCosts, TooManyCosts, BadCost, NoMemory}

-- a text that isn't JSON has no reading; want of memory says nothing
abbrev pub RefusesText : InstanceFault → Option Data → Type 0
RefusesText NotJson reading = reading ≡ None
RefusesText NoName reading = ⊥
RefusesText (LongName l) reading = ⊥
RefusesText NoPoints reading = ⊥
RefusesText (BadPoint k) reading = ⊥
RefusesText (NotWhole k) reading = ⊥
RefusesText (MixedIndex k) reading = ⊥
RefusesText (BadIndex k) reading = ⊥
RefusesText (Bad b) reading = ⊥
RefusesText BadCosts reading = ⊥
RefusesText (TooManyCosts k) reading = ⊥
RefusesText (BadCost k) reading = ⊥
RefusesText NoMemory reading = Unit {0}

abbrev pub coordinates : Point → ℤ × ℤ
coordinates p = (p.x, p.y)

-- the ends of a pair, the smaller first
abbrev pub ends : Pair → ℕ × ℕ
ends e = (e.lo, e.hi)

-- a pair with its cost, by its ends
abbrev pub cost_item : Costed → CostItem
cost_item x = (ends x.0, x.1)

-- costs of which each pair has what its item says, and 1 where it has none
pub record AreCostsOf (items : List CostItem) (D : List Costed) : Type 0 where
  pub costs : AreCosts D
  pub same : (i j : ℕ) → i < j → cost D i j ≡ item_cost items i j

-- the reading gave this name and these points, and the costs were read as told
abbrev pub GivesPoints : Result Parts Fault → List ℕ → List Point → Result (List CostItem) CostFault → Type 0
GivesPoints reading name points costs = reading ≡ Ok (name, map coordinates points, costs)

-- the reading gave this name, these points and these costs
abbrev pub Gives : Result Parts Fault → List ℕ → List Point → List Costed → Type 0
Gives reading name points D = (items : List CostItem) × GivesPoints reading name points (Ok items) × AreCostsOf items D

-- the reading gave points that are at fault
abbrev pub GivesBad : Result Parts Fault → (List Point → Type 0) → Type 0
GivesBad reading IsBad =
    (name : List ℕ) × (points : List Point) × (costs : Result (List CostItem) CostFault) × GivesPoints reading name points costs × IsBad points

-- the reading gave accepted points, and costs that are at fault
abbrev pub GivesBadCosts : Result Parts Fault → CostFault → Type 0
GivesBadCosts reading fault =
    (name : List ℕ) × (points : List Point) × GivesPoints reading name points (Err fault) × AreAccepted points

-- the fault of a reading, of the points that it gave, or of its costs; want of memory says nothing
abbrev pub HasFault : Result Parts Fault → InstanceFault → Type 0
HasFault reading NotJson = reading ≡ Err not_json
HasFault reading NoName = reading ≡ Err no_name
HasFault reading (LongName l) = reading ≡ Err (long_name l)
HasFault reading NoPoints = reading ≡ Err no_points
HasFault reading (BadPoint k) = reading ≡ Err (bad_point k)
HasFault reading (NotWhole k) = reading ≡ Err (not_whole k)
HasFault reading (MixedIndex k) = reading ≡ Err (mixed_index k)
HasFault reading (BadIndex k) = reading ≡ Err (bad_index k)
HasFault reading (Bad b) = GivesBad reading (λ points. IsFault points b)
HasFault reading BadCosts = GivesBadCosts reading bad_costs
HasFault reading (TooManyCosts k) = GivesBadCosts reading (too_many_costs k)
HasFault reading (BadCost k) = GivesBadCosts reading (bad_cost k)
HasFault reading NoMemory = Unit {0}

-- What a reading is answered with: the instance, or the fault.
abbrev pub IsRead : Result Parts Fault → Result Instance InstanceFault → Type 0
IsRead reading (Ok instance) = Gives reading instance.name instance.points instance.costs
IsRead reading (Err fault) = HasFault reading fault

-- each fault comes exactly where the reading has it, want of memory aside
abbrev pub IsExact : Result Parts Fault → Result Instance InstanceFault → Type 0
IsExact reading result = result ≢ Err NoMemory → (fault : InstanceFault) → fault ≢ NoMemory → (result ≡ Err fault) ↔ HasFault reading fault
