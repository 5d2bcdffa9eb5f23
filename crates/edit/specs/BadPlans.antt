-- The first fault of edits and claims that make no plan.
use Rattle.std.specs.Prelude.{◌≡◌, ◌<◌, ◌⊎◌, List, [], length, Some}
use Rattle.journal_defs.specs.declared.edit.Edit.{Edit}
use Rattle.journal_defs.specs.declared.edit.Claim.{Claim}
use Rattle.edit.specs.declared.plan.BadPlan.{BadPlan}
use Rattle.edit.specs.declared.plan.BadPlan.TheVariants.{Empty, TooLong, NotAscending, NotCovered}
use Rattle.edit.specs.Plans.{are_touching, HasPlanSize, RisesBelow, IsFirstFall, IsLeastUnclaimed}

abbrev pub IsBadPlan : List Edit → List Claim → BadPlan → Type 0
IsBadPlan edits claims Empty = edits ≡ []
IsBadPlan edits claims TooLong = (0 < length edits) × ((8 < length edits) ⊎ (16 < length claims))
IsBadPlan edits claims (NotAscending k) = (0 < length edits) × HasPlanSize edits claims × IsFirstFall claims k
IsBadPlan edits claims (NotCovered v) =
    (0 < length edits) × HasPlanSize edits claims × RisesBelow claims (length claims)
    × IsLeastUnclaimed (are_touching edits) claims (Some v)
