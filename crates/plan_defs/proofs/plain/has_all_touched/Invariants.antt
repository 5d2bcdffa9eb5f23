use Rattle.std.proofs.Common.{◌≡◌, ℕ, true, take}
use Rattle.std.specs.List.{Contains}
use Rattle.edit.specs.Plans.{are_touching}
use Rattle.plan_defs.proofs.plain.has_all_touched.Given as goal

abbrev pub invariant-loop-e : goal.invariant-loop-e
invariant-loop-e l = (v : ℕ) → are_touching (take l.e-index l.edits) v ≡ true → Contains l.looked v
