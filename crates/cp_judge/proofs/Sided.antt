-- Signs on one side.
use Rattle.std.proofs.Common.{◌≡◌, ℤ, pos, ◌≤ℤ◌, arith}
use Rattle.std.proofs.lemmas.Int.{ints}
use Rattle.plane.specs.declared.coordinates.Turn.{Turn}
use Rattle.plane.specs.declared.coordinates.Turn.TheVariants.{Left, Straight, Right}
use Rattle.cp_judge.specs.Chains.{sided}

pub straight_sided : (side : Turn) (z : ℤ) → z ≡ pos 0 → pos 0 ≤ℤ sided side z
straight_sided Left z h = omega (arith, ints)
straight_sided Straight z h = omega (arith, ints)
straight_sided Right z h = omega (arith, ints)
