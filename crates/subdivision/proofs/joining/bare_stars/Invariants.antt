use Rattle.std.proofs.Common.{◌≡◌, ◌<◌, ℕ, [], length}
use Rattle.star.specs.StarOf.{IsStarOf}
use Rattle.subdivision.specs.Layout.{star_at}
use Rattle.subdivision.proofs.joining.bare_stars.Given as goal

abbrev pub invariant-loop-v : goal.invariant-loop-v
invariant-loop-v l = (length l.stars.items ≡ l.v) × ((k : ℕ) → k < l.v → IsStarOf l.points [] [] k (star_at l.stars.items k))
