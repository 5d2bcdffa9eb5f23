-- The judgement on a list of segments: the first violation, or that there is none. (This project's own order.)
use Rattle.std.specs.Prelude.{◌≡◌, List, length}
use Rattle.plane.specs.declared.coordinates.Point.{Point}
use Rattle.plane.specs.declared.segment.Pair.{Pair}
use Rattle.partition_defs.specs.Partition.{AreClear, ArePlane, HasBorder, IsConvexPartition}
use Rattle.partition_defs.specs.Triangulation.{AreDistinct}
use Rattle.cp_judge.specs.declared.answer.Judgement.{Judgement}
use Rattle.cp_judge.specs.declared.answer.Judgement.TheVariants.{Convex, Doubled, NotClear, Crossing, MissingBorder, Unmet}
use Rattle.cp_judge.specs.Violation.{IsDoubled, IsNotClear, IsCrossing, IsMissingBorder, IsUnmet}

-- the judgement shows its kind's first case, and no earlier kind has one
abbrev pub IsJudgement : List Point → List Pair → Judgement → Type 0
IsJudgement S K (Doubled e) = IsDoubled K e
IsJudgement S K (NotClear e p) = AreDistinct K × IsNotClear S K e p
IsJudgement S K (Crossing e f) = AreDistinct K × AreClear S K × IsCrossing S K e f
IsJudgement S K (MissingBorder e) = AreDistinct K × AreClear S K × ArePlane S K × IsMissingBorder S K e
IsJudgement S K (Unmet p q) = AreDistinct K × AreClear S K × ArePlane S K × HasBorder S K × IsUnmet S K p q
IsJudgement S K (Convex c) = (c ≡ length K) × AreDistinct K × IsConvexPartition S K
