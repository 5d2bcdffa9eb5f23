use Rattle.std.proofs.Common.{rules, ℕ, ◌<◌, ◌+◌}
use borrow.Author.Count.{below_more}
use Rattle.plane.specs.Geometry.{IsBorderPair}
use Rattle.partition_defs.specs.Partition.{Joins}
use Rattle.partition_defs.proofs.has_border_from.Goals as goal

pub loop-j-preserved : goal.loop-j-preserved
loop-j-preserved c =
    let P : ℕ → Type 0 = λ j. c.args.i < j → IsBorderPair c.args.points.now c.args.i j → Joins c.args.list.now c.args.i j in
    let more : (j : ℕ) → j < c.loop-j.j + 1 → P j =
    below_more P c.loop-j.j (λ j m o. c.loop-j.invariant j o m) (λ _. c.has_border_at.ensures.0 (search rules)) in
    λ j o m. more j m o
