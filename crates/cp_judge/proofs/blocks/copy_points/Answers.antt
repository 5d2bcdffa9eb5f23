use Rattle.std.proofs.Common.{◌≡◌, ℕ, arith}
use Rattle.plane.specs.declared.coordinates.Point.{Point}
use Rattle.plane.specs.Geometry.{point}
use Rattle.crossings.proofs.laws.Blocks.{set_more}
use Rattle.cp_judge.proofs.blocks.copy_points.Goals as goal

pub loop-k-preserved : goal.loop-k-preserved
loop-k-preserved c =
    let P : ℕ → Point → Type 0 = λ k p. p ≡ point c.args.points.now k in
    set_more P c.loop-k.places c.loop-k.k c.at.result _ (omega arith) c.at.ensures.point c.loop-k.invariant
