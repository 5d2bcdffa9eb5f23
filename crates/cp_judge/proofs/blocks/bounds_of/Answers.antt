use Rattle.std.proofs.Common.{◌≤◌, ℕ, below_more}
use Rattle.plane.specs.Geometry.{point}
use Rattle.boxes.specs.Bounds.{IsWithin}
use Rattle.cp_judge.proofs.blocks.bounds_of.Goals as goal

pub loop-k-preserved : goal.loop-k-preserved
loop-k-preserved c = record {
  near = c.with-bounds.ensures.near;
  has = λ k low l.
      below_more (λ (j : ℕ). c.args.from ≤ j → IsWithin c.with-bounds.result (point c.args.places.now j)) c.loop-k.k
      (λ j m low. c.with-bounds.ensures.kept _ (c.loop-k.invariant.has j low m)) (λ _. c.with-bounds.ensures.has) k l low;
}
