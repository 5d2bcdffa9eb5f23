use Rattle.std.proofs.Common.{◌+◌, arith, sym, subst}
use Rattle.std.proofs.lemmas.Int.{ints}
use Rattle.plane.proofs.Furthest.{IsBest, moves, stays}
use Rattle.plane.proofs.guides.furthest.Goals as goal
use Rattle.plane.proofs.guides.furthest.Goals.{then-reach, else-reach}

pub loop-k-preserved : goal.loop-k-preserved
loop-k-preserved c = elim c.if-reach.branch [
  | then-reach w ↦ subst (λ b. IsBest c.args.list.now c.args.direction b (c.loop-k.k + 1)) (sym w.best-is) (moves _ _ c.loop-k.best _ _ _ (omega arith) c.reach.ensures c.reach-in-loop-k.ensures (grind (arith, ints)) c.loop-k.invariant)
  | else-reach w ↦ subst (λ b. IsBest c.args.list.now c.args.direction b (c.loop-k.k + 1)) (sym w.best-is) (stays _ _ c.loop-k.best _ _ _ c.reach.ensures c.reach-in-loop-k.ensures (grind (arith, ints)) c.loop-k.invariant)
]
