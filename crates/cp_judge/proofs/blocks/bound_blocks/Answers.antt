use Rattle.std.proofs.Common.{◌+◌, List, subst, sym, arith}
use Rattle.boxes.specs.declared.bounds.Bounds.{Bounds}
use Rattle.cp_judge.specs.Blocks.{AreBoundedBelow}
use Rattle.cp_judge.proofs.Placed.{bounded_more, bounded_past}
use Rattle.cp_judge.proofs.blocks.bound_blocks.Goals as goal
use Rattle.cp_judge.proofs.blocks.bound_blocks.Goals.{then-from-places, else-from-places}

pub loop-i-init : goal.loop-i-init
loop-i-init c = record { corners = c.requires.corners; bounded = λ i l. absurd (omega arith) }

pub loop-i-preserved : goal.loop-i-preserved
loop-i-preserved c =
    let P : List Bounds → Type 0 = λ B. AreBoundedBelow c.args.size c.args.places.now B (c.loop-i.i + 1) in
    elim c.if-from-places.branch [
      | then-from-places w ↦ subst P (sym w.bounds-is)
          (bounded_more c.args.size c.args.places.now c.loop-i.bounds c.loop-i.i w.bounds_of.result (omega arith) w.bounds_of.ensures.near
          (λ k at l. w.bounds_of.ensures.has k (let a = at.0 in omega arith) (let a = at.1 in omega arith) l) c.loop-i.invariant)
      | else-from-places w ↦ subst P (sym w.bounds-is) (bounded_past c.args.size c.args.places.now c.loop-i.bounds c.loop-i.i (omega arith) c.loop-i.invariant)
    ]

pub returns : goal.returns
returns c = record { corners = c.loop-i.invariant.corners; bounded = λ i l. c.loop-i.invariant.bounded i (omega arith) }
