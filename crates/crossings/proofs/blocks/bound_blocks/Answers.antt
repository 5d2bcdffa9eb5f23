use Rattle.std.proofs.Common.{◌+◌, List, subst, sym, arith}
use Rattle.crossings.specs.declared.blocks.Block.{Block}
use Rattle.crossings.specs.Segments.{AreBoundedBelow}
use Rattle.crossings.proofs.Placed.{bounded_more, bounded_past}
use Rattle.crossings.proofs.blocks.bound_blocks.Goals as goal
use Rattle.crossings.proofs.blocks.bound_blocks.Goals.{then-from-segments, else-from-segments}

pub loop-i-init : goal.loop-i-init
loop-i-init c = record { near = c.requires.near_blocks; bounded = λ i l. absurd (omega arith) }

pub loop-i-preserved : goal.loop-i-preserved
loop-i-preserved c =
    let P : List Block → Type 0 = λ B. AreBoundedBelow c.args.size c.args.segments.now B (c.loop-i.i + 1) in
    elim c.if-from-segments.branch [
      | then-from-segments w ↦ subst P (sym w.blocks-is)
          (bounded_more c.args.size c.args.segments.now c.loop-i.blocks c.loop-i.i w.block_of.result (omega arith) w.block_of.ensures.near
          (λ k at l. w.block_of.ensures.has k (let a = at.0 in omega arith) (let a = at.1 in omega arith) l) c.loop-i.invariant)
      | else-from-segments w ↦ subst P (sym w.blocks-is) (bounded_past c.args.size c.args.segments.now c.loop-i.blocks c.loop-i.i (omega arith) c.loop-i.invariant)
    ]

pub returns : goal.returns
returns c = record { near = c.loop-i.invariant.near; bounded = λ i l. c.loop-i.invariant.bounded i (omega arith) }
