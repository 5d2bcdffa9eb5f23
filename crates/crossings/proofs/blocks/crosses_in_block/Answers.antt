use Rattle.std.proofs.Common.{◌≤◌, ◌*◌, ◌+◌, ◌<◌, ℕ, arith, below_more, sym, ◌∙◌}
use Rattle.std.proofs.lemmas.Bool.{false≢true}
use Rattle.crossings.specs.Crossings.{CrossesLater}
use Rattle.crossings.specs.Segments.{segment}
use Rattle.crossings.proofs.blocks.crosses_in_block.Goals as goal
use Rattle.crossings.proofs.blocks.crosses_in_block.Goals.{else-a-b-via-then-a-b+else-cross_at, else-a-b-via-else-a-b}

pub cross_at-requires-clause-b_in : goal.cross_at-requires-clause-b_in
cross_at-requires-clause-b_in c = (c.requires.segments.each c.loop-k.k _ (omega arith)).1.0

pub loop-k-preserved : goal.loop-k-preserved
loop-k-preserved c =
    let P : ℕ → Type 0 = λ k. 16 * c.args.i ≤ k → ¬ CrossesLater c.args.points.now c.args.list.now c.args.a (segment c.args.segments.now k).place in
    let more : (k : ℕ) → k < c.loop-k.k + 1 → P k = below_more P c.loop-k.k (λ k l low. c.loop-k.invariant k low l) (λ low h. elim c.else-a-b.branch [
      | else-a-b-via-then-a-b+else-cross_at w ↦ false≢true (sym w.if-cross_at.false ∙ w.cross_at.ensures.1 h.1)
      | else-a-b-via-else-a-b w ↦ (let o = h.0 in let n = w.if-a-b.false in omega arith)
    ]) in
    λ k low l. more k l low
