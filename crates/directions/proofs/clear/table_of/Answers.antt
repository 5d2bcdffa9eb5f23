use Rattle.std.proofs.Common.{ℕ, below_more}
use Rattle.directions.specs.Bits.{HasClearAbove}
use Rattle.directions.proofs.Cleared.{above_kept}
use Rattle.directions.proofs.clear.table_of.Goals as goal

pub loop-p-preserved : goal.loop-p-preserved
loop-p-preserved c =
    let P : ℕ → Type 0 = λ a. HasClearAbove c.args.points.now a c.mark_above.new.table.items in
    record {
      room = c.mark_above.ensures.grown.room;
      alone = c.mark_above.ensures.grown.alone;
      above = below_more P c.loop-p.p (λ a l. above_kept c.args.points.now a c.loop-p.table.items c.mark_above.new.table.items c.mark_above.ensures.grown (c.loop-p.invariant.above a l)) c.mark_above.ensures.there;
    }
