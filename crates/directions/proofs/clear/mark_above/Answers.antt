use Rattle.std.proofs.Common.{ℕ, arith, below_more}
use Rattle.std.specs.Prelude.{slice_index}
use Rattle.plane.specs.Geometry.{point, IsClear}
use Rattle.star.specs.Turn.{IsUpper}
use Rattle.directions.specs.Bits.{HasPair}
use Rattle.directions.proofs.Cleared.{grown_on, above_all}
use Rattle.directions.proofs.clear.mark_above.Goals as goal

pub loop-i-preserved : goal.loop-i-preserved
loop-i-preserved c =
    let P : ℕ → Type 0 = λ j. IsUpper (point c.args.points.now c.args.p) (point c.args.points.now (slice_index c.args.list.now j))
    → IsClear c.args.points.now c.args.p (slice_index c.args.list.now j) → HasPair c.args.p (slice_index c.args.list.now j) c.mark_at.new.table.items in
    record {
      grown = grown_on c.args.points.now c.args.table.now.items c.loop-i.table.items c.mark_at.new.table.items c.loop-i.invariant.grown c.mark_at.ensures.grown;
      there = below_more P c.loop-i.i (λ j l up clear. c.mark_at.ensures.grown.kept _ (c.loop-i.invariant.there j l up clear)) c.mark_at.ensures.there;
    }

pub returns-clause-there : goal.returns-clause-there
returns-clause-there c = above_all c.args.points.now c.args.p c.args.list.now c.loop-i.table.items c.requires.fan (λ j l up clear. c.loop-i.invariant.there j (omega arith) up clear)
