use Rattle.std.proofs.Common.{sym, arith}
use Rattle.crossings.proofs.Placed.{segments_more, segments_placed}
use Rattle.crossings.proofs.segments.copy_segments.Goals as goal

pub segment_of-requires : goal.segment_of-requires
segment_of-requires c = c.requires.within c.index-list-place.result (c.loop-place.place, c.loop-place-test.true, sym c.index-list-place.is)

pub loop-place-preserved : goal.loop-place-preserved
loop-place-preserved c =
    segments_more c.args.points.now c.args.list.now c.loop-place.segments c.loop-place.place c.index-list-place.result c.segment_of.result (omega arith)
    (c.loop-place-test.true, sym c.index-list-place.is) c.segment_of.ensures.ends c.segment_of.ensures.near_from c.segment_of.ensures.near_to c.segment_of.ensures.forward (omega arith) c.loop-place.invariant

pub returns : goal.returns
returns c = segments_placed c.args.points.now c.args.list.now c.loop-place.segments (omega arith) (λ k l. c.loop-place.invariant k (omega arith))
