use Rattle.partition_defs.specs.Partition.{IsConvexPartition}
use Rattle.number_laws.proofs.Loops.{passed, refuses}
use Rattle.partition_defs.proofs.is_convex_partition_plain.Goals as goal

pub are_clear-requires : goal.are_clear-requires
are_clear-requires c = passed c.are_within.result _ c.if-not-are_within.false c.are_within.ensures

pub are_plane-requires : goal.are_plane-requires
are_plane-requires c = passed c.are_within.result _ c.if-not-are_within.false c.are_within.ensures

pub returns-then-not-are_within : goal.returns-then-not-are_within
returns-then-not-are_within c =
    refuses c.are_within.result _ (IsConvexPartition c.args.points.now c.args.list.now) c.if-not-are_within.true c.are_within.ensures (λ f. f.within)

pub returns-then-not-are_clear : goal.returns-then-not-are_clear
returns-then-not-are_clear c =
    refuses c.are_clear.result _ (IsConvexPartition c.args.points.now c.args.list.now) c.if-not-are_clear.true c.are_clear.ensures (λ f. f.clear)

pub returns-then-not-are_plane : goal.returns-then-not-are_plane
returns-then-not-are_plane c =
    refuses c.are_plane.result _ (IsConvexPartition c.args.points.now c.args.list.now) c.if-not-are_plane.true c.are_plane.ensures (λ f. f.plane)

pub returns-then-not-has_border : goal.returns-then-not-has_border
returns-then-not-has_border c =
    refuses c.has_border.result _ (IsConvexPartition c.args.points.now c.args.list.now) c.if-not-has_border.true c.has_border.ensures (λ f. f.border)

pub returns : goal.returns
returns c = (
  λ h. record {
    within = passed c.are_within.result _ c.if-not-are_within.false c.are_within.ensures;
    clear = passed c.are_clear.result _ c.if-not-are_clear.false c.are_clear.ensures;
    plane = passed c.are_plane.result _ c.if-not-are_plane.false c.are_plane.ensures;
    border = passed c.has_border.result _ c.if-not-has_border.false c.has_border.ensures;
    needs = c.meets_needs.ensures.0 h;
  },
  λ f. c.meets_needs.ensures.1 f.needs,
)
