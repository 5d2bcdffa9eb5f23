use Rattle.std.proofs.Common.{sym, rules}
use Rattle.crossings.proofs.laws.Ends.{crossing_here, common_end}
use Rattle.crossings.proofs.blocks.cross_at.Goals as goal

pub cross-requires : goal.cross-requires
cross-requires c = record {
  e_in = c.requires.within c.index-list-a.result (c.args.a, c.requires.a_in, sym c.index-list-a.is);
  f_in = c.requires.within c.index-list-b.result (c.args.b, c.requires.b_in, sym c.index-list-b.is);
}

pub returns-then-not-have_common_end : goal.returns-then-not-have_common_end
returns-then-not-have_common_end c = (
  λ t. (c.index-list-a.result, c.index-list-b.result, (c.requires.a_in, sym c.index-list-a.is), (c.requires.b_in, sym c.index-list-b.is), c.cross.ensures.0 t),
  λ h. c.cross.ensures.1
      (crossing_here c.args.points.now c.args.list.now c.args.a c.args.b c.index-list-a.result c.index-list-b.result (c.requires.a_in, sym c.index-list-a.is) (c.requires.b_in, sym c.index-list-b.is) h),
)

pub returns-else-not-have_common_end : goal.returns-else-not-have_common_end
returns-else-not-have_common_end c = (
  λ t. absurd (search rules),
  λ h. absurd (common_end c.args.points.now c.index-list-a.result c.index-list-b.result (c.have_common_end.ensures (search rules))
      (crossing_here c.args.points.now c.args.list.now c.args.a c.args.b c.index-list-a.result c.index-list-b.result (c.requires.a_in, sym c.index-list-a.is) (c.requires.b_in, sym c.index-list-b.is) h)),
)
