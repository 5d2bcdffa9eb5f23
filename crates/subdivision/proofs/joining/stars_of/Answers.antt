use Rattle.std.proofs.Common.{sym}
use Rattle.subdivision.proofs.Growing.{free_lower, free_upper, grown_step}
use Rattle.subdivision.proofs.joining.stars_of.Goals as goal

pub link_ends-requires-clause-within : goal.link_ends-requires-clause-within
link_ends-requires-clause-within c = c.requires.triangulation.within c.pair-item.result (c.loop-pair.pair-index, c.loop-pair-test.true, sym c.pair-item.is)

pub link_ends-requires-clause-lower : goal.link_ends-requires-clause-lower
link_ends-requires-clause-lower c =
    free_lower _ _ _ _ _ _ c.len-count.ensures.accepted c.requires.distinct c.requires.triangulation c.loop-pair-test.true c.pair-item.is c.deref_mut.ensures.value c.loop-pair.invariant (link_ends-requires-clause-within c)

pub link_ends-requires-clause-upper : goal.link_ends-requires-clause-upper
link_ends-requires-clause-upper c =
    free_upper _ _ _ _ _ _ c.len-count.ensures.accepted c.requires.distinct c.requires.triangulation c.loop-pair-test.true c.pair-item.is c.deref_mut.ensures.value c.loop-pair.invariant (link_ends-requires-clause-within c)

pub loop-pair-preserved : goal.loop-pair-preserved
loop-pair-preserved c =
    grown_step _ _ _ c.pair-item.result _ _ _ _ _ c.pair-item.is c.loop-pair-test.true c.deref_mut.ensures.value c.deref_mut.ensures.len c.loop-pair.invariant c.in_ok-link_ends.ensures
    (c.requires.triangulation.within c.pair-item.result (c.loop-pair.pair-index, c.loop-pair-test.true, sym c.pair-item.is))
