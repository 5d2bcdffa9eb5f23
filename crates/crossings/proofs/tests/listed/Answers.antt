use Rattle.crossings.proofs.tests.listed.Goals as goal

pub crossing_pairs-requires-clause-within : goal.crossing_pairs-requires-clause-within
crossing_pairs-requires-clause-within c = c.are_within.ensures.0 c.if-not-are_within.false
