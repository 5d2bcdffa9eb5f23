use Rattle.star.proofs.tests.gaps.are_coprime.Given as goal

abbrev pub decreases-loop-b : goal.decreases-loop-b
decreases-loop-b l = l.b
