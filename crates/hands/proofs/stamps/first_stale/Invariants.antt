use Rattle.std.proofs.Common.{List, take}
use Rattle.std.specs.List.{AllByRecursion}
use Rattle.journal_defs.specs.declared.commit.Commit.{Commit}
use Rattle.hands.specs.Hands.{hands_of, AreStamped}
use Rattle.hands.specs.Answers.{IsFresh}
use Rattle.hands.proofs.stamps.first_stale.Given as goal

abbrev pub invariant-loop-k : goal.invariant-loop-k
invariant-loop-k l = (J : List Commit) → AreStamped J (hands_of l.hands) → AllByRecursion (IsFresh J) (take l.k l.claims)
