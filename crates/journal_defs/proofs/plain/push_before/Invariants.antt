use Rattle.std.proofs.Common.{◌≡◌, ◌++◌, take, filter}
use Rattle.partition_defs.specs.Sets.{precedes}
use Rattle.journal_defs.proofs.plain.push_before.Given as goal

abbrev pub invariant-loop-f : goal.invariant-loop-f
invariant-loop-f l = l.out.items ≡ l.initial.out.items ++ filter (λ f. precedes f l.e) (take l.f-index l.list)
