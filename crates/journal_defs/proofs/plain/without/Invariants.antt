use Rattle.std.proofs.Common.{◌≡◌, take, filter}
use Rattle.std.specs.Prelude.{not}
use Rattle.partition_defs.specs.Sets.{is_same}
use Rattle.journal_defs.proofs.plain.without.Given as goal

abbrev pub invariant-loop-f : goal.invariant-loop-f
invariant-loop-f l = l.rest.items ≡ filter (λ f. not (is_same f l.e)) (take l.f-index l.list)
