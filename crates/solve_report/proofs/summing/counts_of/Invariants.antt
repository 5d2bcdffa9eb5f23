use Rattle.std.proofs.Common.{◌≡◌, map}
use Rattle.std.specs.List.{range_with_len}
use Rattle.journal_defs.specs.Journal.{made}
use Rattle.solve_report.proofs.summing.counts_of.Given as goal

abbrev pub invariant-loop-caller : goal.invariant-loop-caller
invariant-loop-caller l = l.list.items ≡ map (λ n. made n l.journal) (range_with_len 0 l.caller)
