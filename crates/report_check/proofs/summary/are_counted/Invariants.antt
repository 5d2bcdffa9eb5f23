use Rattle.std.proofs.Common.{◌≡◌, ◌<◌, ℕ, slice_index}
use Rattle.journal_defs.specs.Journal.{made}
use Rattle.report_check.proofs.summary.are_counted.Given as goal

abbrev pub invariant-loop-c : goal.invariant-loop-c
invariant-loop-c l = (c : ℕ) → c < l.c → slice_index l.counts c ≡ made c l.commits
