use Rattle.std.proofs.Common.{◌≡◌, ◌-◌, length, drop}
use Rattle.journal_defs.specs.Edits.{inverse_all}
use Rattle.rewind.proofs.inverting.inverses.Given as goal

abbrev pub invariant-loop-done : goal.invariant-loop-done
invariant-loop-done l = (l.list.items ≡ inverse_all (drop (length l.edits - l.done) l.edits)) × (length l.list.items ≡ l.done)
