use Rattle.std.proofs.Common.{◌≡◌, length}
use Rattle.border.specs.Marks.{AreOthers}
use Rattle.border.proofs.inner.unmark.Given as goal

abbrev pub invariant-loop-v : goal.invariant-loop-v
invariant-loop-v l = AreOthers l.list l.v-index l.marks.items × (length l.marks.items ≡ length l.initial.marks.items)
