use Rattle.std.proofs.Common.{◌≡◌, ◌<◌, ℕ, slice_index_or}
use Rattle.triangulation_check.specs.declared.ends.End.{End}
use Rattle.triangulation_check.specs.Ends.{IsAmid}
use Rattle.triangulation_check.proofs.apexes.has_none_amid.Given as goal

abbrev pub invariant-loop-end : goal.invariant-loop-end
invariant-loop-end l = (k : ℕ) (z : End) → k < l.end-index → slice_index_or l.run k z ≡ z → ¬ IsAmid l.points l.p l.q l.r z.to
