use Rattle.std.proofs.Common.{List, length, sym, ◌∙◌, ap}
use Rattle.plane.specs.declared.segment.Pair.{Pair}
use Rattle.replay.specs.Replayed.{state_of}
use Rattle.report_check.proofs.Sorted.{same_as_sorted, sorted_as_same, kept_ascending}
use Rattle.report_check.proofs.result.has_result.Goals as goal

pub returns-clause-same : goal.returns-clause-same
returns-clause-same c =
    let kept = c.as_slice.ensures.value ∙ c.in_ok-kept.ensures.kept in (
      λ h. same_as_sorted (state_of c.args.core.now).kept c.args.solution.now c.in_ok-wanted.wanted.items c.in_ok-wanted.ensures (sym kept ∙ c.are_equal.ensures.0 h ∙ c.as_slice-2.ensures.value),
      λ same. c.are_equal.ensures.1 (kept ∙ sorted_as_same (state_of c.args.core.now).kept c.args.solution.now c.in_ok-wanted.wanted.items (kept_ascending c.args.core.now c.in_ok-kept.ensures.core) c.in_ok-wanted.ensures same ∙ sym c.as_slice-2.ensures.value),
    )

pub returns-clause-count : goal.returns-clause-count
returns-clause-count c = λ h.
    let kept = c.as_slice.ensures.value ∙ c.in_ok-kept.ensures.kept in
    ap (λ (L : List Pair). length L) (sym kept ∙ c.are_equal.ensures.0 h ∙ c.as_slice-2.ensures.value) ∙ c.in_ok-wanted.ensures.count
