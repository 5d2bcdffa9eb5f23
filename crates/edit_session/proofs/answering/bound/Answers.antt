use Rattle.std.proofs.Common.{◌≤◌, List, length, sym, ◌∙◌, subst}
use Rattle.plane.specs.declared.segment.Pair.{Pair}
use Rattle.plane.specs.Accepted.{AreAccepted}
use Rattle.replay.specs.Replayed.{state_of}
use Rattle.edit_session.proofs.Many.{few_kept}
use Rattle.edit_session.proofs.answering.bound.Goals as goal

pub total-cost-requires : goal.total-cost-requires
total-cost-requires c =
    let core = c.args.core.now in
    let accepted : AreAccepted core.points = subst AreAccepted c.points.ensures.points c.len-count.ensures.accepted in
    subst (λ (l : List Pair). length l ≤ 13000000) (sym (c.deref.ensures.value ∙ c.in_ok-kept.ensures.kept)) (few_kept core.points (state_of core) accepted c.points.ensures.core.sound)
