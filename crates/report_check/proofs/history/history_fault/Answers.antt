use Rattle.std.proofs.Common.{◌≡◌, ℕ, Option, MatchOption, ◌∙◌, subst}
use Rattle.report_defs.specs.Verdicts.{IsFirstBadCommit}
use Rattle.report_check.proofs.Histories.{replay_of}
use Rattle.report_check.proofs.history.history_fault.Goals as goal

pub end_fault-requires-clause-replayed : goal.end_fault-requires-clause-replayed
end_fault-requires-clause-replayed c =
    let old = c.in_ok-core.core in
    let new = c.replayed.new.core in
    let J = c.as_slice.result.now in
    let taken = subst (λ (o : Option ℕ). MatchOption o (new.journal ≡ J) (IsFirstBadCommit old.points old.start J)) c.in-None.is c.in_ok-k.ensures.answer in
    replay_of c.args.report.now old new c.in_ok-core.ensures.points c.in_ok-core.ensures.start c.in_ok-k.ensures.of c.in_ok-k.ensures.core (taken ∙ c.as_slice.ensures)
