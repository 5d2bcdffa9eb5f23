use Rattle.std.proofs.Common.{List, Option, MatchOption, sym, ◌∙◌, subst}
use Rattle.std.proofs.lemmas.Bool.{false≢true}
use Rattle.plane.specs.declared.segment.Pair.{Pair}
use Rattle.partition_defs.specs.Sets.{AreSame, IsMinimal}
use Rattle.replay.specs.Replayed.{state_of}
use Rattle.report_defs.specs.Verdicts.{IsFirstToGo}
use Rattle.report_check.proofs.Histories.{journal_of, result_not, history_of, least_of, go_of}
use Rattle.report_check.proofs.history.end_fault.Goals as goal

pub returns-then-not-branch : goal.returns-then-not-branch
returns-then-not-branch c =
    let r = c.args.report.now in
    let core = c.args.core.now in
    let so = c.requires.replayed in (
      c.requires.head,
      (
        core.start,
        so.order,
        journal_of r core so,
        result_not r core so (λ same.
            false≢true (sym c.if-not-branch.true ∙ c.in_ok-has_result.ensures.same.1 (subst (λ (K : List Pair). AreSame (state_of core).kept K) (sym c.as_slice.ensures) same))),
      ),
    )

pub returns-in-Some : goal.returns-in-Some
returns-in-Some c =
    let r = c.args.report.now in
    let core = c.args.core.now in
    let so = c.requires.replayed in
    let same = subst (λ (K : List Pair). AreSame (state_of core).kept K) c.as_slice.ensures (c.in_ok-has_result.ensures.same.0 c.if-not-branch.false) in
    let go = subst (λ (o : Option Pair). MatchOption o (IsMinimal core.points (state_of core).kept) (IsFirstToGo core.points (state_of core).kept)) c.in-Some.is c.in_ok-e.ensures in
    (history_of r core c.requires.head so same, go_of r core c.in-Some.e so same go)

pub returns-in-None : goal.returns-in-None
returns-in-None c =
    let r = c.args.report.now in
    let core = c.args.core.now in
    let so = c.requires.replayed in
    let same = subst (λ (K : List Pair). AreSame (state_of core).kept K) c.as_slice.ensures (c.in_ok-has_result.ensures.same.0 c.if-not-branch.false) in
    let minimal = subst (λ (o : Option Pair). MatchOption o (IsMinimal core.points (state_of core).kept) (IsFirstToGo core.points (state_of core).kept)) c.in-None.is c.in_ok-e.ensures in
    (history_of r core c.requires.head so same, least_of r core so same minimal)
