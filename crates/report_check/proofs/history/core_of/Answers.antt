use Rattle.std.proofs.Common.{◌≡◌, ℕ, List, Option, MatchOption, sym, ◌∙◌, subst}
use Rattle.plane.specs.declared.segment.Pair.{Pair}
use Rattle.journal_defs.specs.declared.commit.Commit.{Commit}
use Rattle.report_defs.specs.declared.verdict.Verdict.{Verdict}
use Rattle.report_defs.specs.declared.verdict.Verdict.TheVariants.{Valid, NoJournal}
use Rattle.report_defs.specs.Relation.{IsStartInOrder}
use Rattle.report_defs.specs.Verdicts.{IsFirstBadCommit}
use Rattle.report_check.proofs.Histories.{bad_of}
use Rattle.report_check.proofs.Laws.{right_is_valid}
use Rattle.report_check.proofs.history.core_of.Goals as goal

never_valid : (k : ℕ) → NoJournal k ≡ Valid → ⊥
never_valid k h = cc

pub unreachable-requires : goal.unreachable-requires
unreachable-requires c =
    let r = c.args.report.now in
    let old = c.in_ok-core.core in
    let new = c.replayed.new.core in
    let J = c.as_slice.result.now in
    let k : ℕ = c.in-Some.field-0 in
    let bad : IsFirstBadCommit old.points old.start J k =
    subst (λ (o : Option ℕ). MatchOption o (new.journal ≡ J) (IsFirstBadCommit old.points old.start J)) c.in-Some.is c.in_ok-bad.ensures.answer in
    let of_report : IsFirstBadCommit old.points old.start r.commits k = subst (λ (L : List Commit). IsFirstBadCommit old.points old.start L k) c.as_slice.ensures bad in
    never_valid k (right_is_valid r (NoJournal k) (c.requires.right.history.head, bad_of r old k c.in_ok-core.ensures.points c.in_ok-core.ensures.start of_report) c.requires.right)

pub returns-clause-points : goal.returns-clause-points
returns-clause-points c = c.in_ok-bad.ensures.of.points ∙ c.in_ok-core.ensures.points

pub returns-clause-start : goal.returns-clause-start
returns-clause-start c = subst (λ (A : List Pair). IsStartInOrder c.args.report.now A) (sym c.in_ok-bad.ensures.of.start) c.in_ok-core.ensures.start

pub returns-clause-journal : goal.returns-clause-journal
returns-clause-journal c =
    let old = c.in_ok-core.core in
    let J = c.as_slice.result.now in
    let taken = subst (λ (o : Option ℕ). MatchOption o (c.replayed.new.core.journal ≡ J) (IsFirstBadCommit old.points old.start J)) c.in-None.is c.in_ok-bad.ensures.answer in
    taken ∙ c.as_slice.ensures
