use Rattle.std.proofs.Common.{ap, ◌∙◌, arith, map, inr}
use Rattle.serde_json.specs.View.{view}
use Rattle.json_text.proofs.Laws.{none_before-next}
use Rattle.report_io.specs.declared.faults.JournalLine.TheVariants as journal
use Rattle.report_io.specs.declared.faults.ReportFault.TheVariants as at
use Rattle.report_io.specs.Reading.{commit_of}
use Rattle.report_io.specs.Report.{commit_item}
use Rattle.report_io.proofs.JournalSteps.{commit_items-few}
use Rattle.report_io.proofs.Each.{gives_none, missing_at, found_at, more_at, all_found}
use Rattle.report_io.proofs.journal.commits_of.Goals as goal

pub returns-in_default-commit_of : goal.returns-in_default-commit_of
returns-in_default-commit_of c =
    inr (
      tt,
      commit_items-few c.args.n c.args.items.now c.requires
          ∙ missing_at (commit_of c.args.n) (λ k. at.Journal (journal.BadCommit k)) c.args.items.now c.loop-place.place c.index-items-place.result (omega arith) c.index-items-place.is c.loop-place.invariant.0 c.in_default-commit_of.ensures,
    )

pub loop-place-preserved : goal.loop-place-preserved
loop-place-preserved c = (
  none_before-next (gives_none (commit_of c.args.n)) c.args.items.now c.loop-place.place c.index-items-place.result (omega arith) c.index-items-place.is c.loop-place.invariant.0 (found_at commit_item (commit_of c.args.n) (view c.index-items-place.result) c.in-Some.commit c.in-Some.ensures),
  ap (map commit_item) c.in-Ok-push.ensures.items ∙ more_at commit_item (commit_of c.args.n) c.loop-place.commits.items c.in-Some.commit c.args.items.now c.loop-place.place c.index-items-place.result (omega arith) c.index-items-place.is c.loop-place.invariant.1 c.in-Some.ensures,
)

pub returns : goal.returns
returns c =
    commit_items-few c.args.n c.args.items.now c.requires ∙ all_found commit_item (commit_of c.args.n) (λ k. at.Journal (journal.BadCommit k)) c.loop-place.commits.items c.args.items.now c.loop-place.place (omega arith) c.loop-place.invariant.0 c.loop-place.invariant.1
