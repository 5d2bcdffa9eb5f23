use Rattle.std.proofs.Common.{ap, ◌∙◌, arith, map, inr}
use Rattle.serde_json.specs.View.{view}
use Rattle.json_text.proofs.Laws.{none_before-next}
use Rattle.report_io.specs.declared.faults.JournalLine.TheVariants as journal
use Rattle.report_io.specs.declared.faults.ReportFault.TheVariants as at
use Rattle.instance_io.specs.Refusal.{ends}
use Rattle.report_io.specs.Reading.{start_of}
use Rattle.report_io.proofs.JournalSteps.{start_pairs-few}
use Rattle.report_io.proofs.Each.{gives_none, missing_at, found_at, more_at, all_found}
use Rattle.report_io.proofs.journal.pairs_of.Goals as goal

pub returns-in_default-start_of : goal.returns-in_default-start_of
returns-in_default-start_of c =
    inr (
      tt,
      start_pairs-few c.args.n c.args.items.now c.requires
          ∙ missing_at (start_of c.args.n) (λ k. at.Journal (journal.BadStart k)) c.args.items.now c.loop-place.place c.index-items-place.result (omega arith) c.index-items-place.is c.loop-place.invariant.0 c.in_default-start_of.ensures,
    )

pub loop-place-preserved : goal.loop-place-preserved
loop-place-preserved c = (
  none_before-next (gives_none (start_of c.args.n)) c.args.items.now c.loop-place.place c.index-items-place.result (omega arith) c.index-items-place.is c.loop-place.invariant.0 (found_at ends (start_of c.args.n) (view c.index-items-place.result) c.in-Some.pair c.in-Some.ensures),
  ap (map ends) c.in-Ok-push.ensures.items ∙ more_at ends (start_of c.args.n) c.loop-place.pairs.items c.in-Some.pair c.args.items.now c.loop-place.place c.index-items-place.result (omega arith) c.index-items-place.is c.loop-place.invariant.1 c.in-Some.ensures,
)

pub returns : goal.returns
returns c =
    start_pairs-few c.args.n c.args.items.now c.requires ∙ all_found ends (start_of c.args.n) (λ k. at.Journal (journal.BadStart k)) c.loop-place.pairs.items c.args.items.now c.loop-place.place (omega arith) c.loop-place.invariant.0 c.loop-place.invariant.1
