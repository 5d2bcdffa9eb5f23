use Rattle.std.proofs.Common.{ap, ◌∙◌, arith, map, inr}
use Rattle.serde_json.specs.View.{view}
use Rattle.json_text.proofs.Laws.{none_before-next}
use Rattle.report_io.specs.declared.faults.CertLine.TheVariants as cert
use Rattle.report_io.specs.declared.faults.ReportFault.TheVariants as at
use Rattle.report_io.specs.Answers.{tell_rows}
use Rattle.report_io.specs.Reading.{row_of, row_items}
use Rattle.report_io.specs.Report.{row_item}
use Rattle.report_io.proofs.Steps.{or_answer}
use Rattle.report_io.proofs.Each.{gives_none, missing_at, found_at, more_at, all_found}
use Rattle.report_io.proofs.certificate.rows_of.Goals as goal

pub returns-in_default-row_of : goal.returns-in_default-row_of
returns-in_default-row_of c =
    or_answer tell_rows (row_items c.args.n (map view c.args.items.now)) (at.Certificate (cert.BadRow c.loop-place.place)) c.bad_row.result tt
    (missing_at (row_of c.args.n) (λ k. at.Certificate (cert.BadRow k)) c.args.items.now c.loop-place.place c.index-items-place.result (omega arith) c.index-items-place.is c.loop-place.invariant.0 c.in_default-row_of.ensures) c.bad_row.ensures

pub loop-place-preserved : goal.loop-place-preserved
loop-place-preserved c = (
  none_before-next (gives_none (row_of c.args.n)) c.args.items.now c.loop-place.place c.index-items-place.result (omega arith) c.index-items-place.is c.loop-place.invariant.0 (found_at row_item (row_of c.args.n) (view c.index-items-place.result) c.in-Some.row c.in-Some.ensures),
  ap (map row_item) c.in-Ok-push.ensures.items ∙ more_at row_item (row_of c.args.n) c.loop-place.rows.items c.in-Some.row c.args.items.now c.loop-place.place c.index-items-place.result (omega arith) c.index-items-place.is c.loop-place.invariant.1 c.in-Some.ensures,
)

pub returns : goal.returns
returns c =
    all_found row_item (row_of c.args.n) (λ k. at.Certificate (cert.BadRow k)) c.loop-place.rows.items c.args.items.now c.loop-place.place (omega arith) c.loop-place.invariant.0 c.loop-place.invariant.1
