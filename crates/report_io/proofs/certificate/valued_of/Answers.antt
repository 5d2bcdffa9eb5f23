use Rattle.std.proofs.Common.{◌≡◌, ◌∙◌, ℕ, List, Result, Ok, Err, map, ap, sym, inr}
use Rattle.serde_json.specs.View.{view}
use Rattle.price_defs.specs.declared.row.Row.{Row}
use Rattle.text_defs.specs.Steps.{◌>>=◌}
use Rattle.report_io.specs.declared.faults.ReportFault.{ReportFault}
use Rattle.report_io.specs.Answers.{tell_rows, tell_certificate}
use Rattle.report_io.specs.Parts.{RowItem, CertificateParts}
use Rattle.report_io.specs.Reading.{certificate_in, row_items}
use Rattle.report_io.specs.Report.{row_item}
use Rattle.report_io.proofs.Steps.{stops, same_answer}
use Rattle.report_io.proofs.CertificateSteps.{after_rows, no_divisor, no_rows, to_rows, no_value, to_value}
use Rattle.report_io.proofs.certificate.valued_of.Goals as goal

pub returns-in_default : goal.returns-in_default
returns-in_default c = inr (tt, no_divisor c.args.n (view c.args.value.now) c.in_default.ensures.value)

pub returns-in_default-array_at : goal.returns-in_default-array_at
returns-in_default-array_at c = inr (tt, no_rows c.args.n (view c.args.value.now) c.in-Some.q c.in-Some.ensures.value c.in_default-array_at.ensures)

pub returns-in-Err : goal.returns-in-Err
returns-in-Err c =
    let d = view c.args.value.now in
    let items = row_items c.args.n (map view c.in-Some-array_at.items.now) in
    same_answer tell_certificate (certificate_in c.args.n d) (items >>= after_rows d c.in-Some.q) (Err c.in-Err.fault)
    (to_rows c.args.n d c.in-Some.q c.in-Some-array_at.items.now c.in-Some.ensures.value c.in-Some-array_at.ensures)
    (stops tell_rows tell_certificate items (after_rows d c.in-Some.q) c.in-Err.fault c.in-Err.ensures)

pub returns-in-Some-number_at : goal.returns-in-Some-number_at
returns-in-Some-number_at c =
    let d = view c.args.value.now in
    let made : List Row → Result CertificateParts ReportFault = λ rows. Ok (record { q = c.in-Some.q; rows = map row_item rows; value = c.in-Some-number_at.value }) in
    to_rows c.args.n d c.in-Some.q c.in-Some-array_at.items.now c.in-Some.ensures.value c.in-Some-array_at.ensures
    ∙ (ap (λ (r : Result (List RowItem) ReportFault). r >>= after_rows d c.in-Some.q) c.in-Ok.ensures
    ∙ (to_value d c.in-Some.q c.in-Some-number_at.value (map row_item c.in-Ok.rows.items) c.in-Some-number_at.ensures.value ∙ ap made (sym c.make.ensures)))

pub returns-in-None : goal.returns-in-None
returns-in-None c =
    let d = view c.args.value.now in
    inr (
      tt,
      to_rows c.args.n d c.in-Some.q c.in-Some-array_at.items.now c.in-Some.ensures.value c.in-Some-array_at.ensures
          ∙ (ap (λ (r : Result (List RowItem) ReportFault). r >>= after_rows d c.in-Some.q) c.in-Ok.ensures
          ∙ no_value d c.in-Some.q (map row_item c.in-Ok.rows.items) c.in-None.ensures.value),
    )
