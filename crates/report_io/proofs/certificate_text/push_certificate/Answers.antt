use Rattle.std.proofs.Common.{◌∷◌, [], ◌++◌, ◌∙◌, ap, sym, codes, decimal, map}
use Rattle.json_text.proofs.Laws.{append-two}
use Rattle.report_io.specs.Answers.{list_text}
use Rattle.report_io.specs.Report.{row_item, certificate_parts}
use Rattle.report_io.specs.Texts.{row_data}
use Rattle.report_io.proofs.Written.{certificate_text}
use Rattle.report_io.proofs.certificate_text.push_certificate.Goals as goal

pub returns : goal.returns
returns c =
    let C = c.args.certificate.now in
    append-two _ _ _ (codes "{\"q\":") _ c.in_ok-extend_from_slice.ensures.items
    (append-two _ _ _ (decimal C.q) _ c.in_ok-push_natural.ensures
    (append-two _ _ _ (codes ",\"rows\":[") _ c.in_ok-extend_from_slice-2.ensures.items
    (append-two _ _ _ (list_text (map row_data (map row_item C.rows))) _ (c.in_ok-push_rows.ensures ∙ ap (λ rows. c.extend_from_slice-2.new.self.items ++ list_text (map row_data (map row_item rows))) c.as_slice.ensures)
    (append-two _ _ _ (codes ",\"value\":") _ c.in_ok-extend_from_slice-3.ensures.items
    (append-two _ _ _ (decimal c.args.value) (125 ∷ []) c.in_ok-push_natural-2.ensures c.in_ok-push.ensures.items)))))
    ∙ ap (λ text. c.args.text.now.items ++ text) (sym (certificate_text (certificate_parts C c.args.value)))
