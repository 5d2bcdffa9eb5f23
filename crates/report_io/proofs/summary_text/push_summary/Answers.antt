use Rattle.std.proofs.Common.{◌++◌, ◌∙◌, ◌==◌, ap, sym, codes, decimal, map}
use Rattle.json_text.proofs.Laws.{append-two}
use Rattle.text_defs.specs.Texts.{index_data}
use Rattle.report_io.specs.Answers.{list_text, cost_text, later_text}
use Rattle.report_io.proofs.Written.{summary_text}
use Rattle.report_io.proofs.summary_text.push_summary.Goals as goal

pub returns : goal.returns
returns c =
    let s = c.args.summary.now in
    append-two _ _ _ (codes "{\"bound\":") _ c.in_ok-extend_from_slice.ensures.items
    (append-two _ _ _ (decimal s.bound) _ c.in_ok-push_natural.ensures
    (append-two _ _ _ (codes ",\"commits\":[") _ c.in_ok-extend_from_slice-2.ensures.items
    (append-two _ _ _ (list_text (map index_data s.commits)) _ (c.in_ok-push_counts.ensures ∙ ap (λ ns. c.extend_from_slice-2.new.self.items ++ list_text (map index_data ns)) c.as_slice.ensures)
    (append-two _ _ _ (cost_text (s.version == 2) s.cost) (later_text s) c.in_ok-push_cost.ensures c.in_ok-push_later.ensures))))
    ∙ ap (λ text. c.args.text.now.items ++ text) (sym (summary_text s))
