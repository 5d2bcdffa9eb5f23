use Rattle.std.proofs.Common.{◌∷◌, [], ◌++◌, ◌∙◌, ap, codes, decimal}
use Rattle.json_text.proofs.Laws.{append-two}
use Rattle.report_io.specs.Answers.{truth_text}
use Rattle.report_io.proofs.summary_text.push_later.Goals as goal

pub returns : goal.returns
returns c =
    let s = c.args.summary.now in
    append-two _ _ _ (codes ",\"edges\":") _ c.in_ok-extend_from_slice.ensures.items
    (append-two _ _ _ (decimal s.edges) _ c.in_ok-push_index.ensures
    (append-two _ _ _ (codes ",\"gap\":") _ c.in_ok-extend_from_slice-2.ensures.items
    (append-two _ _ _ (decimal s.gap) _ c.in_ok-push_natural.ensures
    (append-two _ _ _ (codes ",\"optimal\":") _ c.in_ok-extend_from_slice-3.ensures.items
    (append-two _ _ _ (truth_text s.optimal) _ (c.in_ok-extend_from_slice-4.ensures.items ∙ ap (λ xs. c.extend_from_slice-3.new.self.items ++ xs) c.truth.ensures)
    (append-two _ _ _ (codes ",\"version\":") _ c.in_ok-extend_from_slice-5.ensures.items
    (append-two _ _ _ (decimal s.version) (125 ∷ []) c.in_ok-push_index-2.ensures c.in_ok-push.ensures.items)))))))
