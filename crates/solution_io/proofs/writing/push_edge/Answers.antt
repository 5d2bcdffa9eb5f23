use Rattle.std.proofs.Common.{ap, ◌∙◌, ◌++◌, sym, codes, decimal, ◌∷◌, []}
use Rattle.serde_json.specs.Written.{comma_if}
use Rattle.json_text.proofs.Laws.{append-two}
use Rattle.solution_io.proofs.SolutionText.{edge_text}
use Rattle.solution_io.proofs.writing.push_edge.Goals as goal

pub returns : goal.returns
returns c =
    append-two _ _ _ (comma_if c.args.later) _ c.in_ok-push_comma.ensures
    (append-two _ _ _ (codes "{\"i\":") _ c.in_ok-extend_from_slice.ensures.items
    (append-two _ _ _ (decimal c.args.pair.lo) _ (c.in_ok-push_index.ensures ∙ ap (λ i. c.extend_from_slice.new.self.items ++ decimal i) c.lo.ensures)
    (append-two _ _ _ (codes ",\"j\":") _ c.in_ok-extend_from_slice-2.ensures.items
    (append-two _ _ _ (decimal c.args.pair.hi) (125 ∷ []) (c.in_ok-push_index-2.ensures ∙ ap (λ i. c.extend_from_slice-2.new.self.items ++ decimal i) c.hi.ensures) c.in_ok-push.ensures.items))))
    ∙ ap (λ text. c.args.text.now.items ++ (comma_if c.args.later ++ text)) (sym (edge_text c.args.pair.lo c.args.pair.hi))
