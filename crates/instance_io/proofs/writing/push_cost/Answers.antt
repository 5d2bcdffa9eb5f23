use Rattle.std.proofs.Common.{ap, ◌∙◌, ◌++◌, sym, decimal, ◌∷◌, []}
use Rattle.serde_json.specs.Written.{comma_if}
use Rattle.json_text.proofs.Laws.{append-two}
use Rattle.instance_io.proofs.InstanceText.{cost_text}
use Rattle.instance_io.proofs.writing.push_cost.Goals as goal

pub returns : goal.returns
returns c =
    append-two _ _ _ (comma_if c.args.later) _ c.in_ok-push_comma.ensures
    (append-two _ _ _ (91 ∷ []) _ c.in_ok-push.ensures.items
    (append-two _ _ _ (decimal c.args.pair.lo) _ (c.in_ok-push_index.ensures ∙ ap (λ i. c.push.new.self.items ++ decimal i) c.lo.ensures)
    (append-two _ _ _ (44 ∷ []) _ c.in_ok-push-2.ensures.items
    (append-two _ _ _ (decimal c.args.pair.hi) _ (c.in_ok-push_index-2.ensures ∙ ap (λ i. c.push-2.new.self.items ++ decimal i) c.hi.ensures)
    (append-two _ _ _ (44 ∷ []) _ c.in_ok-push-3.ensures.items
    (append-two _ _ _ (decimal c.args.cost) (93 ∷ []) c.in_ok-push_index-3.ensures c.in_ok-push-4.ensures.items))))))
    ∙ ap (λ text. c.args.text.now.items ++ (comma_if c.args.later ++ text)) (sym (cost_text c.args.pair.lo c.args.pair.hi c.args.cost))
