use Rattle.std.proofs.Common.{ap, ◌∙◌, ◌++◌, sym, codes, nat_lt, decimal, ◌∷◌, [], w64, rules}
use Rattle.std.proofs.lemmas.Int.{to_z-of_z}
use Rattle.serde_json.specs.Written.{comma_if, number_text}
use Rattle.serde_json.specs.Find.{of_integer}
use Rattle.json_text.proofs.Laws.{append-two}
use Rattle.instance_io.proofs.InstanceText.{point_text}
use Rattle.instance_io.proofs.writing.push_point.Goals as goal

pub returns : goal.returns
returns c =
    append-two _ _ _ (comma_if (nat_lt 0 c.args.i)) _ c.in_ok-push_comma.ensures
    (append-two _ _ _ (codes "{\"i\":") _ c.in_ok-extend_from_slice.ensures.items
    (append-two _ _ _ (decimal c.args.i) _ c.in_ok-push_index.ensures
    (append-two _ _ _ (codes ",\"x\":") _ c.in_ok-extend_from_slice-2.ensures.items
    (append-two _ _ _ (number_text (of_integer c.args.point.x)) _ (c.in_ok-push_whole.ensures ∙ ap (λ z. c.extend_from_slice-2.new.self.items ++ number_text (of_integer z)) (to_z-of_z w64 c.args.point.x (search rules)))
    (append-two _ _ _ (codes ",\"y\":") _ c.in_ok-extend_from_slice-3.ensures.items
    (append-two _ _ _ (number_text (of_integer c.args.point.y)) (125 ∷ []) (c.in_ok-push_whole-2.ensures ∙ ap (λ z. c.extend_from_slice-3.new.self.items ++ number_text (of_integer z)) (to_z-of_z w64 c.args.point.y (search rules))) c.in_ok-push.ensures.items))))))
    ∙ ap (λ text. c.args.text.now.items ++ (comma_if (nat_lt 0 c.args.i) ++ text)) (sym (point_text c.args.i c.args.point.x c.args.point.y))
