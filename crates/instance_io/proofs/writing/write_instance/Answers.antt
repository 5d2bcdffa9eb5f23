use Rattle.std.proofs.Common.{◌++◌, ◌∙◌, ap, sym, codes, [], map}
use Rattle.json.specs.Print.{quoted}
use Rattle.json_text.proofs.Laws.{append-two}
use Rattle.instance_io.specs.Refusal.{coordinates, cost_item}
use Rattle.instance_io.specs.Writing.{costs_text, points_text}
use Rattle.instance_io.proofs.InstanceText.{parts_text}
use Rattle.instance_io.proofs.writing.write_instance.Goals as goal

pub returns : goal.returns
returns c =
    let costs = costs_text (map cost_item c.args.instance.now.costs) in
    let points = points_text (map coordinates c.args.instance.now.points) in
    let name = c.deref.ensures.value ∙ (c.in_ok-name.ensures ∙ ap quoted c.as_str.ensures) in
    append-two [] _ _ (codes "{") _ (c.in_ok-push.ensures.items ∙ ap (λ xs. xs ++ codes "{") c.in_ok-text.ensures.items)
    (append-two _ _ _ costs _ c.in_ok-push_costs.ensures
    (append-two _ _ _ (codes "\"name\":") _ c.in_ok-extend_from_slice.ensures.items
    (append-two _ _ _ (quoted c.args.instance.now.name) _ (c.in_ok-extend_from_slice-2.ensures.items ∙ ap (λ xs. c.extend_from_slice.new.self.items ++ xs) name)
    (append-two _ _ _ (codes ",\"points\":") _ c.in_ok-extend_from_slice-3.ensures.items
    (append-two _ _ _ points (codes "}") c.in_ok-push_points.ensures c.in_ok-push-2.ensures.items)))))
    ∙ sym (parts_text (map cost_item c.args.instance.now.costs) c.args.instance.now.name (map coordinates c.args.instance.now.points))
