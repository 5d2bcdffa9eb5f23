use Rattle.std.proofs.Common.{◌<◌, ◌++◌, ◌∙◌, ap, length, map, arith}
use Rattle.std.proofs.lemmas.List.{length-map}
use Rattle.text_defs.specs.Texts.{cost_data}
use Rattle.json_text.proofs.Laws.{items_text-next}
use Rattle.instance_io.specs.Refusal.{cost_item}
use Rattle.instance_io.specs.Writing.{costs_text}
use Rattle.instance_io.proofs.InstanceText.{cost_at, costs_end}
use Rattle.instance_io.proofs.writing.push_costs.Goals as goal

pub loop-place-preserved : goal.loop-place-preserved
loop-place-preserved c =
    let D = c.list-list.result.now in
    let ds = map cost_data (map cost_item D) in
    let count = length-map (map cost_item D) cost_data in
    let listed = length-map D cost_item in
    items_text-next c.loop-place.place ds (cost_data (cost_item c.index-list-place.result)) c.loop-place.text.items c.push_cost.new.text.items _ (omega (arith, count, listed, c.loop-place-test.true))
    (cost_at D c.loop-place.place c.index-list-place.result (omega arith) c.index-list-place.is) c.loop-place.invariant c.in_ok-push_cost.ensures

pub returns : goal.returns
returns c =
    let D = c.list-list.result.now in
    let some : 0 < length D = grind (arith, c.is_empty.ensures, c.if-is_empty.false) in
    costs_end D c.loop-place.place c.args.text.now.items c.extend_from_slice.new.self.items c.loop-place.text.items c.extend_from_slice-2.new.self.items some (omega (arith, c.loop-place-test.false))
    c.in_ok-extend_from_slice.ensures.items c.loop-place.invariant c.in_ok-extend_from_slice-2.ensures.items
    ∙ ap (λ list. c.args.text.now.items ++ costs_text (map cost_item list)) c.list-list.ensures.list
