use Rattle.std.proofs.Common.{sym, ap, ◌∙◌, map, arith}
use Rattle.serde_json.specs.Data.{Data}
use Rattle.serde_json.specs.View.{view}
use Rattle.text_defs.specs.Instances.{has_index, is_indexed, differs}
use Rattle.json_text.proofs.Laws.{position-item, position-no_item, none_before-next}
use Rattle.instance_io.proofs.points.first_mixed.Goals as goal

pub returns-then-differs : goal.returns-then-differs
returns-then-differs c =
    let P = λ (d : Data). differs (is_indexed (map view c.args.items.now)) (has_index d) in
    sym (position-item P c.args.items.now c.loop-place.place c.index-items-place.result (omega arith) c.index-items-place.is c.loop-place.invariant
    (ap (λ b. differs b (has_index (view c.index-items-place.result))) (sym c.is_indexed-indexed.ensures) ∙ (ap (differs c.is_indexed-indexed.result) (sym c.has.ensures) ∙ (sym c.differs.ensures ∙ c.if-differs.true))))

pub loop-place-preserved : goal.loop-place-preserved
loop-place-preserved c =
    let P = λ (d : Data). differs (is_indexed (map view c.args.items.now)) (has_index d) in
    none_before-next P c.args.items.now c.loop-place.place c.index-items-place.result (omega arith) c.index-items-place.is c.loop-place.invariant
    (ap (λ b. differs b (has_index (view c.index-items-place.result))) (sym c.is_indexed-indexed.ensures) ∙ (ap (differs c.is_indexed-indexed.result) (sym c.has.ensures) ∙ (sym c.differs.ensures ∙ c.if-differs.false)))

pub returns : goal.returns
returns c =
    let P = λ (d : Data). differs (is_indexed (map view c.args.items.now)) (has_index d) in
    sym (position-no_item P c.args.items.now c.loop-place.place (omega arith) c.loop-place.invariant)
