use Rattle.std.proofs.Common.{ap, map, ◌∙◌, sym, subst, arith}
use Rattle.std.proofs.lemmas.List.{length-map}
use Rattle.std.specs.BTreeMap.{get}
use Rattle.serde_json.specs.View.{view}
use Rattle.cost_defs.specs.Costs.{AreCosts}
use Rattle.cost_defs.proofs.Laws.{pair_cmp}
use Rattle.text_defs.specs.Costs.{costs_of}
use Rattle.json_text.proofs.Laws.{view-at}
use Rattle.instance_io.specs.Reading.{GivesCosts}
use Rattle.instance_io.specs.Told.{error}
use Rattle.instance_io.proofs.CostItems.{bad_if_none, bad_if_found, bad_cost_found, fault_of_items, taken_more, gives_costs}
use Rattle.instance_io.proofs.costs.costs_of.Goals as goal

pub returns-in_default : goal.returns-in_default
returns-in_default c =
    let ds = map view c.args.items.now in
    let count = length-map c.args.items.now view in
    let at = view-at c.args.items.now c.loop-place.place c.index-items-place.result (omega arith) c.index-items-place.is in
    let bad = bad_if_none c.args.n ds c.loop-place.place (view c.index-items-place.result) at c.in_default.ensures in
    ap error (fault_of_items c.args.n ds c.loop-place.place (omega (arith, count, c.requires)) (bad_cost_found c.args.n ds c.loop-place.place (omega (arith, count, c.loop-place-test.true)) c.loop-place.invariant.good bad))

pub returns-in-Ok-Some : goal.returns-in-Ok-Some
returns-in-Ok-Some c =
    let ds = map view c.args.items.now in
    let count = length-map c.args.items.now view in
    let at = view-at c.args.items.now c.loop-place.place c.index-items-place.result (omega arith) c.index-items-place.is in
    let bad = bad_if_found c.args.n ds c.loop-place.place (view c.index-items-place.result) c.in-Some.pair c.in-Some.cost c.in-Ok-Some.field-0-0 (get pair_cmp c.loop-place.found) at c.in-Some.ensures c.loop-place.invariant
    (sym c.in-Ok-Some.field-0-is ∙ c.in-Ok-Some.ensures.old) in
    ap error (fault_of_items c.args.n ds c.loop-place.place (omega (arith, count, c.requires)) (bad_cost_found c.args.n ds c.loop-place.place (omega (arith, count, c.loop-place-test.true)) c.loop-place.invariant.good bad))

pub loop-place-preserved : goal.loop-place-preserved
loop-place-preserved c =
    let ds = map view c.args.items.now in
    let count = length-map c.args.items.now view in
    let at = view-at c.args.items.now c.loop-place.place c.index-items-place.result (omega arith) c.index-items-place.is in
    taken_more c.args.n ds c.loop-place.place (view c.index-items-place.result) c.in-Some.pair c.in-Some.cost (get pair_cmp c.loop-place.found) (get pair_cmp c.insert.new.self) (omega (arith, count, c.loop-place-test.true)) at c.in-Some.ensures c.loop-place.invariant
    (sym c.in-Ok-None.field-0-is ∙ c.in-Ok-None.ensures.old) c.in-Ok-None.ensures.updates.1 c.in-Ok-None.ensures.updates.2

pub make-requires : goal.make-requires
make-requires c =
    let ds = map view c.args.items.now in
    let count = length-map c.args.items.now view in
    let all = gives_costs c.args.n ds c.loop-place.place c.loop-place.found (omega (arith, count, c.requires)) (omega (arith, count, c.loop-place-test.false)) c.loop-place.invariant c.len-count.ensures.ordered in
    subst AreCosts (sym c.in-Ok.ensures) all.2.costs

pub returns-in-Ok : goal.returns-in-Ok
returns-in-Ok c =
    let ds = map view c.args.items.now in
    let count = length-map c.args.items.now view in
    let all = gives_costs c.args.n ds c.loop-place.place c.loop-place.found (omega (arith, count, c.requires)) (omega (arith, count, c.loop-place-test.false)) c.loop-place.invariant c.len-count.ensures.ordered in
    subst (GivesCosts (costs_of c.args.n ds)) (sym (c.make.ensures ∙ c.in-Ok.ensures)) all
