use Rattle.std.proofs.Common.{ap, ◌∙◌, arith, map}
use Rattle.json_text.proofs.Laws.{none_before-next}
use Rattle.serde_json.specs.View.{view}
use Rattle.instance_io.specs.Refusal.{ends}
use Rattle.solution_io.proofs.Pairs.{is_no_edge, an_edge, edge_missing, edges_more, all_edges}
use Rattle.solution_io.proofs.edges.edges_of.Goals as goal

pub returns-in_default-edge_of : goal.returns-in_default-edge_of
returns-in_default-edge_of c =
    edge_missing c.args.n c.args.items.now c.loop-place.place c.index-items-place.result c.requires (omega arith) c.index-items-place.is c.loop-place.invariant.0 c.in_default-edge_of.ensures

pub loop-place-preserved : goal.loop-place-preserved
loop-place-preserved c = (
  none_before-next (is_no_edge c.args.n) c.args.items.now c.loop-place.place c.index-items-place.result (omega arith) c.index-items-place.is c.loop-place.invariant.0 (an_edge c.args.n (view c.index-items-place.result) c.in-Some.pair c.in-Some.ensures),
  ap (map ends) c.in-Ok-push.ensures.items ∙ edges_more c.args.n c.loop-place.pairs.items c.in-Some.pair c.args.items.now c.loop-place.place c.index-items-place.result (omega arith) c.index-items-place.is c.loop-place.invariant.1 c.in-Some.ensures,
)

pub returns : goal.returns
returns c =
    all_edges c.args.n c.loop-place.pairs.items c.args.items.now c.loop-place.place c.requires (omega arith) c.loop-place.invariant.0 c.loop-place.invariant.1
