use Rattle.std.proofs.Common.{◌≡◌, map, take}
use Rattle.std.specs.List.{filter_map}
use Rattle.serde_json.specs.View.{view}
use Rattle.text_defs.specs.Solutions.{edge_of}
use Rattle.json_text.proofs.Laws.{NoneBefore}
use Rattle.instance_io.specs.Refusal.{ends}
use Rattle.solution_io.proofs.Pairs.{is_no_edge}
use Rattle.solution_io.proofs.edges.edges_of.Given as goal

abbrev pub invariant-loop-place : goal.invariant-loop-place
invariant-loop-place l =
    NoneBefore (is_no_edge l.n) (map view l.items) l.place
    × (map ends l.pairs.items ≡ filter_map (edge_of l.n) (take l.place (map view l.items)))
