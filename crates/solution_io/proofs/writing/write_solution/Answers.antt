use Rattle.std.proofs.Common.{◌++◌, ◌∙◌, ap, codes, arith}
use Rattle.json.specs.Print.{quoted}
use Rattle.json_text.proofs.Laws.{append-two}
use Rattle.solution_io.proofs.SolutionText.{next_edge, last_edge}
use Rattle.solution_io.proofs.writing.write_solution.Goals as goal

pub loop-place-preserved : goal.loop-place-preserved
loop-place-preserved c =
    next_edge c.loop-place.place c.args.pairs.now c.index-pairs-place.result c.loop-place.text.items c.push_edge.new.text.items _ (omega arith) c.index-pairs-place.is c.loop-place.invariant c.in_ok-push_edge.ensures

pub returns : goal.returns
returns c =
    let name = c.deref.ensures.value ∙ (c.in_ok-name.ensures ∙ ap quoted c.as_str.ensures) in
    last_edge c.loop-place.place c.args.pairs.now c.args.name.now c.loop-place.text.items c.extend_from_slice-3.new.self.items (omega arith) c.loop-place.invariant
    (append-two c.loop-place.text.items _ _ (codes "],\"instance_name\":") (quoted c.args.name.now ++ codes ",\"type\":\"Solution\"}") c.in_ok-extend_from_slice.ensures.items
    (append-two _ _ _ (quoted c.args.name.now) (codes ",\"type\":\"Solution\"}") (c.in_ok-extend_from_slice-2.ensures.items ∙ ap (λ xs. c.extend_from_slice.new.self.items ++ xs) name) c.in_ok-extend_from_slice-3.ensures.items))
