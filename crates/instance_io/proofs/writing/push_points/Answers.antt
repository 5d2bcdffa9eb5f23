use Rattle.std.proofs.Common.{◌++◌, ◌∙◌, ap, sym, arith, nat_lt, append_assoc, ◌∷◌, [], map, false}
use Rattle.serde_json.specs.Written.{comma_if, compact_text, items_text}
use Rattle.text_defs.specs.Texts.{point_data}
use Rattle.instance_io.specs.Refusal.{coordinates}
use Rattle.instance_io.proofs.InstanceText.{rest, next_point, no_more}
use Rattle.instance_io.proofs.writing.push_points.Goals as goal

pub loop-i-preserved : goal.loop-i-preserved
loop-i-preserved c =
    next_point c.loop-i.i c.args.points.now c.loop-i.text.items c.push_point.new.text.items _ (omega (arith, c.len-i-end.ensures.count, c.loop-i-test.true)) c.loop-i.invariant
    (c.in_ok-push_point.ensures ∙ ap (λ p. c.loop-i.text.items ++ (comma_if (nat_lt 0 c.loop-i.i) ++ compact_text (point_data (c.loop-i.i, coordinates p)))) c.at.ensures.point)

pub returns : goal.returns
returns c =
    let points = map coordinates c.args.points.now in
    c.in_ok-push-2.ensures.items
    ∙ (ap (λ xs. c.loop-i.text.items ++ xs) (sym (no_more c.loop-i.i c.args.points.now (omega (arith, c.len-i-end.ensures.count, c.loop-i-test.false)) (nat_lt 0 c.loop-i.i)))
    ∙ (c.loop-i.invariant ∙ (ap (λ xs. xs ++ items_text false (rest 0 points)) c.in_ok-push.ensures.items ∙ append_assoc c.args.text.now.items (91 ∷ []) (items_text false (rest 0 points)))))
