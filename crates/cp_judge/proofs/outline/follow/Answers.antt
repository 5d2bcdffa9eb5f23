use Rattle.std.proofs.Common.{◌<◌, length, arith, rules}
use Rattle.std.proofs.lemmas.List.Elements.{All-from_get_or}
use Rattle.cp_judge.proofs.Outlined.{marks_on_border, side_of_pairs}
use Rattle.cp_judge.proofs.outline.follow.Goals as goal

pub propose-requires-clause-few : goal.propose-requires-clause-few
propose-requires-clause-few c = omega (arith, c.requires.order.count, c.len-count.ensures.accepted.count.1)

pub mark_stops-requires-clause-order : goal.mark_stops-requires-clause-order
mark_stops-requires-clause-order c = All-from_get_or (λ v. v < length c.args.marks.now) c.args.order.now 0 (λ k l. omega (arith, c.requires.order.within k l, c.requires.room))

pub returns-clause-marks : goal.returns-clause-marks
returns-clause-marks c =
    marks_on_border c.args.points.now c.args.order.now c.as_slice-chain.result.now c.args.side c.args.marks.now c.mark_stops.new.marks c.requires.bent c.requires.order
    (c.is_chain.ensures (search rules)) c.mark_stops.ensures c.requires.marks

pub returns-clause-side : goal.returns-clause-side
returns-clause-side c = λ t.
    side_of_pairs c.args.points.now c.args.order.now c.as_slice-chain.result.now c.args.sorted.now c.args.side c.requires.bent c.len-count.ensures.accepted.apart c.requires.order
    (c.is_chain.ensures (search rules)) (c.has_pairs.ensures t)
