use Rattle.plane.specs.Geometry.{point}
use Rattle.plane.proofs.laws.Border.{points_differ}
use Rattle.star.proofs.Deciding.{decided_same, decided_other, same_bits, other_bits}
use Rattle.star.proofs.turn.is_before.Goals as goal

pub returns-then-upper-is_upper : goal.returns-then-upper-is_upper
returns-then-upper-is_upper c =
    let S = c.args.points.now in
    let apart = c.len-count.ensures.accepted.apart in
    decided_same (point S c.args.centre) (point S c.args.q) (point S c.args.r) c.is_upper-upper.result c.is_upper.result c.is_left.result
    (points_differ S c.args.q c.args.centre apart c.requires.q_in c.requires.centre_in c.requires.q_apart)
    (points_differ S c.args.r c.args.centre apart c.requires.r_in c.requires.centre_in c.requires.r_apart)
    c.is_upper-upper.ensures c.is_upper.ensures (same_bits _ _ c.if-upper-is_upper.true) c.is_left.ensures

pub returns-else-upper-is_upper : goal.returns-else-upper-is_upper
returns-else-upper-is_upper c =
    let S = c.args.points.now in
    let apart = c.len-count.ensures.accepted.apart in
    decided_other (point S c.args.centre) (point S c.args.q) (point S c.args.r) c.is_upper-upper.result c.is_upper.result
    (points_differ S c.args.q c.args.centre apart c.requires.q_in c.requires.centre_in c.requires.q_apart)
    (points_differ S c.args.r c.args.centre apart c.requires.r_in c.requires.centre_in c.requires.r_apart)
    c.is_upper-upper.ensures c.is_upper.ensures (other_bits _ _ c.if-upper-is_upper.false)
