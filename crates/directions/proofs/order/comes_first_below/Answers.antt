use Rattle.std.proofs.Common.{rules, inr, refl}
use Rattle.plane.specs.Geometry.{point}
use Rattle.directions.proofs.Precedence.{left_first, right_later, level_below}
use Rattle.directions.proofs.order.comes_first_below.Goals as goal

pub returns-in-Left : goal.returns-in-Left
returns-in-Left c =
    let S = c.args.points.now in
    (λ t. left_first (point S c.args.p) (point S c.args.q) (point S c.args.r) (inr (c.requires.q_below, c.requires.r_below)) c.in-Left.ensures, λ h. refl)

pub returns-in-Right : goal.returns-in-Right
returns-in-Right c =
    let S = c.args.points.now in
    (λ t. absurd (search rules), λ h. absurd (right_later (point S c.args.p) (point S c.args.q) (point S c.args.r) (inr (c.requires.q_below, c.requires.r_below)) c.in-Right.ensures h))

pub returns-in-Straight : goal.returns-in-Straight
returns-in-Straight c =
    let S = c.args.points.now in
    let level = level_below (point S c.args.p) (point S c.args.q) (point S c.args.r) c.requires.q_below c.requires.r_below c.in-Straight.ensures in
    (λ t. level.0 (c.is_upper.ensures.0 t), λ h. c.is_upper.ensures.1 (level.1 h))
