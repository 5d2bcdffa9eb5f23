use Rattle.std.proofs.Common.{rules, ◌∙◌}
use Rattle.std.proofs.lemmas.Int.{to_z-of_z}
use mir.Syntax.{w64}
use Rattle.boxes.proofs.Corners.{is_rightmost}
use Rattle.boxes.proofs.bounds.Bounds.rightmost.Goals as goal

pub returns-clause-rightmost : goal.returns-clause-rightmost
returns-clause-rightmost c =
    is_rightmost c.args.self.now c.args.a c.args.b c.point_at.result c.rightmost_x.result c.rightmost_y.result
    (c.point_at.ensures.x ∙ to_z-of_z w64 c.rightmost_x.result (search rules)) (c.point_at.ensures.y ∙ to_z-of_z w64 c.rightmost_y.result (search rules))
    c.rightmost_x.ensures c.rightmost_y.ensures
