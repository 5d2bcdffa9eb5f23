use Rattle.std.proofs.Common.{◌<◌, ◌+◌, sym, subst}
use Rattle.plane.specs.declared.coordinates.Point.{Point}
use Rattle.plane.specs.Geometry.{point}
use Rattle.plane.proofs.laws.Border.{points_differ}
use Rattle.directions.specs.Key.{across, upward}
use Rattle.directions.proofs.Lines.{some_step}
use Rattle.directions.proofs.line_key.line_key_of.Goals as goal

pub key_between-requires-clause-apart : goal.key_between-requires-clause-apart
key_between-requires-clause-apart c =
    let h : 0 < across (point c.args.points.now c.args.p) (point c.args.points.now c.args.q) + upward (point c.args.points.now c.args.p) (point c.args.points.now c.args.q) =
    some_step (point c.args.points.now c.args.p) (point c.args.points.now c.args.q)
    (points_differ c.args.points.now c.args.q c.args.p c.len-count.ensures.accepted.apart c.requires.q_in c.requires.p_in c.requires.apart) in
    subst (λ (x : Point). 0 < across c.at.result x + upward c.at.result x) (sym c.at-2.ensures.point)
    (subst (λ (x : Point). 0 < across x (point c.args.points.now c.args.q) + upward x (point c.args.points.now c.args.q)) (sym c.at.ensures.point) h)
