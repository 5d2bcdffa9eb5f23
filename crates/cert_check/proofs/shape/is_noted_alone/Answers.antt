use Rattle.std.proofs.Common.{◌<◌, None, length, sym, ◌∙◌, arith}
use Rattle.std.proofs.lemmas.List.{get_or_default}
use Rattle.cert_check.proofs.Shapes.{alone_set}
use Rattle.cert_check.proofs.shape.is_noted_alone.Goals as goal

pub returns-in-Some-clause-alone : goal.returns-in-Some-clause-alone
returns-in-Some-clause-alone c =
    let l : c.args.p < length c.args.alone.now.items = omega (arith, c.requires.marks.count, c.requires.p_in) in
    c.requires.marks.each c.args.p c.in-Some.known c.requires.p_in
    (get_or_default c.args.alone.now.items c.args.p None c.index.result.now l ∙ sym c.index.ensures ∙ c.in-Some.is)

pub returns-clause-marks : goal.returns-clause-marks
returns-clause-marks c = alone_set c.args.points.now c.args.alone.now.items c.args.p c.has_none-is_alone.result c.requires.p_in c.has_none-is_alone.ensures c.requires.marks
