use Rattle.std.proofs.Common.{arith}
use Rattle.branch_tree.proofs.Walked.{not_none, shows, answered, bounds}
use Rattle.branch_tree.proofs.checking.check_tree.Goals as goal

pub unreachable-requires : goal.unreachable-requires
unreachable-requires c =
    let p = c.in-Ok-Ok-None in
    not_none c.args.points.now c.args.costs.now c.border_cost-base.result c.args.tree.now c.args.known.now c.walk.result p.field-0 p.field-0-0 p.is p.field-0-is p.field-0-0-is c.walk.ensures c.requires.known c.requires.distinct

pub returns-in-Ok-Ok-Some-clause-answer : goal.returns-in-Ok-Ok-Some-clause-answer
returns-in-Ok-Ok-Some-clause-answer c =
    let p = c.in-Ok-Ok-Some in
    answered c.args.points.now c.args.costs.now c.border_cost-base.result c.args.tree.now p.least (omega (arith, c.if-tree.false)) c.border_cost-base.ensures.cost
    (shows c.args.points.now c.args.costs.now c.border_cost-base.result c.args.tree.now c.walk.result p.field-0 p.field-0-0 p.least p.is p.field-0-is p.field-0-0-is c.walk.ensures)

pub returns-in-Ok-Ok-Some-clause-bound : goal.returns-in-Ok-Ok-Some-clause-bound
returns-in-Ok-Ok-Some-clause-bound c = λ v K.
    let p = c.in-Ok-Ok-Some in
    bounds c.args.points.now c.args.costs.now c.border_cost-base.result c.args.tree.now p.least v K c.len-count.ensures.accepted.count.0 c.border_cost-base.ensures.cost
    (shows c.args.points.now c.args.costs.now c.border_cost-base.result c.args.tree.now c.walk.result p.field-0 p.field-0-0 p.least p.is p.field-0-is p.field-0-0-is c.walk.ensures)
