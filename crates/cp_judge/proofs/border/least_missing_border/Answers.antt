use Rattle.std.proofs.Common.{length, ◌≤◌, arith}
use Rattle.cp_judge.proofs.Steps.{missing_more, missing_found}
use Rattle.cp_judge.proofs.border.least_missing_border.Goals as goal

pub loop-v-preserved : goal.loop-v-preserved
loop-v-preserved c =
    missing_more c.args.points.now c.args.list.now c.loop-v.v c.loop-v.least c.missing_step.result c.lesser-least.result c.loop-v.invariant c.missing_step.ensures c.lesser-least.ensures

pub returns : goal.returns
returns c =
    let whole : length c.args.points.now ≤ c.loop-v.v = omega (arith, c.len-v-end.ensures.count) in
    missing_found c.args.points.now c.args.list.now c.loop-v.v c.loop-v.least whole c.loop-v.invariant
