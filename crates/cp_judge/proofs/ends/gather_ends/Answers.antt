use Rattle.std.proofs.Common.{◌≡◌, length, rules, arith}
use Rattle.cp_judge.proofs.Gathered.{one_more, one_passed, all_gathered, more_than}
use Rattle.cp_judge.proofs.ends.gather_ends.Goals as goal
use Rattle.cp_judge.proofs.ends.gather_ends.Goals.{in-Some+else-is_err, in_default}

pub returns-then-is_err-clause-full : goal.returns-then-is_err-clause-full
returns-then-is_err-clause-full c = λ _.
    let full : length c.loop-e.ends.items ≡ 5000 = search rules in
    let more = more_than c.args.list.now c.loop-e.e-index c.args.p c.e-item.result c.in-Some.r c.loop-e.ends.items c.loop-e-test.true c.e-item.is c.in-Some.ensures c.loop-e.invariant in
    omega arith

pub loop-e-preserved : goal.loop-e-preserved
loop-e-preserved c = elim c.match-other_end.branch [
  | in-Some+else-is_err w ↦
      one_more c.args.list.now c.loop-e.e-index c.args.p c.e-item.result w.in-Some.r c.loop-e.ends.items c.match-other_end.ends.items c.loop-e-test.true c.e-item.is w.in-Some.ensures
      (search rules) c.loop-e.invariant
  | in_default w ↦
      one_passed c.args.list.now c.loop-e.e-index c.args.p c.e-item.result c.loop-e.ends.items c.match-other_end.ends.items c.loop-e-test.true c.e-item.is w.in_default.ensures
      (search rules) c.loop-e.invariant
]

pub returns-clause-gathered : goal.returns-clause-gathered
returns-clause-gathered c = λ _. all_gathered c.args.list.now c.loop-e.e-index c.args.p c.loop-e.ends.items c.loop-e-test.false c.loop-e.invariant
