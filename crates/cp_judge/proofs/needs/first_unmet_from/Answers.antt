use Rattle.std.proofs.Common.{ℕ, ◌<◌, length, arith}
use borrow.Author.Count.{below_more}
use Rattle.plane.specs.Geometry.{IsInner}
use Rattle.partition_defs.specs.Partition.{MeetsNeedsAt}
use Rattle.cp_judge.proofs.Marks.{unmet_found}
use Rattle.cp_judge.proofs.Rounds.{targets_joined}
use Rattle.cp_judge.proofs.needs.first_unmet_from.Goals as goal

pub returns-in-Some : goal.returns-in-Some
returns-in-Some c =
    let l : c.loop-p.p < length c.args.points.now = omega (arith, c.len-p-end.ensures.count) in
    unmet_found c.args.points.now c.args.list.now c.loop-p.p c.in-Some.q l c.in-Some.ensures.0 c.in-Some.ensures.1 c.loop-p.invariant.met

pub first_unmet_beside-requires-clause-run : goal.first_unmet_beside-requires-clause-run
first_unmet_beside-requires-clause-run c = targets_joined c.args.list.now c.args.ends.now c.loop-p.p _ c.requires.ends c.next_run-from.ensures.run

pub loop-p-preserved : goal.loop-p-preserved
loop-p-preserved c = record {
  within = c.next_run-from.ensures.within;
  met = below_more (λ (p : ℕ). IsInner c.args.points.now p → MeetsNeedsAt c.args.points.now c.args.list.now p) c.loop-p.p c.loop-p.invariant.met (λ i. c.in_default.ensures i);
}
