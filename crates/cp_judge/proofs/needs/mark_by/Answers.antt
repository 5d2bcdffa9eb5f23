use Rattle.std.proofs.Common.{refl}
use Rattle.cp_judge.specs.Searching.{IsMetBy}
use Rattle.cp_judge.proofs.Marks.{met_by_end, marks_kept}
use Rattle.std.proofs.Common.{length}
use Rattle.cp_judge.proofs.needs.mark_by.Goals as goal
use Rattle.partition_defs.proofs.laws.Joined.{other_within}

pub mark_seen-requires-clause-r_in : goal.mark_seen-requires-clause-r_in
mark_seen-requires-clause-r_in c =
    other_within c.args.e c.args.p c.in-Some.r (length c.args.points.now) ((c.in-Some.ensures c.in-Some.r).1 refl) c.requires.e_in

pub returns-in-Some : goal.returns-in-Some
returns-in-Some c =
    met_by_end c.args.points.now c.args.e c.args.p c.in-Some.r c.in-Some.ensures (length c.args.points.now) c.args.marks.now c.mark_seen.new.marks c.mark_seen.ensures

pub returns-in_default : goal.returns-in_default
returns-in_default c =
    marks_kept (IsMetBy c.args.points.now c.args.e c.args.p) (length c.args.points.now) c.args.marks.now (λ q u. c.in_default.ensures u.0 u.1)
