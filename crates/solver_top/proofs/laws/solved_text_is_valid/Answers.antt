use Rattle.std.proofs.Common.{IsUtf8, subst}
use Rattle.report_io.proofs.laws.ReportBack.{IsTyped}
use Rattle.solver_top.proofs.Readable.{reads_back, right_is_done}
use Rattle.solver_top.proofs.Reports.{solved_right}
use Rattle.solver_top.proofs.laws.solved_text_is_valid.Goals as goal

pub returns-clause-read : goal.returns-clause-read
returns-clause-read c = λ E low h.
    let typed : IsTyped c.args.report.now = record {
      name = subst IsUtf8 c.as_str-name.ensures c.as_str-name.utf8;
      solution_name = subst IsUtf8 c.as_str-solution_name.ensures c.as_str-solution_name.utf8;
      points = c.len-count.ensures.accepted;
      costs = c.list-costs.ensures.costs;
    } in
    (c.requires.text, (c.args.report.now, reads_back E c.args.report.now low typed c.requires c.instance_reads_back.ensures.read h, c.len-count.ensures.accepted))

pub returns-clause-done : goal.returns-clause-done
returns-clause-done c = λ E low h verdict text told.
    let typed : IsTyped c.args.report.now = record {
      name = subst IsUtf8 c.as_str-name.ensures c.as_str-name.utf8;
      solution_name = subst IsUtf8 c.as_str-solution_name.ensures c.as_str-solution_name.utf8;
      points = c.len-count.ensures.accepted;
      costs = c.list-costs.ensures.costs;
    } in
    right_is_done c.args.report.now verdict text c.len-count.ensures.accepted
    (reads_back E c.args.report.now low typed c.requires c.instance_reads_back.ensures.read h)
    (solved_right c.args.report.now E c.len-count.ensures.accepted h) told
