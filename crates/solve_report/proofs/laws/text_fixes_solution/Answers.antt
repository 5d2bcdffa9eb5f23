use Rattle.std.proofs.Common.{IsUtf8, subst}
use Rattle.report_io.proofs.laws.ReportBack.{IsTyped}
use Rattle.solve_report.proofs.laws.OneReport.{one_report}
use Rattle.solve_report.proofs.laws.text_fixes_solution.Goals as goal

pub returns : goal.returns
returns c = λ E few h k text.
    let one : IsTyped c.args.one.now = record {
      name = subst IsUtf8 c.as_str-name.ensures c.as_str-name.utf8;
      solution_name = subst IsUtf8 c.as_str-solution_name.ensures c.as_str-solution_name.utf8;
      points = c.len-count.ensures.accepted;
      costs = c.list-costs.ensures.costs;
    } in
    let other : IsTyped c.args.other.now = record {
      name = subst IsUtf8 c.as_str-other_name.ensures c.as_str-other_name.utf8;
      solution_name = subst IsUtf8 c.as_str-other_solution_name.ensures c.as_str-other_solution_name.utf8;
      points = c.len-other_count.ensures.accepted;
      costs = c.list-other_costs.ensures.costs;
    } in
    one_report E c.args.one.now c.args.other.now few one other c.requires.one c.requires.other h k text
