use Rattle.std.proofs.Common.{◌≡◌, IsUtf8, subst}
use Rattle.report_io.specs.Report.{Gives, report_text}
use Rattle.report_io.proofs.laws.ReportBack.{IsTyped, report_back, gives_once}
use Rattle.report_io.proofs.laws.report_reads_back.Goals as goal

pub returns : goal.returns
returns c =
    let r = c.args.report.now in
    let typed : IsTyped r = record {
      name = subst IsUtf8 c.as_str-name.ensures c.as_str-name.utf8;
      solution_name = subst IsUtf8 c.as_str-solution_name.ensures c.as_str-solution_name.utf8;
      points = c.len-count.ensures.accepted;
      costs = c.list-costs.ensures.costs;
    } in
    let read : Gives (report_text r) r = report_back r typed c.requires c.instance_reads_back.ensures.read in
    record { read = read; once = λ other h. gives_once (report_text r) other r h read }
