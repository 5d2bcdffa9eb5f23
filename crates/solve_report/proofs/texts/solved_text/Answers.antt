use Rattle.solve_report.proofs.Built.{run_version}
use Rattle.solve_report.proofs.texts.solved_text.Goals as goal

pub write_report-requires : goal.write_report-requires
write_report-requires g c = run_version _ _ _ _ _ c.in_ok-report.report c.in_ok-report.ensures

pub returns : goal.returns
returns g c = (c.in_ok-report.report, c.in_ok-report.ensures, c.in_ok-text.ensures)
