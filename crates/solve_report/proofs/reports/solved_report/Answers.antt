use Rattle.solve_report.proofs.Built.{run_few, run_short, run_below, run_report}
use Rattle.solve_report.proofs.reports.solved_report.Goals as goal

pub summary_of-requires-clause-few : goal.summary_of-requires-clause-few
summary_of-requires-clause-few g c = run_few _ _ _ _ c.in_ok-run.run' c.in_ok-run.ensures

pub summary_of-requires-clause-short : goal.summary_of-requires-clause-short
summary_of-requires-clause-short g c = run_short _ _ _ _ c.in_ok-run.run' c.in_ok-run.ensures

pub summary_of-requires-clause-below : goal.summary_of-requires-clause-below
summary_of-requires-clause-below g c = run_below _ _ _ _ c.in_ok-run.run' c.len-count.ensures.accepted c.in_ok-run.ensures

pub returns : goal.returns
returns g c =
    run_report c.args.instance c.args.edit_workers c.args.search c.in_ok-run.run' c.in_ok-summary.summary c.in_ok-solution_name.solution_name c.report_of.result
    c.in_ok-run.ensures c.in_ok-solution_name.ensures c.in_ok-summary.ensures c.report_of.ensures
