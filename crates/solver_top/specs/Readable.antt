-- What `check` can read. (This project's own.)
use Rattle.std.specs.Prelude.{◌≤◌, length}
use Rattle.report_io.specs.declared.report.Report.{Report}
use Rattle.report_io.specs.Limits.{IsInstanceWithin}
use Rattle.report_io.specs.Report.{report_text}
use Rattle.solver_top.specs.Answers.{most_input}

-- the instance, the two lists of segments and the text are no longer than what is read
pub record IsReadable (r : Report) : Type 0 where
  pub instance : IsInstanceWithin r.instance
  pub start : length r.start ≤ 20000
  pub solution : length r.solution ≤ 20000
  pub text : length (report_text r) ≤ most_input
