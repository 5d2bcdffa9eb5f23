-- When the text of a report fixes the report.
use Rattle.std.specs.Prelude.{◌<◌, ◌^◌, length, All}
use Rattle.report_io.specs.declared.report.Report.{Report}

-- a list shorter than 2^32, as each one is that is handed in, and costs of pairs of its points alone
pub record HasSmallLists (r : Report) : Type 0 where
  pub solution : length r.solution < 2 ^ 32
  pub costs : All (λ x. x.0.hi < length r.instance.points) r.instance.costs
