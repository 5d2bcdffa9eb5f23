-- What may cross threads: a job may go to another one, and costs and certificates may be shared.
use denote.Param.Send.{IsSend, IsSync, sendable, view_send, view_sync}
use denote.Param.SendFields.{declared_send, declared_sync, variants_send, variants_sync}
use Rattle.std.proofs.Crossing.{Vec-send, Vec-sync}
use Rattle.cost_defs.specs.contracts.costs.Costs as Costs
use Rattle.cost_defs.specs.contracts.costs.Costs.TheInside as CostsInside
use Rattle.price_defs.specs.contracts.row.Row as Row
use Rattle.price_defs.specs.contracts.row.RowList as RowList
use Rattle.price_defs.specs.contracts.row.RowList.TheInside as RowListInside
use Rattle.price_defs.specs.contracts.row.Certificate as Certificate
use Rattle.board.proofs.Laws.{pass_send}
use Rattle.workers.specs.contracts.jobs.Job as Job
use Rattle.workers.specs.contracts.jobs.Plan as Plan

row_send : IsSend Row.the_row
row_send = variants_send Row.enum (search sendable)

row_sync : IsSync Row.the_row
row_sync = variants_sync Row.enum (search sendable)

rows_send : IsSend RowList.the_row
rows_send =
    let inside : IsSend RowListInside.the_row = declared_send RowListInside.the_type (Vec-send Row.the_row row_send, tt) in
    view_send _ _ _ _ _ inside

rows_sync : IsSync RowList.the_row
rows_sync =
    let inside : IsSync RowListInside.the_row = declared_sync RowListInside.the_type (Vec-sync Row.the_row row_sync, tt) in
    view_sync _ _ _ _ _ inside

certificate_send : IsSend Certificate.the_row
certificate_send = declared_send Certificate.the_type (search sendable, (rows_send, tt))

pub certificate_sync : IsSync Certificate.the_row
certificate_sync = declared_sync Certificate.the_type (search sendable, (rows_sync, tt))

pub costs_sync : IsSync Costs.the_row
costs_sync =
    let inside : IsSync CostsInside.the_row = declared_sync CostsInside.the_type (search (Vec-sync, sendable) depth 40, tt) in
    view_sync _ _ _ _ _ inside

pub plan_sync : IsSync Plan.the_row
plan_sync = declared_sync Plan.the_type (search sendable, (search sendable, tt))

pub job_send : IsSend Job.the_row
job_send = variants_send Job.enum ((pass_send, (search sendable, tt)), ((search sendable, (search (certificate_send, sendable) depth 40, tt)), tt))
