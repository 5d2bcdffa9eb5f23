use Rattle.std.proofs.Crossing.{crosses}
use denote.Param.{param}
use denote.Param.Send.{IsSync, sendable}
use Rattle.board.proofs.Laws.{board_sync}
use Rattle.workers.proofs.Laws.{job_send, costs_sync, certificate_sync, plan_sync}
use Rattle.workers.proofs.working.run_jobs.Goals as goal

pub for_each_mut-requires-send-T : goal.for_each_mut-requires-send-T
for_each_mut-requires-send-T g c κs within = search (job_send, sendable) depth 30

pub for_each_mut-requires-sync-F : goal.for_each_mut-requires-sync-F
for_each_mut-requires-sync-F g c κs within =
    let gate : Unit {0} → IsSync (param 1 g.row.G) = λ _. c.type_bounds.sync-G in
    search (gate, board_sync, costs_sync, certificate_sync, plan_sync, crosses, sendable) depth 40
