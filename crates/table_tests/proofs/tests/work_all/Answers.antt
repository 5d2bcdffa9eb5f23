use denote.Param.Send.{sendable}
use Rattle.std.proofs.Crossing.{crosses}
use Rattle.vertex_claims.proofs.Laws.{holder_send, claims_sync}
use Rattle.chronicle.proofs.Laws.{share_send, chronicle_sync}
use Rattle.table_tests.proofs.tests.work_all.Goals as goal

pub for_each_mut-requires-send-T : goal.for_each_mut-requires-send-T
for_each_mut-requires-send-T g c κs within = search (holder_send, share_send, crosses, sendable) depth 30

pub for_each_mut-requires-sync-F : goal.for_each_mut-requires-sync-F
for_each_mut-requires-sync-F g c κs within = search (claims_sync, chronicle_sync, share_send, crosses, sendable) depth 30
