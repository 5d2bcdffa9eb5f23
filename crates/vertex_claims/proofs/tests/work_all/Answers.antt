use denote.Param.Send.{sendable}
use Rattle.vertex_claims.proofs.tests.Counter.TheSendSync.{the_send as counter_send}
use Rattle.vertex_claims.proofs.Laws.{holder_send}
use Rattle.vertex_claims.proofs.tests.work_all.Goals as goal

pub for_each_mut-requires-send-T : goal.for_each_mut-requires-send-T
for_each_mut-requires-send-T g c κs within = search (holder_send, counter_send, sendable) depth 30
