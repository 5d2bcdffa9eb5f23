-- What may cross threads: a holder may go to another one, and claims may be shared, where the cells may.
use denote.RattleType.{RattleType}
use denote.Param.Send.{IsSend, IsSync, sendable, view_send}
use Rattle.atomic_table.proofs.shared.Seat.TheSendSync.{the_send as seat_send}
use Rattle.vertex_claims.specs.declared.holding.Held.{Ghosts}
use Rattle.vertex_claims.specs.contracts.holding.Holder.{the_row}
use Rattle.vertex_claims.specs.contracts.holding.Holder.TheInside as Inside
use Rattle.vertex_claims.specs.contracts.holding.Claims as Claims
use Rattle.vertex_claims.proofs.holding.Claims.TheSendSync.{the_send, the_sync}

module _ (C R : RattleType) (g : Ghosts C.Denot R.Denot) where
  pub holder_send : IsSend C → IsSend (the_row C R g)
  holder_send s =
      let inside : IsSend (Inside.the_row C R g) = search (sendable, seat_send) depth 30 in
      view_send _ _ _ _ _ inside

  pub claims_send : IsSend C → IsSend (Claims.the_row C R g)
  claims_send = the_send C R g

  pub claims_sync : IsSend C → IsSync (Claims.the_row C R g)
  claims_sync = the_sync C R g
