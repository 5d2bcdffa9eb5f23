-- A share may cross threads, and a history may be shared, whatever its entries are.
use denote.RattleType.{RattleType}
use denote.Builtin.{unit}
use denote.Param.Send.{IsSend, IsSync, sendable, view_send, view_sync}
use denote.Param.SendFields.{declared_send, declared_sync}
use Rattle.core.proofs.snapshot.Sent.{snapshot_send, snapshot_sync}
use Rattle.std.proofs.Crossing.{send as heap_send, sync as heap_sync, frees}
use Rattle.std.specs.contracts.alloc.Global as Global
use Rattle.std.specs.contracts.impls.GlobalAllocator.TheImpl as Heap
use Rattle.atomic_table.specs.contracts.shared.Seat as Seat
use Rattle.atomic_table.proofs.shared.Seat.TheSendSync.{the_send as seat_send}
use Rattle.atomic_table.specs.contracts.owned.Table as Table
use Rattle.atomic_table.proofs.owned.Table.TheSendSync.{the_send as table_send, the_sync as table_sync}
use Rattle.index_sets.specs.declared.entry.Entry.{Ghosts}
use Rattle.chronicle.specs.contracts.table.View as View
use Rattle.chronicle.specs.contracts.table.About as About
use Rattle.chronicle.specs.contracts.table.Rule as Rule
use Rattle.chronicle.specs.contracts.table.RuleTableRuleUnitViewAbout.TheImpl as Ruled
use Rattle.chronicle.specs.contracts.history.Share.{the_row}
use Rattle.chronicle.specs.contracts.history.Share.TheInside as Inside
use Rattle.chronicle.specs.contracts.history.Chronicle as Chronicle
use Rattle.chronicle.specs.contracts.history.Chronicle.TheInside as Whole

pub share_send : (T : RattleType) (g : Ghosts T.Denot) → IsSend (the_row T g)
share_send T g =
    let inside : IsSend (Inside.the_row T g) = search (sendable, seat_send) depth 30 in
    view_send _ _ _ _ _ inside

unit_send : IsSend unit
unit_send = search sendable

module _ (T : RattleType) (g : Ghosts T.Denot) where
  words_sync : IsSync (Table.the_row unit (View.the_row T) About.the_row Rule.the_row Global.the_row (Ruled.ghosts T g Ruled.no_dict) Heap.ghosts)
  words_sync = table_sync unit (View.the_row T) About.the_row Rule.the_row Global.the_row (Ruled.ghosts T g Ruled.no_dict) Heap.ghosts unit_send heap_send heap_sync frees

  words_send : IsSend (Table.the_row unit (View.the_row T) About.the_row Rule.the_row Global.the_row (Ruled.ghosts T g Ruled.no_dict) Heap.ghosts)
  words_send = table_send unit (View.the_row T) About.the_row Rule.the_row Global.the_row (Ruled.ghosts T g Ruled.no_dict) Heap.ghosts unit_send heap_send frees

  pub chronicle_sync : IsSync (Chronicle.the_row T g)
  chronicle_sync =
      let inside : IsSync (Whole.the_row T g) = declared_sync (Whole.the_type T g) (words_sync, (snapshot_sync (Seat.the_row unit (View.the_row T)), tt)) in
      view_sync _ _ _ _ _ inside

  pub chronicle_send : IsSend (Chronicle.the_row T g)
  chronicle_send =
      let inside : IsSend (Whole.the_row T g) = declared_send (Whole.the_type T g) (words_send, (snapshot_send (Seat.the_row unit (View.the_row T)), tt)) in
      view_send _ _ _ _ _ inside
