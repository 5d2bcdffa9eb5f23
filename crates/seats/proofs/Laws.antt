-- What may cross threads: a seat may go to another one, and a shelf may be shared.
use denote.Builtin.{unit}
use denote.Param.{number}
use denote.Param.Send.{IsSend, IsSync, sendable, view_send, view_sync}
use denote.Param.SendFields.{declared_send, declared_sync, variants_send}
use Rattle.core.proofs.snapshot.Sent.{snapshot_send}
use Rattle.std.proofs.Crossing.{Vec-send, Vec-sync}
use Rattle.arrayvec.specs.contracts.cells.Cells as Cells
use Rattle.arrayvec.specs.contracts.array_vec.ArrayVec as ArrayVec
use Rattle.arrayvec.specs.contracts.array_vec.ArrayVec.TheInside as ArrayVecInside
use Rattle.plane.specs.contracts.accepted.Points as Points
use Rattle.plane.specs.contracts.accepted.Points.TheInside as PointsInside
use Rattle.plane.specs.contracts.coordinates.Point as Point
use Rattle.plane.specs.contracts.segment.Pair as Pair
use Rattle.star.specs.contracts.star.Star as Star
use Rattle.star.specs.contracts.star.Star.TheInside as StarInside
use Rattle.edit.specs.contracts.look.Look as Look
use Rattle.journal_defs.specs.contracts.commit.Commit as Commit
use Rattle.journal_defs.specs.contracts.edit.Edit as Edit
use Rattle.journal_defs.specs.contracts.edit.EditList as EditList
use Rattle.journal_defs.specs.contracts.edit.EditList.TheInside as EditListInside
use Rattle.journal_defs.specs.contracts.commit.CommitEntry.TheImpl.{ghosts}
use Rattle.chronicle.proofs.Laws.{share_send, chronicle_sync}
use Rattle.vertex_claims.proofs.Laws.{holder_send, claims_sync}
use Rattle.seats.specs.contracts.cells.Cell as Cell
use Rattle.seats.specs.contracts.cells.Root as Root
use Rattle.seats.specs.contracts.cells.CellHeld.TheImpl as Held
use Rattle.seats.specs.contracts.shelf.Shelf as Shelf
use Rattle.seats.specs.contracts.shelf.Shelf.TheInside as ShelfInside
use Rattle.seats.specs.contracts.shelf.Seat as Seat
use Rattle.seats.specs.contracts.shelf.Seat.TheInside as SeatInside

pub star_send : IsSend Star.the_row
star_send =
    let inside : IsSend StarInside.the_row = declared_send StarInside.the_type (search sendable, (Vec-send _ (search sendable), (Vec-send _ (search sendable), (search sendable, (search sendable, (snapshot_send Points.the_row, tt)))))) in
    view_send _ _ _ _ _ inside

pub look_send : IsSend Look.the_row
look_send = declared_send Look.the_type (star_send, (search sendable, tt))

edit_send : IsSend Edit.the_row
edit_send = variants_send Edit.enum (search sendable)

cells_send : IsSend (Cells.the_row Edit.the_row (number 8))
cells_send = declared_send (Cells.the_type Edit.the_row (number 8)) (search (edit_send, sendable) depth 30, tt)

array_send : IsSend (ArrayVec.the_row Edit.the_row (number 8) unit)
array_send =
    let inside : IsSend (ArrayVecInside.the_row Edit.the_row (number 8) unit) = declared_send (ArrayVecInside.the_type Edit.the_row (number 8) unit) (cells_send, (search sendable, (search sendable, tt))) in
    view_send _ _ _ _ _ inside

edits_send : IsSend EditList.the_row
edits_send =
    let inside : IsSend EditListInside.the_row = declared_send EditListInside.the_type (array_send, tt) in
    view_send _ _ _ _ _ inside

commit_send : IsSend Commit.the_row
commit_send = declared_send Commit.the_type (search sendable, (search sendable, (edits_send, tt)))

pub cell_send : IsSend Cell.the_row
cell_send =
    let share = share_send Commit.the_row ghosts in
    variants_send Cell.enum ((look_send, (share, tt)), ((Vec-send Commit.the_row commit_send, (share, tt)), tt))

pub seat_send : IsSend Seat.the_row
seat_send =
    let inside : IsSend SeatInside.the_row = declared_send SeatInside.the_type (holder_send Cell.the_row Root.the_row Held.ghosts cell_send, (share_send Commit.the_row ghosts, (search sendable, (search sendable, tt)))) in
    view_send _ _ _ _ _ inside

points_sync : IsSync Points.the_row
points_sync =
    let inside : IsSync PointsInside.the_row = declared_sync PointsInside.the_type (Vec-sync Point.the_row (search sendable), (search sendable, tt)) in
    view_sync _ _ _ _ _ inside

root_sync : IsSync Root.the_row
root_sync = declared_sync Root.the_type (points_sync, (Vec-sync Pair.the_row (search sendable), (search sendable, (chronicle_sync Commit.the_row ghosts, tt))))

pub shelf_sync : IsSync Shelf.the_row
shelf_sync =
    let inside : IsSync ShelfInside.the_row = declared_sync ShelfInside.the_type (root_sync, (claims_sync Cell.the_row Root.the_row Held.ghosts cell_send, (search sendable, tt))) in
    view_sync _ _ _ _ _ inside
