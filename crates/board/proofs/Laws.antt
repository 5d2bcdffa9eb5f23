-- What may cross threads: a pass may go to another one, and a board may be shared.
use denote.Param.Send.{IsSend, IsSync, view_send, view_sync}
use denote.Param.SendFields.{declared_send, declared_sync}
use Rattle.std.proofs.Crossing.{Vec-send}
use Rattle.edit.specs.contracts.look.Look as Look
use Rattle.seats.proofs.Laws.{seat_send, look_send, shelf_sync}
use Rattle.board.specs.contracts.board.Pass as Pass
use Rattle.board.specs.contracts.board.Pass.TheInside as PassInside
use Rattle.board.specs.contracts.board.Board as Board
use Rattle.board.specs.contracts.board.Board.TheInside as BoardInside

pub pass_send : IsSend Pass.the_row
pass_send =
    let inside : IsSend PassInside.the_row = declared_send PassInside.the_type (seat_send, (Vec-send Look.the_row look_send, tt)) in
    view_send _ _ _ _ _ inside

pub board_sync : IsSync Board.the_row
board_sync =
    let inside : IsSync BoardInside.the_row = declared_sync BoardInside.the_type (shelf_sync, tt) in
    view_sync _ _ _ _ _ inside
