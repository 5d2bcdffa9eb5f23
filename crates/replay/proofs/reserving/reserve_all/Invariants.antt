use Rattle.std.proofs.Common.{take}
use Rattle.replay.specs.declared.reserving.TheConstants.{ROOM}
use Rattle.replay.specs.Room.{HasRoomForAll, HaveMoreRoom}
use Rattle.replay.proofs.reserving.reserve_all.Given as goal

abbrev pub invariant-loop-edit : goal.invariant-loop-edit
invariant-loop-edit l = HaveMoreRoom ROOM l.initial.stars l.stars × HasRoomForAll ROOM l.stars (take l.edit-index l.edits)
