use Rattle.dual_prices.specs.Rooms.{IsLeastRoom}
use Rattle.dual_prices.proofs.rooms.least_room.Given as goal

abbrev pub invariant-loop-r : goal.invariant-loop-r
invariant-loop-r l = IsLeastRoom l.points l.costs l.q l.kept.rows l.row l.p l.r l.least
