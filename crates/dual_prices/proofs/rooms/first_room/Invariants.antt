use Rattle.dual_prices.specs.Rooms.{IsLeastRoom}
use Rattle.dual_prices.proofs.rooms.first_room.Given as goal

abbrev pub invariant-loop-end : goal.invariant-loop-end
invariant-loop-end l = IsLeastRoom l.points l.costs l.q l.kept.rows l.row l.p 0 l.least
