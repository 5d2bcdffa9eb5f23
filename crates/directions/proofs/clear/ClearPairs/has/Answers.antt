use Rattle.directions.proofs.Cleared.{told, has_room}
use Rattle.directions.proofs.clear.ClearPairs.has.Goals as goal

pub has_pair-requires-clause-room : goal.has_pair-requires-clause-room
has_pair-requires-clause-room c =
    has_room c.args.self.now c.self.inside.points.value c.self.inside.table.items c.as_slice.result.now c.args.e.lo c.args.e.hi c.self.view_is c.as_slice.ensures.value c.self.invariant.1 c.args.e.ordered c.requires

pub returns : goal.returns
returns c =
    told c.args.self.now c.self.inside.points.value c.self.inside.table.items c.as_slice.result.now c.args.e.lo c.args.e.hi c.has_pair.result c.self.view_is c.as_slice.ensures.value c.self.invariant.0 c.self.invariant.1
    c.args.e.ordered c.requires c.has_pair.ensures
