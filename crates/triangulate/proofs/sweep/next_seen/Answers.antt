use Rattle.std.proofs.Common.{sym, length}
use Rattle.triangulate.proofs.Seen.{ends_in}
use Rattle.triangulate.proofs.sweep.next_seen.Goals as goal

pub is_beyond-requires-clause-a_in : goal.is_beyond-requires-clause-a_in
is_beyond-requires-clause-a_in c = (ends_in (length c.args.points.now) c.args.chain.now c.in_ok-a.a c.in_ok-a.b (sym c.in_ok-a.ensures) c.requires.chain_in).0
