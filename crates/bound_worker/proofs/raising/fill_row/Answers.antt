use Rattle.std.proofs.Common.{refl, arith}
use Rattle.bound_worker.proofs.Settled.{noted_end, noted_none}
use Rattle.bound_worker.proofs.raising.fill_row.Goals as goal

pub returns-in-Some-clause-ends : goal.returns-in-Some-clause-ends
returns-in-Some-clause-ends c =
    noted_end c.args.points.now c.args.costs.now c.args.q c.args.k c.in-Some.end c.raise_row.new.kept.rows c.args.ends.now.items _ (omega (arith, c.requires.place, c.requires.count)) refl c.in-Some.ensures.end
