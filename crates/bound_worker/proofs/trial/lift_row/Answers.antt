use Rattle.std.proofs.Common.{List, Some, subst}
use Rattle.price_defs.specs.declared.row.Row.{Row}
use Rattle.bound_worker.specs.Places.{IsPlace}
use Rattle.bound_worker.proofs.Lists.{lifted_at}
use Rattle.bound_worker.proofs.Settled.{lifted_settled}
use Rattle.bound_worker.proofs.trial.lift_row.Goals as goal

pub returns-in-Some-clause-lifted : goal.returns-in-Some-clause-lifted
returns-in-Some-clause-lifted c =
    lifted_at c.args.points.now c.args.costs.now c.args.q c.args.p c.args.r c.in-Some.k c.args.kept.now.rows c.fill_row.new.kept.rows
    (subst (λ (x : List Row). IsPlace c.args.p c.args.r x (Some c.in-Some.k)) c.rows.ensures.rows c.in-Some.ensures) c.fill_row.ensures.rows

pub returns-in-Some-clause-settled : goal.returns-in-Some-clause-settled
returns-in-Some-clause-settled c =
    lifted_settled c.args.points.now c.args.costs.now c.args.q c.args.p c.in-Some.k c.args.kept.now.rows c.fill_row.new.kept.rows c.args.ends.now.items c.fill_row.new.ends.items c.fill_row.ensures.rows c.fill_row.ensures.ends c.requires.valid c.requires.settled
