use Rattle.std.proofs.Common.{sym}
use Rattle.given_sums.proofs.Added.{added_none}
use Rattle.given_sums.proofs.adding.add_row.Goals as goal

pub returns-in_default : goal.returns-in_default
returns-in_default c = added_none c.args.points.now c.args.row c.args.first c.args.width c.args.sums.now (sym c.in_default.ensures)
