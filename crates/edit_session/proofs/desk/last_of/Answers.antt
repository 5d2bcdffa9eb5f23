use Rattle.std.proofs.Common.{◌-◌, length, take, arith}
use Rattle.edit_session.proofs.Stamps.{none_of, last_part}
use Rattle.edit_session.proofs.desk.last_of.Goals as goal

pub returns-then-count-eq0 : goal.returns-then-count-eq0
returns-then-count-eq0 c = none_of c.args.list.now c.if-count-eq0.true

pub returns : goal.returns
returns c = (take (length c.args.list.now - 1) c.args.list.now, last_part c.args.list.now (omega arith))
