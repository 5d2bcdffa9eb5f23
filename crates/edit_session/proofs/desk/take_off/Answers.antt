use Rattle.std.proofs.Common.{◌≡◌, length, arith}
use Rattle.edit_session.proofs.Stamps.{popped}
use Rattle.edit_session.proofs.desk.take_off.Goals as goal

pub returns : goal.returns
returns c =
    let old = c.args.list.now in
    let count : old.len ≡ length old.items = omega (arith, old.ok) in
    popped old.items c.pop.new.self.items c.requires.0 c.args.number old.len count c.pop.ensures.rest c.requires.1
