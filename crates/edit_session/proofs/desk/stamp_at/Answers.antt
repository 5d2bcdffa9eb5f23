use Rattle.edit_session.proofs.Stamps.{stamped_at}
use Rattle.edit_session.proofs.desk.stamp_at.Goals as goal

pub returns : goal.returns
returns c = stamped_at c.args.stamps.now c.args.v c.args.number c.requires
