use Rattle.edit_session.proofs.Alike.{replies_begin_so}
use Rattle.edit_session.proofs.laws.replies_begin.Goals as goal

pub returns : goal.returns
returns c =
    replies_begin_so c.args.points.now c.args.start.now
    (record { accepted = c.len-count.ensures.accepted; ascending = c.requires.ascending; triangulation = c.requires.triangulation; legal = tt })
