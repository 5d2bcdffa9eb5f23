use Rattle.replay.proofs.Changed.{rebuilt, agreed_as}
use Rattle.replay.proofs.machine.again.Goals as goal

pub from_stars-requires : goal.from_stars-requires
from_stars-requires c =
    (c.args.all.all, c.args.all.kept, agreed_as c.args.points.now c.args.all c.into_stars-stars.result.items c.requires c.into_stars-stars.ensures.stars c.into_stars-stars.ensures.subdivision)

pub returns-clause-all : goal.returns-clause-all
returns-clause-all c =
    (rebuilt c.args.all c.from_stars.result c.into_stars-stars.ensures.subdivision c.from_stars.ensures.subdivision
    (c.from_stars.ensures.same c.args.all.all c.args.all.kept (agreed_as c.args.points.now c.args.all c.into_stars-stars.result.items c.requires c.into_stars-stars.ensures.stars c.into_stars-stars.ensures.subdivision))).0

pub returns-clause-kept : goal.returns-clause-kept
returns-clause-kept c =
    (rebuilt c.args.all c.from_stars.result c.into_stars-stars.ensures.subdivision c.from_stars.ensures.subdivision
    (c.from_stars.ensures.same c.args.all.all c.args.all.kept (agreed_as c.args.points.now c.args.all c.into_stars-stars.result.items c.requires c.into_stars-stars.ensures.stars c.into_stars-stars.ensures.subdivision))).1
