use Rattle.round_defs.proofs.laws.Looks.{sight_is}
use Rattle.round_defs.proofs.laws.look_is_sight.Goals as goal

pub returns : goal.returns
returns c = λ start J v stamp a so hv is right. sight_is c.args.points.now start J v stamp a c.len-count.ensures.accepted so hv is right
