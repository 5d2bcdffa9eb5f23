use Rattle.std.proofs.Common.{◌++◌}
use Rattle.round_defs.proofs.laws.Fresh.{fresh_not_ahead, twice_handed}
use Rattle.round_defs.proofs.laws.stamps_do_not_count.Goals as goal

pub returns : goal.returns
returns c = λ start J L K p fresh h. twice_handed c.args._points.now start (J ++ L) K p (fresh_not_ahead J L p.claims fresh) h
