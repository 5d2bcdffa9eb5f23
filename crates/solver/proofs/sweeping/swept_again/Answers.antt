use Rattle.std.proofs.Common.{◌≤◌, length, subst, arith}
use Rattle.plane.specs.Accepted.{AreAccepted}
use Rattle.journal_defs.specs.Journal.{replay}
use Rattle.run_defs.proofs.laws.Fewer.{kept_fewer}
use Rattle.solver.proofs.sweeping.swept_again.Goals as goal

pub sweep-requires : goal.sweep-requires
sweep-requires c =
    let core = c.points.ensures.core in
    let kept : length (replay c.args.core.start c.args.core.journal).kept ≤ length c.args.core.start =
    kept_fewer c.args.core.points c.args.core.start c.args.core.journal (subst AreAccepted c.points.ensures.points c.len-count.ensures.accepted) core.ascending core.triangulation core.legal in
    record { few = omega (arith, kept, c.requires.start, c.requires.few) }
