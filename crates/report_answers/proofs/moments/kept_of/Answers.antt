use Rattle.std.proofs.Common.{ap, length, arith}
use Rattle.report_answers.proofs.Rewinds.{kept_moment}
use Rattle.report_answers.proofs.moments.kept_of.Goals as goal

pub kept_after-requires : goal.kept_after-requires
kept_after-requires c = let e = ap length c.in_ok-core.ensures.journal in omega (arith, e, c.requires.few, c.from-moment.ensures)

pub returns : goal.returns
returns c =
    kept_moment c.args.report.now c.in_ok-core.core c.args.k c.from-moment.result c.kept_after.result c.in_ok-core.ensures.start c.in_ok-core.ensures.journal c.from-moment.ensures c.kept_after.ensures.kept
